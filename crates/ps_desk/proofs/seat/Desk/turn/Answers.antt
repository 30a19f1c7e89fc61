use Rattle.std.proofs.Common.{refl, ◌∙◌, arith}
use Rattle.ps_desk.proofs.StepLaws.{draw_allowed}
use Rattle.ps_desk.proofs.seat.Desk.turn.Goals as goal

pub fetch_add-ticket-requires : goal.fetch_add-ticket-requires
fetch_add-ticket-requires g c =
    let ob = g.O.Object in
    let desk = c.args.self.now in
    let r = c.args.seat.now.rests in (
      c.requires.desk,
      omega arith,
      draw_allowed ob.journal ob.spare ob.legal _ _ _ _ _ desk.slots refl r.live r.holds r.ticket r.found (r.refused_is ∙ c.in_default.is),
    )
