use Rattle.std.proofs.Common.{[], arith, refl, ◌∙◌}
use Rattle.ps_desk.specs.Views.{given}
use Rattle.ps_desk.proofs.SplitLaws.{splits}
use Rattle.ps_desk.proofs.StepLaws.{look_allowed}
use Rattle.ps_desk.proofs.seat.Desk.split.Goals as goal

pub split_seat-token-requires : goal.split_seat-token-requires
split_seat-token-requires g c =
    let ob = g.O.Object in
    let desk = c.args.self.now in
    let words = desk.words in
    let r = c.args.seat.now.rests in
    let spare = r.spare in
    let test = c.if-seat.false in
    (c.requires.desk, omega arith, splits ob.journal ob.spare ob.legal _ _ _ r.live r.ticket r.found (omega arith))

pub load-requires : goal.load-requires
load-requires g c =
    let ob = g.O.Object in
    let desk = c.args.self.now in
    let words = desk.words in
    let made = c.split_seat-token.ensures in (
      made.3 ∙ c.requires.desk,
      omega arith,
      look_allowed ob.journal ob.spare ob.legal _ _ _ _ (given c.args.seat.now.token.me.0, []) desk.slots made.4 refl refl refl,
    )
