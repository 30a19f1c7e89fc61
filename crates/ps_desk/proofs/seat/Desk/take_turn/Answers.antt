use Rattle.std.proofs.Common.{◌∙◌, arith}
use Rattle.ps_desk.proofs.StepLaws.{look_allowed}
use Rattle.ps_desk.proofs.seat.Desk.take_turn.Goals as goal

pub load-serving-requires : goal.load-serving-requires
load-serving-requires g c =
    let ob = g.O.Object in
    let desk = c.args.self.now in
    let free = c.requires.free in
    let i = c.loop.invariant in
    (i.2 ∙ c.requires.desk, omega arith, look_allowed ob.journal ob.spare ob.legal _ _ _ _ _ desk.slots i.3 free.1 free.0 free.2)
