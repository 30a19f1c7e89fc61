use Rattle.ps_desk.proofs.OpenLaws.{opens}
use Rattle.ps_desk.proofs.seat.Desk.new.Goals as goal

pub new-requires : goal.new-requires
new-requires g c =
    let ob = g.O.Object in
    rw (c.push_reserved.ensures.items, c.in-Ok.ensures.items)
    (opens ob.journal ob.spare ob.legal c.args.seats c.args.object c.requires.seats.0 c.requires.seats.1
    c.requires.fresh g.met.O.Object.empty_is_legal c.requires.room)
