use Rattle.std.proofs.Common.{arith, ◌∙◌}
use Rattle.ps_desk.specs.Views.{receiving}
use Rattle.ps_desk.proofs.JoinLaws.{joins}
use Rattle.ps_desk.proofs.StepLaws.{settle_allowed}
use Rattle.ps_desk.proofs.RestLaws.{view_joined, seen_joined, rests_joined}
use Rattle.ps_desk.proofs.seat.Desk.join.Goals as goal

pub join_seat-requires : goal.join_seat-requires
join_seat-requires g c =
    let ob = g.O.Object in
    let words = c.args.self.now.words in
    let r = c.args.seat.now.rests in
    let q = c.args.other.rests in (
      c.requires.desk.0,
      c.requires.desk.1,
      q.holds,
      omega arith,
      joins ob.journal ob.spare ob.legal _ _ _ _ _ r.live r.ticket r.found q.live q.ticket q.found c.requires.split,
    )

pub load-requires : goal.load-requires
load-requires g c =
    let ob = g.O.Object in
    let desk = c.args.self.now in
    let words = desk.words in
    let r = c.args.seat.now.rests in
    let made = c.join_seat.ensures in
    let me = c.args.seat.now.token.me in (
      made.0 ∙ c.requires.desk.0,
      omega arith,
      settle_allowed ob.journal ob.spare ob.legal _ _ _ _ (receiving me.0 c.args.other.token.me.0, me.1) desk.slots made.2 r.live r.holds r.found,
    )

pub invariant_of-seat : goal.invariant_of-seat
invariant_of-seat g c = record {
  rests = rests_joined c.args.seat.now.token.me c.join_seat.new.seat.me c.load.new.seat.me c.args.other.token.me.0 _ _ _ _ _ c.args.seat.now.rests
      c.join_seat.ensures.2 c.load.ensures.2 c.requires.split;
}

pub returns-clause-joined : goal.returns-clause-joined
returns-clause-joined g c = view_joined c.args.seat.now.token.me c.join_seat.new.seat.me c.load.new.seat.me c.args.other.token.me.0 _ _ _ _ _
    c.args.seat.now.rests c.join_seat.ensures.2 c.load.ensures.2

pub returns-clause-seen : goal.returns-clause-seen
returns-clause-seen g c = (seen_joined c.args.seat.now.token.me c.join_seat.new.seat.me c.load.new.seat.me c.args.other.token.me.0 _ _ _ _ _
    c.args.seat.now.rests c.join_seat.ensures.2 c.load.ensures.2).0

pub returns-clause-other_seen : goal.returns-clause-other_seen
returns-clause-other_seen g c = (seen_joined c.args.seat.now.token.me c.join_seat.new.seat.me c.load.new.seat.me c.args.other.token.me.0 _ _ _ _ _
    c.args.seat.now.rests c.join_seat.ensures.2 c.load.ensures.2).1
