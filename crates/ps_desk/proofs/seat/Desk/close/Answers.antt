use Rattle.std.proofs.Common.{sym, ◌∙◌, subst, arith}
use Rattle.ps_desk.specs.Seats.{Closed}
use Rattle.ps_desk.proofs.CloseLaws.{closes_final, is_there, some_same}
use Rattle.ps_desk.proofs.ListLemmas.{no_length}
use Rattle.ps_desk.proofs.seat.Desk.close.Goals as goal

pub unwrap-requires : goal.unwrap-requires
unwrap-requires g c =
    let ob = g.O.Object in
    let r = c.args.seat.rests in
    let t = closes_final ob.journal ob.spare ob.legal _ _ _ _ _ r.live c.requires.first r.found r.ticket (omega arith) c.close_with-closed.ensures.values.2 in
    let is = is_there _ t.0 c.take-object.result t.1 c.take-object.ensures.value in
    rw is

pub returns-clause-closed : goal.returns-clause-closed
returns-clause-closed g c =
    let ob = g.O.Object in
    let r = c.args.seat.rests in
    let t = closes_final ob.journal ob.spare ob.legal _ _ _ _ _ r.live c.requires.first r.found r.ticket (omega arith) c.close_with-closed.ensures.values.2 in
    let is = is_there _ t.0 c.take-object.result t.1 c.take-object.ensures.value in
    subst (λ k. Closed ob.legal c.args.seat.token.me.0 (ob.journal k)) (some_same t.0 c.unwrap.result (sym is ∙ c.unwrap.ensures)) t.2

pub returns-clause-all_in : goal.returns-clause-all_in
returns-clause-all_in g c = no_length _ (omega arith)
