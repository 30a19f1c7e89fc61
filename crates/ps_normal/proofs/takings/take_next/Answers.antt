use Rattle.std.proofs.Common.{sym, subst}
use Rattle.std.proofs.lemmas.Result.{IfOk-weaker}
use Rattle.ps_normal.specs.Keeping.{IsTable}
use Rattle.ps_normal.proofs.Tables.{leaf_again}
use Rattle.ps_normal.proofs.Taking.{joined_cases}
use Rattle.ps_normal.proofs.takings.take_next.Goals as goal

pub take_kept-requires-clause-kept : goal.take_kept-requires-clause-kept
take_kept-requires-clause-kept g c = c.in-Some.ensures c.args.n (subst (IsTable c.args.n) (sym c.deref.ensures.value) c.requires.table)

pub returns-in_ok-push_moves-in-Some-clause-taken : goal.returns-in_ok-push_moves-in-Some-clause-taken
returns-in_ok-push_moves-in-Some-clause-taken g c = IfOk-weaker c.take_kept.result _ _
    (λ q j A more w. joined_cases c.args.n c.args.place A more c.args.moves.now.items c.push_moves.new.moves.items c.take_kept.new.moves.items c.args.prim.now c.args.sum c.in-Some.kept.now.gate.sum.value q
    (leaf_again c.args.n c.args.place c.args.prim.now c.in-Some.kept.now c.deref-in-Some-2.result.now c.args.moves.now.items c.push_moves.new.moves.items
    (c.in-Some.ensures c.args.n (subst (IsTable c.args.n) (sym c.deref.ensures.value) c.requires.table)) c.deref-in-Some-2.ensures.value c.in_ok-push_moves-in-Some.ensures) j w)
    c.take_kept.ensures.part
