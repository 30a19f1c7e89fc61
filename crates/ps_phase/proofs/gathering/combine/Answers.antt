use Rattle.std.proofs.Common.{arith, ap, vec_items, ◌∙◌}
use Rattle.ps_phase.proofs.Runs.{runs_move, runs_same, runs_other, runs_end, eq_tied, eq_not_tied}
use Rattle.ps_phase.proofs.gathering.combine.Goals as goal
use Rattle.ps_phase.proofs.gathering.combine.Goals.{then-eq, else-eq}

pub loop-i-preserved : goal.loop-i-preserved
loop-i-preserved c = elim c.if-eq.branch [
  | then-eq w ↦ runs_move _ _ _ _ _ _ _ _ _ (ap vec_items w.terms-is) w.kept-is w.run-is
      (runs_same c.args.terms.now.items c.loop-i.terms.items c.loop-i.kept c.loop-i.i _ c.loop-i.run c.index.result.now w.add-run.result c.loop-i.invariant c.loop-i-test.true c.index.ensures c.known.ensures (omega arith) (eq_tied _ c.loop-i.run.mono c.index.result.now.mono c.eq.ensures w.if-eq.true) w.add-run.ensures)
  | else-eq w ↦ runs_move _ _ _ _ _ _ _ _ _ (ap vec_items w.terms-is) w.kept-is w.run-is
      (runs_other c.args.terms.now.items c.loop-i.terms.items _ c.loop-i.kept _ c.loop-i.i _ c.loop-i.run c.index.result.now w.of-else-eq.result c.loop-i.invariant c.loop-i-test.true c.index.ensures c.known.ensures (omega arith) (eq_not_tied _ c.loop-i.run.mono c.index.result.now.mono c.eq.ensures w.if-eq.false) w.put_at-kept.ensures (w.of-else-eq.ensures ∙ c.units-units.ensures))
]

pub returns-clause-items : goal.returns-clause-items
returns-clause-items c = c.truncate.ensures.items ∙ runs_end c.args.terms.now.items c.loop-i.terms.items _ c.loop-i.kept _ c.loop-i.i _ c.loop-i.run c.loop-i.invariant c.loop-i-test.false c.put_at-kept-2.ensures
