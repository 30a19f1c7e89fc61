use Rattle.std.proofs.Common.{subst}
use Rattle.ps_sum.specs.declared.sums.PathSum.{PathSum}
use Rattle.ps_rules.specs.Rules.{Applied}
use Rattle.ps_rules.proofs.Keeps.{applied_keeps, applied_width}
use Rattle.ps_rules.proofs.applying.apply.Goals as goal

pub returns-clause-kept : goal.returns-clause-kept
returns-clause-kept c = applied_keeps c.args.sum.now c.in_ok-taken.field-0 c.args.step c.args.sum.now.formed.0 c.in_ok-parts.ensures.applies
    (subst (λ (S : PathSum). Applied S c.args.step c.in_ok-taken.field-0) c.in_ok-copied.ensures c.in_ok-taken.ensures)

pub returns-clause-width : goal.returns-clause-width
returns-clause-width c = applied_width c.args.sum.now c.in_ok-taken.field-0 c.args.step (subst (λ (S : PathSum). Applied S c.args.step c.in_ok-taken.field-0) c.in_ok-copied.ensures c.in_ok-taken.ensures)
