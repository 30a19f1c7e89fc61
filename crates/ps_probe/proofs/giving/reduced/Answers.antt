use Rattle.std.proofs.lemmas.Result.{IfOk-weaker}
use Rattle.ps_probe.specs.Giving.{found_by}
use Rattle.ps_probe.proofs.Shown.{normal_inputs, normal_closed, normal_ends, over_ends}
use Rattle.ps_probe.proofs.giving.reduced.Goals as goal

pub shown-requires-clause-inputs : goal.shown-requires-clause-inputs
shown-requires-clause-inputs c = normal_inputs c.args.pattern.now c.args.sum c.in-Normal.sum _ c.in-Normal.is c.in_ok-sum.ensures c.requires.inputs

pub shown-requires-clause-closed : goal.shown-requires-clause-closed
shown-requires-clause-closed c = normal_closed c.args.sum c.in-Normal.sum _ c.in-Normal.is c.in_ok-sum.ensures c.requires.closed

pub returns-in-Normal : goal.returns-in-Normal
returns-in-Normal c = IfOk-weaker c.shown.result _ _ (λ g h. normal_ends c.args.pattern.now c.args.sum c.in-Normal.sum _ (found_by g) c.in-Normal.is c.in_ok-sum.ensures h) c.shown.ensures

pub returns-in_ok-of_step-in-Over : goal.returns-in_ok-of_step-in-Over
returns-in_ok-of_step-in-Over c = over_ends c.args.pattern.now c.args.sum c.in-Over.sum c.in-Over.passed _ _ c.in-Over.is c.in_ok-sum.ensures c.in_ok-of_step-in-Over.ensures
