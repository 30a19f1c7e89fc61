use Rattle.std.proofs.Common.{◌≡◌, ◌++◌, take}
use Rattle.ps_normal.specs.Deriving.{step_lines}
use Rattle.ps_normal.proofs.derivations.push_steps.Given as goal

abbrev pub invariant-loop-step : goal.invariant-loop-step
invariant-loop-step l = l.lines.items ≡ l.fn.lines.items ++ step_lines (take l.step-index l.fn.steps)
