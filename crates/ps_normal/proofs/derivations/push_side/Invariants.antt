use Rattle.std.proofs.Common.{◌≡◌, ◌++◌, take}
use Rattle.ps_normal.specs.Deriving.{side_lines}
use Rattle.ps_normal.proofs.derivations.push_side.Given as goal

abbrev pub invariant-loop-step : goal.invariant-loop-step
invariant-loop-step l = l.lines.items ≡ l.fn.lines.items ++ side_lines l.fn.b (take l.step-index l.fn.moves)
