use Rattle.std.proofs.Common.{◌≡◌, ◌++◌, ◌∷◌, take}
use Rattle.ps_reach.specs.Fillings.{rewrites}
use Rattle.ps_normal.proofs.evidences.push_moves.Given as goal

abbrev pub invariant-loop-step : goal.invariant-loop-step
invariant-loop-step l = l.moves.items ≡ l.fn.moves.items ++ l.fn.first ∷ rewrites (take l.step-index l.fn.steps)
