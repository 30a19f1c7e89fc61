use Rattle.std.proofs.Common.{◌≡◌, ◌≢◌, ℕ, ◌<◌, [], ◌∷◌, get_or}
use Rattle.ps_join.proofs.gates.others_stay.Given as goal

abbrev pub invariant-loop-i : goal.invariant-loop-i
invariant-loop-i l = (j : ℕ) → j < l.i → j ≢ l.q → get_or l.outs j [] ≡ (j ∷ []) ∷ []
