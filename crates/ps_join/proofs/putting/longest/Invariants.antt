use Rattle.std.proofs.Common.{ℕ, ◌≤◌, ◌<◌, length, get_or, []}
use Rattle.ps_join.proofs.putting.longest.Given as goal

-- none of the outputs so far is longer
abbrev pub invariant-loop-output : goal.invariant-loop-output
invariant-loop-output l = (i : ℕ) → i < l.output-index → length (get_or l.outs i []) ≤ l.most
