use Rattle.std.proofs.Common.{◌≡◌, ℕ, ◌<◌, ◌≤◌, get_or}
use Rattle.ps_sum.proofs.tables.is_zero.Given as goal

abbrev pub invariant-loop-i : goal.invariant-loop-i
invariant-loop-i l = (j : ℕ) → l.from ≤ j → j < l.i → get_or l.table j 0 ≡ 0
