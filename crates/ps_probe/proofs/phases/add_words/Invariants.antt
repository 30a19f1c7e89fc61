use Rattle.std.proofs.Common.{◌≡◌, ℕ, ◌+◌, ◌%◌, ◌<◌, ◌≤◌, get_or}
use Rattle.ps_probe.proofs.phases.add_words.Given as goal

abbrev pub invariant-loop-i : goal.invariant-loop-i
invariant-loop-i l = ((j : ℕ) → j < l.i → get_or l.high j 0 ≡ (get_or l.fn.high j 0 + get_or l.low j 0) % 4294967296) × ((j : ℕ) → l.i ≤ j → get_or l.high j 0 ≡ get_or l.fn.high j 0)
