use Rattle.std.proofs.Common.{ℕ, ◌<◌, [], length, get_or}
use Rattle.ps_join.proofs.gating.all_short.Given as goal

abbrev pub invariant-loop-output : goal.invariant-loop-output
invariant-loop-output l = (i : ℕ) → i < l.output-index → length (get_or l.outs i []) < 32768
