use Rattle.std.proofs.Common.{◌≡◌, ◌≤◌, ◌+◌, ◌-◌, ◌++◌, length, drop}
use Rattle.ps_bool.specs.Merging.{merge}
use Rattle.ps_bool.proofs.merge.merged.Given as goal

abbrev pub invariant-loop-i : goal.invariant-loop-i
invariant-loop-i l = record { i_in : l.i ≤ length l.xs; j_in : l.j ≤ length l.ys; whole : l.out.items ++ merge (drop l.i l.xs) (drop l.j l.ys) ≡ merge l.xs l.ys }

abbrev pub decreases-loop-i : goal.decreases-loop-i
decreases-loop-i l = (length l.xs - l.i) + (length l.ys - l.j)
