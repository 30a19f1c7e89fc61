use Rattle.std.proofs.Common.{◌≡◌, ◌≤◌, ◌+◌, ◌-◌, ◌++◌, length, drop}
use Rattle.ps_phase.specs.Adding.{add_terms}
use Rattle.ps_phase.proofs.merging.added.Given as goal

abbrev pub invariant-loop-i : goal.invariant-loop-i
invariant-loop-i l = record { i_in : l.i ≤ length l.xs; j_in : l.j ≤ length l.ys; whole : l.out.items ++ add_terms (drop l.i l.xs) (drop l.j l.ys) ≡ add_terms l.xs l.ys }

abbrev pub decreases-loop-i : goal.decreases-loop-i
decreases-loop-i l = (length l.xs - l.i) + (length l.ys - l.j)
