use Rattle.std.proofs.Common.{ℕ, suc, ◌-◌, length}
use Rattle.ps_normal.specs.Keeping.{IsTable}
use Rattle.ps_normal.proofs.leaves.keep.Given as goal

abbrev pub invariant-slots : goal.invariant-slots
invariant-slots l = record { table : (n : ℕ) → IsTable n l.fn.leaves.items → IsTable n l.leaves.items }

abbrev pub decreases-slots : goal.decreases-slots
decreases-slots l = suc l.slot - length l.leaves.items
