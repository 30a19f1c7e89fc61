use Rattle.std.proofs.Common.{◌≡◌, ℕ, take}
use Rattle.ps_mono.specs.Sets.{stands}
use Rattle.ps_sum.specs.Names.{opened}
use Rattle.ps_sum.proofs.renaming.closed_mono.Given as goal

abbrev pub invariant-loop-place : goal.invariant-loop-place
invariant-loop-place l = (w : ℕ) → stands w l.out ≡ stands (opened l.v w) (take l.place l.mono)
