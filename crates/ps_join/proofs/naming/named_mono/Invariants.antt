use Rattle.std.proofs.Common.{◌≡◌, ℕ, take}
use Rattle.ps_mono.specs.Sets.{stands}
use Rattle.ps_join.specs.Naming.{stands_as}
use Rattle.ps_join.proofs.naming.named_mono.Given as goal

abbrev pub invariant-loop-place : goal.invariant-loop-place
invariant-loop-place l = (w : ℕ) → stands w l.out ≡ stands_as l.names.n l.names.m1 l.names.m2 w (take l.place l.mono)
