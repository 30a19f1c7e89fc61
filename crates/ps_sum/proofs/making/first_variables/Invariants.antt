use Rattle.std.proofs.Common.{◌≡◌, ℕ, nat_lt}
use Rattle.ps_mono.specs.Sets.{stands}
use Rattle.ps_sum.proofs.making.first_variables.Given as goal

abbrev pub invariant-loop-v : goal.invariant-loop-v
invariant-loop-v l = (u : ℕ) → stands u l.bits ≡ nat_lt u l.v
