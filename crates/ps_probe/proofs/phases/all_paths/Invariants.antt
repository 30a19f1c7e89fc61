use Rattle.std.proofs.Common.{◌≡◌, ℕ, ◌+◌, cond, nat_lt}
use Rattle.ps_mono.specs.Sets.{stands}
use Rattle.ps_probe.proofs.phases.all_paths.Given as goal

abbrev pub invariant-loop-v : goal.invariant-loop-v
invariant-loop-v l = (v : ℕ) → stands v l.bits ≡ cond (nat_lt v l.v) (stands v l.at) (nat_lt v (l.sum.n + l.sum.m))
