use Rattle.std.proofs.Common.{◌≡◌, ◌≢◌, ℕ, ◌<◌, false}
use Rattle.ps_mono.specs.Sets.{stands}
use Rattle.ps_join.proofs.gates.is_only.Given as goal

abbrev pub invariant-loop-input : goal.invariant-loop-input
invariant-loop-input l = (u : ℕ) → u < l.input → u ≢ l.q → stands u l.support ≡ false
