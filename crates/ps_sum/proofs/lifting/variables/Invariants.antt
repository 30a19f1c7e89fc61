use Rattle.std.proofs.Common.{◌≡◌, ℕ, take}
use Rattle.ps_mono.specs.Sets.{stands}
use Rattle.ps_bool.specs.Polys.{occurs}
use Rattle.ps_sum.proofs.lifting.variables.Given as goal

abbrev pub invariant-loop-mono : goal.invariant-loop-mono
invariant-loop-mono l = (v : ℕ) → stands v l.all ≡ occurs v (take l.mono-index l.monos)
