use Rattle.std.proofs.Common.{◌≡◌, drop}
use Rattle.ps_mono.specs.Sets.{stands}
use Rattle.ps_mono.specs.Truth.{differ}
use Rattle.ps_bool.specs.Polys.{bool_value}
use Rattle.ps_bool.proofs.poly.BoolPoly.eval.Given as goal

abbrev pub invariant-loop-mono : goal.invariant-loop-mono
invariant-loop-mono l = bool_value l.mono-items (λ v. stands v l.at) ≡ differ l.odd (bool_value (drop l.mono-index l.mono-items) (λ v. stands v l.at))
