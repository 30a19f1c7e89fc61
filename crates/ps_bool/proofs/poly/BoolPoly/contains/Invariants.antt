use Rattle.std.proofs.Common.{◌≡◌, drop}
use Rattle.ps_bool.specs.Polys.{occurs}
use Rattle.ps_bool.proofs.poly.BoolPoly.contains.Given as goal

abbrev pub invariant-loop-mono : goal.invariant-loop-mono
invariant-loop-mono l = occurs l.v l.mono-items ≡ occurs l.v (drop l.mono-index l.mono-items)
