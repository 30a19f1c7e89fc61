use Rattle.std.proofs.Common.{◌≡◌, ◌++◌, cond, drop, List, ℕ, []}
use Rattle.std.specs.List.{filter}
use Rattle.ps_mono.specs.Sets.{stands}
use Rattle.ps_bool.proofs.Replacing.{alone}
use Rattle.ps_bool.proofs.poly.BoolPoly.linear_in.Given as goal

abbrev pub invariant-loop-mono : goal.invariant-loop-mono
invariant-loop-mono l = filter (λ (m : List ℕ). stands l.v m) l.mono-items ≡ cond l.found (alone l.v) [] ++ filter (λ (m : List ℕ). stands l.v m) (drop l.mono-index l.mono-items)
