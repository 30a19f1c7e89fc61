use Rattle.std.proofs.Common.{◌≡◌, ◌++◌, not, drop, List, ℕ}
use Rattle.std.specs.List.{filter}
use Rattle.ps_mono.specs.Sets.{stands}
use Rattle.ps_bool.proofs.gather.without_variable.Given as goal

abbrev pub invariant-loop-mono : goal.invariant-loop-mono
invariant-loop-mono l = l.out.items ++ filter (λ (m : List ℕ). not (stands l.v m)) (drop l.mono-index l.monos) ≡ filter (λ (m : List ℕ). not (stands l.v m)) l.monos
