use Rattle.std.proofs.Common.{◌≡◌, ℕ, Bool, false, not, ◌&&◌, nat_eq, drop, List}
use Rattle.std.specs.List.{filter}
use Rattle.ps_mono.specs.Sets.{stands}
use Rattle.ps_mono.specs.Truth.{differ, with_value}
use Rattle.ps_bool.specs.Polys.{bool_value, occurs}
use Rattle.ps_bool.proofs.gather.replaced.Given as goal

abbrev pub invariant-loop-mono : goal.invariant-loop-mono
invariant-loop-mono l = record {
  value : (a : ℕ → Bool) → differ (bool_value l.out.items a) (bool_value (filter (λ (m : List ℕ). stands l.v m) (drop l.mono-index l.monos)) (with_value a l.v (bool_value l.by a))) ≡ bool_value (filter (λ (m : List ℕ). stands l.v m) l.monos) (with_value a l.v (bool_value l.by a));
  variables : (u : ℕ) → (occurs u l.monos && not (nat_eq u l.v)) ≡ false → occurs u l.by ≡ false → occurs u l.out.items ≡ false;
}
