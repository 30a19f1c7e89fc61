use Rattle.std.proofs.Common.{◌≡◌, ℕ, Bool, false, ◌&&◌, drop}
use Rattle.ps_mono.specs.Truth.{differ}
use Rattle.ps_bool.specs.Polys.{bool_value, occurs}
use Rattle.ps_bool.proofs.gather.products.Given as goal

abbrev pub invariant-loop-x : goal.invariant-loop-x
invariant-loop-x l = record {
  value : (a : ℕ → Bool) → differ (bool_value l.out.items a) (bool_value (drop l.x-index l.xs) a && bool_value l.ys a) ≡ (bool_value l.xs a && bool_value l.ys a);
  variables : (v : ℕ) → occurs v l.xs ≡ false → occurs v l.ys ≡ false → occurs v l.out.items ≡ false;
}
