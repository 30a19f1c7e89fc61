use Rattle.std.proofs.Common.{◌≡◌, ℕ, Bool, false, ◌&&◌, drop}
use Rattle.ps_mono.specs.Sets.{stands, holds}
use Rattle.ps_mono.specs.Truth.{differ}
use Rattle.ps_bool.specs.Polys.{bool_value, occurs}
use Rattle.ps_bool.proofs.gather.push_products.Given as goal

abbrev pub invariant-loop-other : goal.invariant-loop-other
invariant-loop-other l = record {
  value : (a : ℕ → Bool) → differ (bool_value l.out.items a) (holds l.mono a && bool_value (drop l.other-index l.others) a) ≡ differ (bool_value l.initial.out.items a) (holds l.mono a && bool_value l.others a);
  variables : (v : ℕ) → stands v l.mono ≡ false → occurs v l.others ≡ false → occurs v l.initial.out.items ≡ false → occurs v l.out.items ≡ false;
}
