-- The first step, window by window.
use Rattle.std.proofs.Common.{◌≡◌, ℕ, zero, suc, ◌+◌, refl, sym, subst, arith, ◌<◌, ◌≤◌, false, length, get_or, ◌⊎◌, inl, inr, replicate}
use Rattle.std.proofs.lemmas.Bool.{cases_lt}
use Rattle.ps_sum.specs.declared.sums.PathSum.{PathSum}
use Rattle.ps_rules.specs.declared.sights.Sight.{Sight}
use Rattle.ps_rules.specs.Sights.{IsFresh, EachSight, NoneAt, NoneFrom}

pub none_more : (S : PathSum) (low y high : ℕ) → high ≡ y + 1 → NoneFrom S low y → NoneAt S y → NoneFrom S low high
none_more S low y high e h k z a b = by (cases_lt z y)
  where
    by : ((z < y) ⊎ (y ≤ z)) → NoneAt S z
    by (inl l) = h z a l
    by (inr l) = let q : y ≡ z = omega arith in subst (NoneAt S) q k

pub fresh_all : (base n : ℕ) (s : Sight) → IsFresh false s → EachSight (λ v s. IsFresh false s) base (replicate n s)
fresh_all base n s f k d l = subst (IsFresh false) (sym (get_replicate n k l)) f
  where
    get_replicate : (n k : ℕ) → k < length (replicate n s) → get_or (replicate n s) k d ≡ s
    get_replicate zero k h = absurd (omega arith)
    get_replicate (suc n) zero h = refl
    get_replicate (suc n) (suc k) h = get_replicate n k (omega arith)
