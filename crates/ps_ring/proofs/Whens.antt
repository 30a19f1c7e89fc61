-- A value where a test is true.
use Rattle.std.proofs.Common.{◌≡◌, refl, Bool, true, false}
use Rattle.std.proofs.Math.IntN.{ℤ, pos, ◌+ℤ◌, neg_ℤ}
use Rattle.ps_ring.specs.Numbers.{when}

pub when-neg : (b : Bool) (v : ℤ) → when b (neg_ℤ v) ≡ neg_ℤ (when b v)
unfolding when
when-neg true v = refl
when-neg false v = refl

pub when-add : (b : Bool) (v w : ℤ) → when b (v +ℤ w) ≡ when b v +ℤ when b w
unfolding when
when-add true v w = refl
when-add false v w = refl

-- only what stands where b is true matters
pub when_equal : (b : Bool) (v w : ℤ) → (b ≡ true → v ≡ w) → when b v ≡ when b w
unfolding when
when_equal true v w h = h refl
when_equal false v w h = refl

pub when-true : (v : ℤ) → when true v ≡ v
unfolding when
when-true v = refl

pub when-false : (v : ℤ) → when false v ≡ pos 0
unfolding when
when-false v = refl
