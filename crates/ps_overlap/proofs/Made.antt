-- What the overlap's record is.
use Rattle.std.proofs.Common.{◌≡◌, ℕ, ap, ap₂, ◌∙◌, arith, ◌<◌, ◌≤◌, SFits, to_z, of_z, w32, ◌≤ℤ◌, List, [], length, false}
use Rattle.std.proofs.Math.IntN.{ℤ, pos, negsuc, ◌+ℤ◌}
use Rattle.std.proofs.lemmas.Int.{ints, to_z-of_z}
use Rattle.ps_sum.specs.Forms.{AllPolys}
use Rattle.ps_sum.specs.Outs.{outs_occur}

-- ---- the scale
fits_of : (k : ℤ) → (negsuc 1999999999 ≤ℤ k) × (k ≤ℤ pos 2000000000) → SFits w32 k
fits_of k b = omega (arith, ints)

fits_sum : (j k : ℤ) (s : ℕ) → s ≤ 128 → (negsuc 1999999999 ≤ℤ (j +ℤ k +ℤ pos s)) × ((j +ℤ k +ℤ pos s) ≤ℤ pos 2000000000) → SFits w32 (j +ℤ k)
fits_sum j k s h b = omega (arith, ints)

small_shown : (s : ℕ) → s ≤ 128 → to_z w32 s ≡ pos s
small_shown s h = omega (arith, ints)

pub scale_is : (j k : ℤ) (s : ℕ) → (negsuc 1999999999 ≤ℤ j) × (j ≤ℤ pos 2000000000) → (negsuc 1999999999 ≤ℤ k) × (k ≤ℤ pos 2000000000) → s ≤ 128 → (negsuc 1999999999 ≤ℤ (j +ℤ k +ℤ pos s)) × ((j +ℤ k +ℤ pos s) ≤ℤ pos 2000000000)
    → to_z w32 (of_z w32 (to_z w32 (of_z w32 (to_z w32 (of_z w32 j) +ℤ to_z w32 (of_z w32 k))) +ℤ to_z w32 s)) ≡ j +ℤ k +ℤ pos s
scale_is j k s bj bk h b =
    let e : to_z w32 (of_z w32 j) +ℤ to_z w32 (of_z w32 k) ≡ j +ℤ k = ap₂ (λ x y. x +ℤ y) (to_z-of_z w32 j (fits_of j bj)) (to_z-of_z w32 k (fits_of k bk)) in
    ap (λ x. to_z w32 (of_z w32 (to_z w32 (of_z w32 x) +ℤ to_z w32 s))) e
    ∙ ap₂ (λ x y. to_z w32 (of_z w32 (x +ℤ y))) (to_z-of_z w32 (j +ℤ k) (fits_sum j k s h b)) (small_shown s h)
    ∙ to_z-of_z w32 (j +ℤ k +ℤ pos s) (fits_of (j +ℤ k +ℤ pos s) b)

pub kept_scale : (k r : ℤ) → k ≡ r → (negsuc 1999999999 ≤ℤ r) × (r ≤ℤ pos 2000000000) → to_z w32 (of_z w32 k) ≡ r
kept_scale k r e b = ap (λ x. to_z w32 (of_z w32 x)) e ∙ to_z-of_z w32 r (fits_of r b)

pub kept_bounds : (k r : ℤ) → k ≡ r → (negsuc 1999999999 ≤ℤ r) × (r ≤ℤ pos 2000000000) → (negsuc 1999999999 ≤ℤ to_z w32 (of_z w32 k)) × (to_z w32 (of_z w32 k) ≤ℤ pos 2000000000)
kept_bounds k r e b = rw (kept_scale k r e b) b

-- ---- no outputs
pub no_outs_occur : (fs : List (List (List ℕ))) → fs ≡ [] → (v : ℕ) → outs_occur v fs ≡ false
unfolding outs_occur
no_outs_occur fs e v = ap (outs_occur v) e

pub no_width : (fs : List (List (List ℕ))) (n : ℕ) → fs ≡ [] → 0 < length fs → length fs ≡ n
no_width fs n e h = let l : length fs ≡ 0 = ap (λ (r : List (List (List ℕ))). length r) e in absurd (omega arith)

pub no_polys : (fs : List (List (List ℕ))) → fs ≡ [] → AllPolys fs
no_polys fs e = rw e tt
