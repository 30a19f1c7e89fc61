-- The overlap of two sums is the inner product of their columns.
use mathlib.Core.Path.{fun_ext}
use mathlib.Core.Bool.{xor}
use Rattle.std.proofs.Common.{◌≡◌, ℕ, zero, suc, ◌+◌, ◌-◌, ◌^◌, refl, ap, ap₂, sym, ◌∙◌, arith, Bool, true, false, List, [], ◌∷◌, ◌++◌, length, length-append, zero-add, inl, inr}
use Rattle.std.proofs.Math.IntN.{ℤ, pos, ◌+ℤ◌, ◌-ℤ◌, ◌*ℤ◌, neg_ℤ, +ℤ_idr}
use Rattle.std.proofs.lemmas.Int.{ints}
use Rattle.ps_ring.specs.Numbers.{Number, IsNumber, one, when, sqrt2, root2, above, SameScaled}
use Rattle.ps_ring.specs.Inner.{inner}
use Rattle.ps_ring.specs.Sums.{total, PathValues, signed_count}
use Rattle.ps_ring.proofs.Turned.{one_number, turned_number, turned_by}
use Rattle.ps_ring.proofs.Roots.{root2_even, same_from, same_path, above_is, same_trans, same_sym, twice_power}
use Rattle.ps_ring.proofs.Inners.{inner_turned, inner_number, inner_add_left, inner_add_right, inner_one, inner_roots, inner_none_left, inner_none_right}
use Rattle.ps_ring.proofs.Totals.{total_ext, total_add, total_times, total_append, total_neg, total_swap, total_at}
use Rattle.ps_ring.proofs.StepLaws.{signed_number}
use Rattle.ps_prim.specs.declared.prims.Primitive.{Primitive as Prim}
use Rattle.ps_prim.specs.Amplitudes.{Truths, Column, same_bits, amplitude, turns}
use Rattle.ps_prim.specs.Maps.{AllWithin, SameAt}
use Rattle.ps_prim.specs.Columns.{inner_over}
use Rattle.ps_prim.specs.Sums.{Denotes}
use Rattle.ps_prim.specs.Overlaps.{OverlapIsInner, OverlapDenotes, IsOne, OverlapOne, OverlapNotOne}
use Rattle.ps_ring.specs.Joins.{pairing, OverlapSum}
use Rattle.ps_prim.proofs.Columns.{amplitude_number}
use Rattle.ps_prim.proofs.Equal.{one_is_same}
use Rattle.ps_prim.proofs.Different.{same_is_one, same_scaled_even}
use Rattle.ps_prim.proofs.Deciding.{same_or_differs}

pairing_none : (n : ℕ) (f g : Truths) (c : Number) (j : ℤ) → total n (λ w. c (j -ℤ pos (0 + pairing w f g))) ≡ total n (λ w. c (j -ℤ pos (pairing w f g)))
pairing_none n f g c j = total_ext n _ _ (λ w l. ap (λ k. c (j -ℤ pos k)) (zero-add (pairing w f g)))

pairing_half : (n : ℕ) (f g : Truths) (c : Number) → IsNumber c → (j : ℤ) → total n (λ w. c (j -ℤ pos (2147483648 + pairing w f g))) ≡ neg_ℤ (total n (λ w. c (j -ℤ pos (pairing w f g))))
pairing_half n f g c h j = total_ext n _ (λ w. neg_ℤ (c (j -ℤ pos (pairing w f g)))) (λ w l.
    let e : j -ℤ pos (pairing w f g) ≡ j -ℤ pos (2147483648 + pairing w f g) +ℤ pos 2147483648 = omega (arith, ints) in
    let r : c (j -ℤ pos (pairing w f g)) ≡ neg_ℤ (c (j -ℤ pos (2147483648 + pairing w f g))) = ap c e ∙ h _ in
    omega (arith, ints)) ∙ total_neg n _

-- over all w, the paths whose outputs are equal count 2^n times, and the others cancel
pub pairing_total : (n : ℕ) (f g : Truths) → length f ≡ n → length g ≡ n → (c : Number) → IsNumber c → (j : ℤ) → total n (λ w. c (j -ℤ pos (pairing w f g))) ≡ pos (2 ^ n) *ℤ when (same_bits f g) (c j)
unfolding total pairing same_bits when xor
pairing_total zero [] [] lf lg c h j = ap c (+ℤ_idr j) ∙ one_times (c j)
  where
    one_times : (k : ℤ) → k ≡ pos 1 *ℤ k
    one_times k = omega (arith, ints)
pairing_total zero (x ∷ f) g lf lg c h j = absurd (omega arith)
pairing_total zero [] (y ∷ g) lf lg c h j = absurd (omega arith)
pairing_total (suc n) [] g lf lg c h j = absurd (omega arith)
pairing_total (suc n) (x ∷ f) [] lf lg c h j = absurd (omega arith)
pairing_total (suc n) (true ∷ f) (true ∷ g) lf lg c h j =
    let r = pairing_none n f g c j ∙ pairing_total n f g (omega arith) (omega arith) c h j in
    ap₂ (λ a b. a +ℤ b) r r ∙ sym (twice_power n _)
pairing_total (suc n) (true ∷ f) (false ∷ g) lf lg c h j =
    let r = pairing_none n f g c j in
    let s = pairing_half n f g c h j in
    omega (arith, ints)
pairing_total (suc n) (false ∷ f) (true ∷ g) lf lg c h j =
    let r = pairing_none n f g c j in
    let s = pairing_half n f g c h j in
    omega (arith, ints)
pairing_total (suc n) (false ∷ f) (false ∷ g) lf lg c h j =
    let r = pairing_none n f g c j ∙ pairing_total n f g (omega arith) (omega arith) c h j in
    ap₂ (λ a b. a +ℤ b) r r ∙ sym (twice_power n _)

pub inner_total_left : (m : ℕ) (C : Truths → Number) (d : Number) (j : ℤ) → inner (λ i. total m (λ y. C y i)) d j ≡ total m (λ y. inner (C y) d j)
unfolding total
inner_total_left zero C d j = refl
inner_total_left (suc m) C d j = inner_add_left _ _ d j ∙ ap₂ (λ a b. a +ℤ b) (inner_total_left m (λ y. C (false ∷ y)) d j) (inner_total_left m (λ y. C (true ∷ y)) d j)

pub inner_total_right : (m : ℕ) (c : Number) (D : Truths → Number) (j : ℤ) → inner c (λ i. total m (λ y. D y i)) j ≡ total m (λ y. inner c (D y) j)
unfolding total
inner_total_right zero c D j = refl
inner_total_right (suc m) c D j = inner_add_right c _ _ j ∙ ap₂ (λ a b. a +ℤ b) (inner_total_right m c (λ y. D (false ∷ y)) j) (inner_total_right m c (λ y. D (true ∷ y)) j)

sqrt2_sum : (m : ℕ) (C : Truths → Number) (j : ℤ) → total m (λ y. sqrt2 (C y) j) ≡ sqrt2 (λ i. total m (λ y. C y i)) j
unfolding sqrt2
sqrt2_sum m C j = total_add m _ _

root2_sum : (a m : ℕ) (C : Truths → Number) (j : ℤ) → total m (λ y. root2 a (C y) j) ≡ root2 a (λ i. total m (λ y. C y i)) j
unfolding root2
root2_sum zero m C j = refl
root2_sum (suc a) m C j = sqrt2_sum m (λ y. root2 a (C y)) j ∙ ap (λ c. sqrt2 c j) (fun_ext (root2_sum a m C))

pub over_number : (n : ℕ) (v w : Column) → ((z : Truths) → IsNumber (w z)) → IsNumber (inner_over n v w)
unfolding inner_over
over_number n v w h j = total_ext n _ (λ z. neg_ℤ (inner (v z) (w z) j)) (λ z l. inner_number (v z) (w z) (h z) j) ∙ total_neg n _

over_roots : (n a b : ℕ) (v w : Column) → ((z : Truths) → IsNumber (v z)) → ((z : Truths) → IsNumber (w z)) → inner_over n (λ z. root2 a (v z)) (λ z. root2 b (w z)) ≡ root2 (a + b) (inner_over n v w)
unfolding inner_over
over_roots n a b v w h k = fun_ext (λ j. total_ext n _ (λ z. root2 (a + b) (inner (v z) (w z)) j) (λ z l. ap (λ c. c j) (inner_roots a b (v z) (w z) (h z) (k z))) ∙ root2_sum (a + b) n (λ z. inner (v z) (w z)) j)

term_inner : (b b' : Bool) (p q : ℕ) (j : ℤ) → inner (λ i. when b (one (i -ℤ pos p))) (λ i. when b' (one (i -ℤ pos q))) j ≡ when b (when b' (one (j +ℤ pos p -ℤ pos q)))
unfolding when
term_inner true true p q j = inner_turned one one one_number one_number (pos p) (pos q) j ∙ inner_one one _
term_inner true false p q j = inner_none_right _ j
term_inner false true p q j = inner_none_left _ j
term_inner false false p q j = inner_none_right _ j

same_bits_sym : (f g : Truths) → same_bits f g ≡ same_bits g f
unfolding same_bits
same_bits_sym [] [] = refl
same_bits_sym [] (y ∷ g) = refl
same_bits_sym (x ∷ f) [] = refl
same_bits_sym (true ∷ f) (true ∷ g) = same_bits_sym f g
same_bits_sym (true ∷ f) (false ∷ g) = refl
same_bits_sym (false ∷ f) (true ∷ g) = refl
same_bits_sym (false ∷ f) (false ∷ g) = same_bits_sym f g

-- the paths of both whose outputs are equal
counts_inner : (n : ℕ) (S1 S2 : PathValues) (x : Truths) → ((y : Truths) → length y ≡ S1.m → length (S1.outs x y) ≡ n) → (j : ℤ)
    → inner_over n (signed_count S1 x) (signed_count S2 x) j ≡ total S1.m (λ y. total S2.m (λ w. when (same_bits (S2.outs x w) (S1.outs x y)) (one (j +ℤ pos (S1.phase x y) -ℤ pos (S2.phase x w)))))
unfolding inner_over signed_count
counts_inner n S1 S2 x l j =
    total_ext n _ (λ z. total S1.m (λ y. total S2.m (λ w. when (same_bits (S1.outs x y) z) (when (same_bits (S2.outs x w) z) (one (j +ℤ pos (S1.phase x y) -ℤ pos (S2.phase x w))))))) (λ z lz.
    inner_total_left S1.m _ _ j ∙ total_ext S1.m _ _ (λ y ly. inner_total_right S2.m _ _ j ∙ total_ext S2.m _ _ (λ w lw. term_inner (same_bits (S1.outs x y) z) (same_bits (S2.outs x w) z) (S1.phase x y) (S2.phase x w) j)))
    ∙ total_swap n S1.m _
    ∙ total_ext S1.m _ _ (λ y ly. total_swap n S2.m _ ∙ total_ext S2.m _ _ (λ w lw.
    ap (λ k. total k (λ z. when (same_bits (S1.outs x y) z) (when (same_bits (S2.outs x w) z) (one (j +ℤ pos (S1.phase x y) -ℤ pos (S2.phase x w)))))) (sym (l y ly)) ∙ total_at (S1.outs x y) _))

when_closed : (v : ℤ) → when (same_bits [] []) v ≡ v
unfolding when same_bits
when_closed v = refl

three : (a b c : Truths) (m p q r : ℕ) → m ≡ p + (q + r) → length a ≡ p → length b ≡ q → length c ≡ r → length (a ++ (b ++ c)) ≡ m
three a b c m p q r e la lb lc = omega (arith, length-append a (b ++ c), length-append b c)

count_overlap : (n : ℕ) (S1 S2 S : PathValues) → OverlapSum n S1 S2 S → (x : Truths) → length x ≡ n → ((y : Truths) → length y ≡ S1.m → length (S1.outs x y) ≡ n) → ((y : Truths) → length y ≡ S2.m → length (S2.outs x y) ≡ n) → (j : ℤ)
    → signed_count S x [] j ≡ pos (2 ^ n) *ℤ inner_over n (signed_count S1 x) (signed_count S2 x) j
unfolding signed_count
count_overlap n S1 S2 S e x lx h1 h2 j =
    let G : Truths → ℤ = λ y. when (same_bits (S.outs x y) []) (one (j -ℤ pos (S.phase x y))) in
    ap (λ k. total k G) e.m_is
    ∙ total_append S1.m (S2.m + n) G
    ∙ total_ext S1.m _ (λ y. pos (2 ^ n) *ℤ total S2.m (λ w. when (same_bits (S2.outs x w) (S1.outs x y)) (one (j +ℤ pos (S1.phase x y) -ℤ pos (S2.phase x w))))) (λ y ly.
    total_append S2.m n (λ r. G (y ++ r))
    ∙ total_ext S2.m _ (λ w. pos (2 ^ n) *ℤ when (same_bits (S2.outs x w) (S1.outs x y)) (one (j +ℤ pos (S1.phase x y) -ℤ pos (S2.phase x w)))) (λ w lw.
    let back : ℤ = pos (S2.phase x w) -ℤ pos (S1.phase x y) in
    total_ext n _ (λ u. one (j -ℤ pos (pairing u (S1.outs x y) (S2.outs x w)) -ℤ back)) (λ u lu.
    ap (λ o. when (same_bits o []) (one (j -ℤ pos (S.phase x (y ++ (w ++ u)))))) (e.outs_is x (y ++ (w ++ u)) lx (three y w u S.m S1.m S2.m n e.m_is ly lw lu))
    ∙ when_closed _
    ∙ turned_by one one_number (S.phase x (y ++ (w ++ u))) (S1.phase x y) (S2.phase x w + pairing u (S1.outs x y) (S2.outs x w)) 0 (pos (S2.phase x w + pairing u (S1.outs x y) (S2.outs x w)) -ℤ pos (S1.phase x y)) (e.phase_is x y w u lx ly lw lu) (omega (arith, ints)) j
    ∙ ap one (omega (arith, ints)))
    ∙ pairing_total n (S1.outs x y) (S2.outs x w) (h1 y ly) (h2 w lw) (λ i. one (i -ℤ back)) (λ i. turned_number one one_number back i) j
    ∙ ap₂ (λ b v. pos (2 ^ n) *ℤ when b v) (same_bits_sym (S1.outs x y) (S2.outs x w)) (ap one (omega (arith, ints))))
    ∙ total_times S2.m (pos (2 ^ n)) _)
    ∙ total_times S1.m (pos (2 ^ n)) _
    ∙ ap (λ r. pos (2 ^ n) *ℤ r) (sym (counts_inner n S1 S2 x h1 j))

pub overlap_is_inner : OverlapIsInner
unfolding root2
overlap_is_inner n S1 S2 S e h1 h2 x l =
    let I = inner_over n (signed_count S1 x) (signed_count S2 x) in
    let nI = over_number n (signed_count S1 x) (signed_count S2 x) (signed_number S2 x) in
    same_from S.k (S1.k +ℤ S2.k) 0 (n + n) (signed_count S x []) I (signed_number S x []) nI (omega (arith, ints, e.k_is))
    (fun_ext (λ j. count_overlap n S1 S2 S e x l (λ y ly. h1 x y l ly) (λ y ly. h2 x y l ly) j ∙ sym (root2_even n I nI j)))

-- the sums' numbers, and so the amplitudes
counts_denote : (n : ℕ) (S1 S2 : PathValues) (A B : List Prim) → Denotes n S1 A → Denotes n S2 B → (x : Truths) → length x ≡ n
    → SameScaled (S1.k +ℤ S2.k) (inner_over n (signed_count S1 x) (signed_count S2 x)) (pos ((turns A + turns A) + (turns B + turns B))) (inner_over n (amplitude A x) (amplitude B x))
counts_denote n S1 S2 A B d1 d2 x l =
    let u1 = pos (turns A + turns A) in
    let u2 = pos (turns B + turns B) in
    let a1 = above S1.k u1 in
    let b1 = above u1 S1.k in
    let a2 = above S2.k u2 in
    let b2 = above u2 S2.k in
    same_from (S1.k +ℤ S2.k) _ (a1 + a2) (b1 + b2) _ _ (over_number n (signed_count S1 x) (signed_count S2 x) (signed_number S2 x)) (over_number n (amplitude A x) (amplitude B x) (amplitude_number B x))
    (omega (arith, ints, above_is S1.k u1, above_is S2.k u2))
    (sym (over_roots n a1 a2 (signed_count S1 x) (signed_count S2 x) (signed_number S1 x) (signed_number S2 x))
    ∙ ap₂ (inner_over n) (fun_ext (λ z. same_path S1.k u1 _ _ (d1.same x z l))) (fun_ext (λ z. same_path S2.k u2 _ _ (d2.same x z l)))
    ∙ over_roots n b1 b2 (amplitude A x) (amplitude B x) (amplitude_number A x) (amplitude_number B x))

pub overlap_denotes : OverlapDenotes
overlap_denotes n S1 S2 S A B e d1 d2 x l =
    same_trans S.k (S1.k +ℤ S2.k) _ (signed_count S x []) (inner_over n (signed_count S1 x) (signed_count S2 x)) _ (signed_number S x []) (over_number n (amplitude A x) (amplitude B x) (amplitude_number B x))
    (overlap_is_inner n S1 S2 S e d1.width d2.width x l) (counts_denote n S1 S2 A B d1 d2 x l)

pub same_zero : (u : ℕ) (c d : Number) → SameScaled (pos u) c (pos 0) d → (j : ℤ) → c j ≡ root2 u d j
unfolding above root2
same_zero u c d h j =
    let a : 0 - u ≡ 0 = omega arith in
    let b : u - 0 ≡ u = omega arith in
    ap (λ k. root2 k c j) (sym a) ∙ h j ∙ ap (λ k. root2 k d j) b

pub overlap_one : OverlapOne
overlap_one n S1 S2 S A B e d1 d2 hA hB x l h = one_is_same n A B x hA hB l (λ j.
    let u : ℕ = (turns A + turns A) + (turns B + turns B) in
    let nI = over_number n (amplitude A x) (amplitude B x) (amplitude_number B x) in
    let even : u ≡ (turns A + turns B) + (turns A + turns B) = omega arith in
    let t = same_trans (pos u) S.k (pos 0) _ _ _ nI one_number (same_sym S.k (pos u) _ _ (overlap_denotes n S1 S2 S A B e d1 d2 x l)) h in
    same_zero u _ _ t j ∙ ap (λ k. root2 k one j) even ∙ root2_even (turns A + turns B) one one_number j)

-- equal columns have the overlap 1
pub overlap_same : (n : ℕ) (S1 S2 S : PathValues) (A B : List Prim) → OverlapSum n S1 S2 S → Denotes n S1 A → Denotes n S2 B → AllWithin n A → AllWithin n B → (x : Truths) → length x ≡ n → SameAt n A B x → IsOne S x
overlap_same n S1 S2 S A B e d1 d2 hA hB x l s =
    same_trans S.k (pos ((turns A + turns A) + (turns B + turns B))) (pos 0) _ (inner_over n (amplitude A x) (amplitude B x)) _ (signed_number S x []) one_number (overlap_denotes n S1 S2 S A B e d1 d2 x l)
    (same_scaled_even (turns A) (turns B) (inner_over n (amplitude A x) (amplitude B x)) one (over_number n (amplitude A x) (amplitude B x) (amplitude_number B x)) one_number (same_is_one n A B x hA hB l s))

pub overlap_not_one : OverlapNotOne
overlap_not_one n S1 S2 S A B e d1 d2 hA hB x l other =
    elim (same_or_differs n A B x) [ inl s ↦ absurd (other (overlap_same n S1 S2 S A B e d1 d2 hA hB x l s)) | inr d ↦ d ]
