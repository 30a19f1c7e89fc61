-- The steps keep the number of a sum.
use Rattle.std.proofs.Common.{◌≡◌, ℕ, suc, ◌+◌, ◌%◌, ap, ap₂, sym, ◌∙◌, arith, cond, length, Bool, true, false, add-zero}
use mathlib.Core.Bool.{xor}
use Rattle.std.proofs.Math.IntN.{ℤ, pos, ◌+ℤ◌, ◌-ℤ◌, neg_ℤ}
use Rattle.std.proofs.lemmas.Int.{ints}
use Rattle.ps_ring.specs.Numbers.{IsNumber, one, when, sqrt2, root2}
use Rattle.ps_ring.specs.Truths.{Truths, same_bits}
use Rattle.ps_ring.specs.Sums.{total, insert_at, PathValues, signed_count}
use Rattle.ps_ring.specs.Steps.{ElimKeeps, HhKeeps, OmegaKeeps}
use Rattle.ps_ring.proofs.Turned.{sqrt2_twice, one_number, turned_same, full}
use Rattle.ps_ring.proofs.Roots.{same_by}
use Rattle.ps_ring.proofs.Whens.{when-neg, when-add}
use Rattle.ps_ring.proofs.Totals.{total_ext, total_add, total_neg, total_idle, total_pull, total_pull_two}
use Rattle.ps_ring.proofs.Inserts.{length_insert_at}

-- a term is a number
pub term_number : (b : Bool) (p : ℕ) (j : ℤ) → when b (one (j +ℤ pos 2147483648 -ℤ pos p)) ≡ neg_ℤ (when b (one (j -ℤ pos p)))
term_number b p j =
    let s : j +ℤ pos 2147483648 -ℤ pos p ≡ j -ℤ pos p +ℤ pos 2147483648 = omega (arith, ints) in
    ap (λ k. when b (one k)) s ∙ ap (when b) (one_number (j -ℤ pos p)) ∙ when-neg b (one (j -ℤ pos p))

-- a sum is a number
pub signed_number : (S : PathValues) (x z : Truths) → IsNumber (signed_count S x z)
unfolding signed_count
signed_number S x z j =
    total_ext S.m _ (λ y. neg_ℤ (when (same_bits (S.outs x y) z) (one (j -ℤ pos (S.phase x y))))) (λ y l. term_number (same_bits (S.outs x y) z) (S.phase x y) j)
    ∙ total_neg S.m _

pub elim_keeps : ElimKeeps
unfolding signed_count root2
elim_keeps n S S' i e x z lx = same_by S.k S'.k 2 e.k_is _ _ (λ j.
    ap (λ k. total k (λ y. when (same_bits (S.outs x y) z) (one (j -ℤ pos (S.phase x y))))) e.m_is
    ∙ total_idle S'.m i e.at _ (λ y. when (same_bits (S'.outs x y) z) (one (j -ℤ pos (S'.phase x y)))) (λ y b l. ap₂ (λ o v. when (same_bits o z) v) (e.outs_is x y b lx l) (turned_same one one_number _ _ (e.phase_is x y b lx l) j))
    ∙ sym (sqrt2_twice (signed_count S' x z) (signed_number S' x z) j))

-- minus v where b is true
abbrev pub signed : Bool → ℤ → ℤ
signed true v = neg_ℤ v
signed false v = v

turned_half : (d o : Bool) (p p' : ℕ) → p' % 4294967296 ≡ (p + cond d 2147483648 0) % 4294967296 → (j : ℤ) → when o (one (j -ℤ pos p')) ≡ signed d (when o (one (j -ℤ pos p)))
turned_half true o p p' e j =
    let a : j -ℤ pos p ≡ j -ℤ pos (p + 2147483648) +ℤ pos 2147483648 = omega (arith, ints) in
    let h : one (j -ℤ pos p) ≡ neg_ℤ (one (j -ℤ pos (p + 2147483648))) = ap one a ∙ one_number (j -ℤ pos (p + 2147483648)) in
    let t = turned_same one one_number p' (p + 2147483648) e j in
    let u : one (j -ℤ pos p') ≡ neg_ℤ (one (j -ℤ pos p)) = omega (arith, ints) in
    ap (when o) u ∙ when-neg o (one (j -ℤ pos p))
turned_half false o p p' e j =
    ap (when o) (turned_same one one_number p' (p + 0) e j ∙ ap (λ n. one (j -ℤ pos n)) (add-zero p))

hh_four : (F : Bool → Bool → ℤ) (q : Bool) → ((v : Bool) → F true v ≡ signed (xor v q) (F false v)) → (F false false +ℤ F true false) +ℤ (F false true +ℤ F true true) ≡ F false q +ℤ F false q
unfolding xor
hh_four F true h = let a = h true in let b = h false in omega (arith, ints)
hh_four F false h = let a = h true in let b = h false in omega (arith, ints)

pub hh_keeps : HhKeeps
unfolding signed_count root2
hh_keeps n S S' i r Q e x z lx = same_by S.k S'.k 2 e.k_is _ _ (λ j.
    let G : Truths → ℤ = λ y. when (same_bits (S.outs x y) z) (one (j -ℤ pos (S.phase x y))) in
    let G' : Truths → ℤ = λ y. when (same_bits (S'.outs x y) z) (one (j -ℤ pos (S'.phase x y))) in
    let four : (y : Truths) → length y ≡ S'.m → (G (insert_at i false (insert_at r false y)) +ℤ G (insert_at i true (insert_at r false y))) +ℤ (G (insert_at i false (insert_at r true y)) +ℤ G (insert_at i true (insert_at r true y))) ≡ G' y +ℤ G' y
    = λ y l. hh_four (λ b v. G (insert_at i b (insert_at r v y))) (Q x y)
    (λ v. ap (λ o. when (same_bits o z) (one (j -ℤ pos (S.phase x (insert_at i true (insert_at r v y)))))) (e.idle x (insert_at r v y) lx (length_insert_at r v y ∙ ap suc l))
    ∙ turned_half (xor v (Q x y)) _ _ _ (e.flips x y v lx l) j)
    ∙ ap (λ g. g +ℤ g) (ap₂ (λ o v. when (same_bits o z) v) (e.outs_is x y lx l) (turned_same one one_number _ _ (e.phase_is x y lx l) j)) in
    ap (λ n. total n G) e.m_is
    ∙ total_pull_two S'.m i r e.at e.next G
    ∙ total_ext S'.m _ (λ y. G' y +ℤ G' y) four
    ∙ total_add S'.m G' G'
    ∙ sym (sqrt2_twice (signed_count S' x z) (signed_number S' x z) j))

-- 1 + i(-1)^q is the root of 2 times an eighth of a turn and -i where q
omega_two : (q : Bool) (p p1 p2 : ℕ) → p1 % 4294967296 ≡ (p + 1073741824 + cond q 2147483648 0) % 4294967296 → p2 % 4294967296 ≡ (p + 536870912 + cond q 3221225472 0) % 4294967296 → (j : ℤ)
    → one (j -ℤ pos p) +ℤ one (j -ℤ pos p1) ≡ one (j -ℤ pos 536870912 -ℤ pos p2) +ℤ one (j +ℤ pos 536870912 -ℤ pos p2)
omega_two true p p1 p2 e f j =
    let a = turned_same one one_number p1 _ e j in
    let b = turned_same one one_number p2 _ f (j -ℤ pos 536870912) in
    let c = turned_same one one_number p2 _ f (j +ℤ pos 536870912) in
    let d : one (j -ℤ pos 536870912 -ℤ pos (p + 536870912 + 3221225472)) ≡ one (j -ℤ pos p -ℤ pos 4294967296) = ap one (omega (arith, ints)) in
    let g : one (j +ℤ pos 536870912 -ℤ pos (p + 536870912 + 3221225472)) ≡ one (j -ℤ pos (p + 1073741824 + 2147483648)) = ap one (omega (arith, ints)) in
    let h = full one one_number (j -ℤ pos p) in
    omega (arith, ints)
omega_two false p p1 p2 e f j =
    let a = turned_same one one_number p1 _ e j in
    let b = turned_same one one_number p2 _ f (j -ℤ pos 536870912) in
    let c = turned_same one one_number p2 _ f (j +ℤ pos 536870912) in
    let d : one (j -ℤ pos 536870912 -ℤ pos (p + 536870912 + 0)) ≡ one (j -ℤ pos (p + 1073741824 + 0)) = ap one (omega (arith, ints)) in
    let g : one (j +ℤ pos 536870912 -ℤ pos (p + 536870912 + 0)) ≡ one (j -ℤ pos p) = ap one (omega (arith, ints)) in
    omega (arith, ints)

pub omega_keeps : OmegaKeeps
unfolding signed_count root2 sqrt2
omega_keeps n S S' i Q e x z lx = same_by S.k S'.k 1 e.k_is _ _ (λ j.
    let G : Truths → ℤ = λ y. when (same_bits (S.outs x y) z) (one (j -ℤ pos (S.phase x y))) in
    let L : Truths → ℤ = λ y. when (same_bits (S'.outs x y) z) (one (j -ℤ pos 536870912 -ℤ pos (S'.phase x y))) in
    let R : Truths → ℤ = λ y. when (same_bits (S'.outs x y) z) (one (j +ℤ pos 536870912 -ℤ pos (S'.phase x y))) in
    let two : (y : Truths) → length y ≡ S'.m → G (insert_at i false y) +ℤ G (insert_at i true y) ≡ L y +ℤ R y
    = λ y l. rw (e.outs_is x y false lx l, e.outs_is x y true lx l)
    (sym (when-add (same_bits (S'.outs x y) z) _ _) ∙ ap (when (same_bits (S'.outs x y) z)) (omega_two (Q x y) _ _ _ (e.turned x y lx l) (e.phase_is x y lx l) j) ∙ when-add (same_bits (S'.outs x y) z) _ _) in
    ap (λ n. total n G) e.m_is
    ∙ total_pull S'.m i e.at G
    ∙ total_ext S'.m _ (λ y. L y +ℤ R y) two
    ∙ total_add S'.m L R)
