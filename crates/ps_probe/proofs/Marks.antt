-- Bits of numbers, and the marks of a word.
use Rattle.std.proofs.Common.{◌≡◌, ℕ, suc, ◌+◌, ◌*◌, ◌/◌, ◌%◌, ◌^◌, ◌<◌, ◌≤◌, refl, ap, ap₂, sym, ◌∙◌, subst, arith, Bool, true, false, ◌&&◌, not, cond, nat_eq, List, length, get_or, bit_and, bit_or, w64, ◌⊎◌, inl, inr}
use Rattle.std.specs.Prelude.{nat_lt}
use Rattle.std.specs.Int.{bit_at}
use Rattle.std.proofs.lemmas.Bool.Decides.{nat_tests}
use Rattle.std.proofs.lemmas.Nat.Bits.{bit_at_set_same, bit_at_set_other, bit_at-zero, shr_and_one}
use Rattle.std.proofs.lemmas.List.{get_or_past}
use Rattle.ps_mono.specs.Sets.{is_set}
use Rattle.ps_mono.specs.Lists.{nat_eq_true, nat_eq_same}
use Rattle.ps_probe.specs.declared.pattern.Pattern.{Pattern}
use Rattle.ps_probe.specs.Patterns.{IsMark, IsWord, Spells, is_fixed, free_count}

pub set_none : (i : ℕ) → is_set 0 i ≡ false
unfolding is_set
set_none i = ap (λ b. nat_eq b 1) (bit_at-zero i)

-- bit j put in
pub set_more : (x j i : ℕ) → j < 64 → is_set (bit_or x (1 * 2 ^ j % 18446744073709551616)) i ≡ cond (nat_eq i j) true (is_set x i)
unfolding is_set
set_more x j i h = by (nat_eq i j) refl
  where
    by : (t : Bool) → nat_eq i j ≡ t → nat_eq (bit_at (bit_or x (1 * 2 ^ j % 18446744073709551616)) i) 1 ≡ cond t true (nat_eq (bit_at x i) 1)
    by true e = ap (λ b. nat_eq b 1) (ap (bit_at (bit_or x (1 * 2 ^ j % 18446744073709551616))) (nat_eq_true i j e) ∙ bit_at_set_same w64 x j h)
    by false e = ap (λ b. nat_eq b 1) (bit_at_set_other w64 x j h i (λ d. clash (sym (ap (λ k. nat_eq k j) d ∙ nat_eq_same j) ∙ e)))
      where
        clash : true ≡ false → ⊥
        clash k = cc

-- ---- the loop over a word
-- the first k characters are marks, and the bits say which
pub record Marked (w : List ℕ) (k fixed ones : ℕ) : Type 0 where
  pub marks : (i : ℕ) → i < k → IsMark (get_or w i 45)
  pub fixed_is : (i : ℕ) → is_set fixed i ≡ (nat_lt i k && not (nat_eq (get_or w i 45) 45))
  pub ones_is : (i : ℕ) → is_set ones i ≡ (nat_lt i k && nat_eq (get_or w i 45) 49)

below_none : (i : ℕ) → nat_lt i 0 ≡ false
below_none i = grind (arith, nat_tests)

pub marked_start : (w : List ℕ) → Marked w 0 0 0
marked_start w = record {
  marks = λ i h. absurd (omega (arith, h));
  fixed_is = λ i. set_none i ∙ sym (ap (λ b. b && not (nat_eq (get_or w i 45) 45)) (below_none i));
  ones_is = λ i. set_none i ∙ sym (ap (λ b. b && nat_eq (get_or w i 45) 49) (below_none i));
}

-- the next character, whether it is no `-`, and whether it is `1`
bits_more : (w : List ℕ) (k x x' : ℕ) (f : ℕ → Bool) → k < 64 → ((i : ℕ) → is_set x i ≡ (nat_lt i k && f i)) → ((f k ≡ true) × (x' ≡ bit_or x (1 * 2 ^ k % 18446744073709551616))) ⊎ ((f k ≡ false) × (x' ≡ x)) → (i : ℕ) → is_set x' i ≡ (nat_lt i (k + 1) && f i)
bits_more w k x x' f h s (inl e) i = ap (λ z. is_set z i) e.1 ∙ set_more x k i h ∙ ap (λ b. cond (nat_eq i k) true b) (s i) ∙ by (nat_eq i k) refl
  where
    by : (t : Bool) → nat_eq i k ≡ t → cond t true (nat_lt i k && f i) ≡ (nat_lt i (k + 1) && f i)
    by true d =
        let q : i ≡ k = nat_eq_true i k d in
        let l : nat_lt i (k + 1) ≡ true = grind (arith, nat_tests, q) in
        sym (ap₂ (λ (a b : Bool). a && b) l (ap f q ∙ e.0))
    by false d = ap (λ a. a && f i) (let l : nat_lt i k ≡ nat_lt i (k + 1) = grind (arith, nat_tests, d) in l)
bits_more w k x x' f h s (inr e) i = ap (λ z. is_set z i) e.1 ∙ s i ∙ by (nat_eq i k) refl
  where
    none : (b : Bool) → (b && false) ≡ false
    none true = refl
    none false = refl

    by : (t : Bool) → nat_eq i k ≡ t → (nat_lt i k && f i) ≡ (nat_lt i (k + 1) && f i)
    by true d =
        let q : i ≡ k = nat_eq_true i k d in
        let z : f i ≡ false = ap f q ∙ e.0 in
        ap (λ b. nat_lt i k && b) z ∙ none (nat_lt i k) ∙ sym (ap (λ b. nat_lt i (k + 1) && b) z ∙ none (nat_lt i (k + 1)))
    by false d = ap (λ a. a && f i) (let l : nat_lt i k ≡ nat_lt i (k + 1) = grind (arith, nat_tests, d) in l)

marks_more : (w : List ℕ) (k : ℕ) → IsMark (get_or w k 45) → ((i : ℕ) → i < k → IsMark (get_or w i 45)) → (i : ℕ) → i < k + 1 → IsMark (get_or w i 45)
marks_more w k m h i l = by (nat_eq i k) refl
  where
    by : (t : Bool) → nat_eq i k ≡ t → IsMark (get_or w i 45)
    by true d = subst (λ j. IsMark (get_or w j 45)) (sym (nat_eq_true i k d)) m
    by false d = h i (grind (arith, nat_tests, d, l))

pub marked_one : (w : List ℕ) (k fixed ones fixed' ones' : ℕ) → k < 64 → get_or w k 45 ≡ 49 → fixed' ≡ bit_or fixed (1 * 2 ^ k % 18446744073709551616) → ones' ≡ bit_or ones (1 * 2 ^ k % 18446744073709551616) → Marked w k fixed ones → Marked w (k + 1) fixed' ones'
marked_one w k fixed ones fixed' ones' h c ef eo m = record {
  marks = marks_more w k (inr (inl c)) m.marks;
  fixed_is = bits_more w k fixed fixed' (λ i. not (nat_eq (get_or w i 45) 45)) h m.fixed_is (inl (ap (λ x. not (nat_eq x 45)) c, ef));
  ones_is = bits_more w k ones ones' (λ i. nat_eq (get_or w i 45) 49) h m.ones_is (inl (ap (λ x. nat_eq x 49) c, eo));
}

pub marked_zero : (w : List ℕ) (k fixed ones fixed' ones' : ℕ) → k < 64 → get_or w k 45 ≡ 48 → fixed' ≡ bit_or fixed (1 * 2 ^ k % 18446744073709551616) → ones' ≡ ones → Marked w k fixed ones → Marked w (k + 1) fixed' ones'
marked_zero w k fixed ones fixed' ones' h c ef eo m = record {
  marks = marks_more w k (inl c) m.marks;
  fixed_is = bits_more w k fixed fixed' (λ i. not (nat_eq (get_or w i 45) 45)) h m.fixed_is (inl (ap (λ x. not (nat_eq x 45)) c, ef));
  ones_is = bits_more w k ones ones' (λ i. nat_eq (get_or w i 45) 49) h m.ones_is (inr (ap (λ x. nat_eq x 49) c, eo));
}

pub marked_free : (w : List ℕ) (k fixed ones fixed' ones' : ℕ) → k < 64 → get_or w k 45 ≡ 45 → fixed' ≡ fixed → ones' ≡ ones → Marked w k fixed ones → Marked w (k + 1) fixed' ones'
marked_free w k fixed ones fixed' ones' h c ef eo m = record {
  marks = marks_more w k (inr (inr c)) m.marks;
  fixed_is = bits_more w k fixed fixed' (λ i. not (nat_eq (get_or w i 45) 45)) h m.fixed_is (inr (ap (λ x. not (nat_eq x 45)) c, ef));
  ones_is = bits_more w k ones ones' (λ i. nat_eq (get_or w i 45) 49) h m.ones_is (inr (ap (λ x. nat_eq x 49) c, eo));
}

bits_end : (w : List ℕ) (k x : ℕ) (f : ℕ → Bool) → ((i : ℕ) → k ≤ i → f i ≡ false) → ((i : ℕ) → is_set x i ≡ (nat_lt i k && f i)) → (i : ℕ) → is_set x i ≡ f i
bits_end w k x f z s i = s i ∙ by (nat_lt i k) refl
  where
    by : (t : Bool) → nat_lt i k ≡ t → (t && f i) ≡ f i
    by true d = refl
    by false d = sym (z i (grind (arith, nat_tests, d)))

pub marked_end : (w : List ℕ) (k : ℕ) (p : Pattern) → 1 ≤ length w → length w ≤ 64 → k ≡ length w → p.len ≡ length w → Marked w k p.fixed p.ones → Spells w p
marked_end w k p some few e l m = record {
  word = record { some = some; few = few; marks = λ i h. m.marks i (omega (arith, h, e)) };
  len_is = l;
  fixed_is = λ i. bits_end w k p.fixed (λ j. not (nat_eq (get_or w j 45) 45)) (λ j g. ap (λ x. not (nat_eq x 45)) (get_or_past w j 45 (omega (arith, g, e)))) m.fixed_is i;
  ones_is = λ i. bits_end w k p.ones (λ j. nat_eq (get_or w j 45) 49) (λ j g. ap (λ x. nat_eq x 49) (get_or_past w j 45 (omega (arith, g, e)))) m.ones_is i;
}

pub no_mark : (w : List ℕ) (k c : ℕ) → k < length w → c ≡ get_or w k 45 → (c ≡ 49 → ⊥) → (c ≡ 48 → ⊥) → (c ≡ 45 → ⊥) → IsWord w → ⊥
no_mark w k c h e a b d v = by (v.marks k h)
  where
    by : IsMark (get_or w k 45) → ⊥
    by (inl q) = b (e ∙ q)
    by (inr (inl q)) = a (e ∙ q)
    by (inr (inr q)) = d (e ∙ q)

-- ---- the tests
pub fixed_at : (p : Pattern) (i : ℕ) → i < p.len → nat_eq (bit_and (p.fixed / 2 ^ i) 1) 1 ≡ is_fixed p i
unfolding is_set
fixed_at p i h =
    let l : nat_lt i p.len ≡ true = grind (arith, nat_tests, h) in
    ap (λ b. nat_eq b 1) (shr_and_one p.fixed i) ∙ sym (ap (λ b. b && nat_eq (bit_at p.fixed i) 1) l)

pub free_start : (p : Pattern) → (0 ≡ free_count p 0) × (0 ≤ 0)
unfolding free_count
free_start p = (refl, omega arith)

pub free_next : (p : Pattern) (i f f' : ℕ) (b : Bool) → b ≡ is_fixed p i → ((b ≡ false) × (f' ≡ f + 1)) ⊎ ((b ≡ true) × (f' ≡ f)) → (f ≡ free_count p i) × (f ≤ i) → (f' ≡ free_count p (i + 1)) × (f' ≤ i + 1)
unfolding free_count
free_next p i f f' b e (inl x) h =
    let s : i + 1 ≡ suc i = omega arith in
    let g : free_count p (suc i) ≡ free_count p i + 1 = ap (λ c. free_count p i + cond c 0 1) (sym e ∙ x.0) in
    let z = x.1 in let y = h.0 in
    (omega (arith, z, y, g) ∙ ap (free_count p) (sym s), omega (arith, h.1, z))
free_next p i f f' b e (inr x) h =
    let s : i + 1 ≡ suc i = omega arith in
    let g : free_count p (suc i) ≡ free_count p i + 0 = ap (λ c. free_count p i + cond c 0 1) (sym e ∙ x.0) in
    let z = x.1 in let y = h.0 in
    (omega (arith, z, y, g) ∙ ap (free_count p) (sym s), omega (arith, h.1, z))
