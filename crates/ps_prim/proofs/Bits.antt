-- Lists of bits: when they are the same, and a bit of them exchanged.
use Rattle.std.proofs.Common.{◌≡◌, ◌≢◌, ℕ, zero, suc, refl, ap, sym, ◌∙◌, arith, ◌<◌, Bool, true, false, not, [], ◌∷◌, length, set, length-set}
use Rattle.std.proofs.lemmas.List.{set-get_or, get_or-set_same, get_or-set_other}
use Rattle.ps_prim.specs.Amplitudes.{Truths, bit, same_bits, flipped, exchanged}

pub same_bits-refl : (x : Truths) → same_bits x x ≡ true
unfolding same_bits
same_bits-refl [] = refl
same_bits-refl (true ∷ x) = same_bits-refl x
same_bits-refl (false ∷ x) = same_bits-refl x

pub same_bits-true : (x z : Truths) → same_bits x z ≡ true → x ≡ z
unfolding same_bits
same_bits-true [] [] e = refl
same_bits-true [] (b ∷ z) e = cc
same_bits-true (a ∷ x) [] e = cc
same_bits-true (true ∷ x) (true ∷ z) e = ap (λ (r : Truths). true ∷ r) (same_bits-true x z e)
same_bits-true (true ∷ x) (false ∷ z) e = cc
same_bits-true (false ∷ x) (true ∷ z) e = cc
same_bits-true (false ∷ x) (false ∷ z) e = ap (λ (r : Truths). false ∷ r) (same_bits-true x z e)

-- two tests that follow from one another are equal
tests_equal : (a b : Bool) → (a ≡ true → b ≡ true) → (b ≡ true → a ≡ true) → a ≡ b
tests_equal true true f g = refl
tests_equal true false f g = sym (f refl)
tests_equal false true f g = g refl
tests_equal false false f g = refl

pub same_bits-false : (x z : Truths) → x ≢ z → same_bits x z ≡ false
same_bits-false x z h = tests_equal _ _ (λ e. absurd (h (same_bits-true x z e))) (λ e. cc)

pub length-flipped : (b : Bool) (t : ℕ) (z : Truths) → length (flipped b t z) ≡ length z
unfolding flipped
length-flipped true t z = length-set z t (not (bit z t))
length-flipped false t z = refl

pub length-exchanged : (c t : ℕ) (z : Truths) → length (exchanged c t z) ≡ length z
unfolding exchanged
length-exchanged c t z = length-flipped (bit z c) t z

not_twice : (b : Bool) → not (not b) ≡ b
not_twice true = refl
not_twice false = refl

set_twice : (z : Truths) (t : ℕ) (a b : Bool) → set (set z t a) t b ≡ set z t b
set_twice [] t a b = refl
set_twice (y ∷ z) zero a b = refl
set_twice (y ∷ z) (suc t) a b = ap (λ (r : Truths). y ∷ r) (set_twice z t a b)

flipped_twice : (b : Bool) (t : ℕ) (z : Truths) → t < length z → flipped b t (flipped b t z) ≡ z
unfolding flipped
flipped_twice true t z h =
    ap (λ v. set (set z t (not (bit z t))) t (not v)) (get_or-set_same z t (not (bit z t)) false h)
    ∙ ap (λ v. set (set z t (not (bit z t))) t v) (not_twice (bit z t))
    ∙ set_twice z t (not (bit z t)) (bit z t) ∙ set-get_or z t false
flipped_twice false t z h = refl

bit_beside : (b : Bool) (c t : ℕ) (z : Truths) → c ≢ t → bit (flipped b t z) c ≡ bit z c
unfolding flipped
bit_beside true c t z h = get_or-set_other z t c (not (bit z t)) false h
bit_beside false c t z h = refl

pub exchanged_twice : (c t : ℕ) (z : Truths) → t < length z → c ≢ t → exchanged c t (exchanged c t z) ≡ z
unfolding exchanged
exchanged_twice c t z h d = ap (λ b. flipped b t (flipped (bit z c) t z)) (bit_beside (bit z c) c t z d) ∙ flipped_twice (bit z c) t z h

-- exchanged on either side
pub same_bits-exchanged : (c t : ℕ) (y z : Truths) → t < length y → c ≢ t → same_bits y (exchanged c t z) ≡ same_bits (exchanged c t y) z
same_bits-exchanged c t y z h d = tests_equal _ _
    (λ e.
    let s = same_bits-true y (exchanged c t z) e in
    let k : t < length z = omega (arith, ap length s, length-exchanged c t z) in
    ap (λ r. same_bits r z) (ap (exchanged c t) s ∙ exchanged_twice c t z k d) ∙ same_bits-refl z)
    (λ e.
    let s = same_bits-true (exchanged c t y) z e in
    ap (same_bits y) (ap (exchanged c t) (sym s) ∙ exchanged_twice c t y h d) ∙ same_bits-refl y)
