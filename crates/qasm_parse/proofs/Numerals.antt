-- The numbers that digits spell.
use Rattle.std.proofs.Common.{◌≡◌, ◌≢◌, ℕ, suc, zero, ◌+◌, ◌-◌, ◌*◌, ◌^◌, ◌%◌, ◌<◌, ◌≤◌, min, Bool, true, false, cond, List, [], ◌∷◌, ◌++◌, length, get_or, take, drop, filter, take-append-drop, take_all, length-take, get_or-drop, length-drop, zero-mul, refl, sym, ◌∙◌, ap, subst, arith}
use Rattle.std.specs.Prelude.{ℤ, pos, negsuc, neg_ℤ, ◌+ℤ◌, ◌-ℤ◌, fold}
use Rattle.std.proofs.lemmas.List.Elements.{filter_more, filter-append}
use Rattle.std.proofs.lemmas.List.Sums.{fold_push, fold-append}
use Rattle.std.proofs.lemmas.Bool.Decides.{nat_tests}
use Rattle.std.proofs.lemmas.Int.{ints, clamps}
use Rattle.std.specs.Int.{int_max, int_min}
use mir.Val.{to_z, of_z}
use mir.Syntax.{w32, w64}
use lib.Signed.{◌≤ℤ◌}
use Rattle.std.proofs.Math.Nat.{mul_assoc, pow-succ'}
use Rattle.std.specs.List.{after_first}
use Rattle.std.specs.Prelude.{nat_eq}
use Rattle.qasm_lex.specs.Tokens.{is_digit_byte, is_exponent_byte}
use Rattle.qasm_parse.specs.Numbers.{decimal, mantissa, places, with_sign, exponent, held, is_significant, is_point, IsNumeral, none, some}

abbrev step : ℕ → ℕ → ℕ
step n d = n * 10 + (d - 48)

decimal_yes : (xs : List ℕ) (i : ℕ) → i < length xs → is_digit_byte (get_or xs i 0) ≡ true → decimal (take (i + 1) xs) ≡ decimal (take i xs) * 10 + (get_or xs i 0 - 48)
decimal_yes xs i lt h =
    let x = get_or xs i 0 in
    ap (fold step 0) (filter_more is_digit_byte xs i 0 lt ∙ ap (λ b. filter is_digit_byte (take i xs) ++ cond b (x ∷ []) []) h)
    ∙ fold_push step 0 (filter is_digit_byte (take i xs)) x

decimal_no : (xs : List ℕ) (i : ℕ) → i < length xs → is_digit_byte (get_or xs i 0) ≡ false → decimal (take (i + 1) xs) ≡ decimal (take i xs)
decimal_no xs i lt h =
    let x = get_or xs i 0 in
    ap (fold step 0) (filter_more is_digit_byte xs i 0 lt ∙ ap (λ b. filter is_digit_byte (take i xs) ++ cond b (x ∷ []) []) h)
    ∙ fold-append step 0 (filter is_digit_byte (take i xs)) []

-- one more byte
pub decimal_kept : (xs : List ℕ) (i n m : ℕ) → i < length xs → n ≡ min (decimal (take i xs)) 1000000000000000000
    → (is_digit_byte (get_or xs i 0) ≡ true → m ≡ min (n * 10 + (get_or xs i 0 - 48)) 1000000000000000000) → (is_digit_byte (get_or xs i 0) ≡ false → m ≡ n)
    → m ≡ min (decimal (take (i + 1) xs)) 1000000000000000000
decimal_kept xs i n m lt e y o = cases (is_digit_byte (get_or xs i 0)) refl
  where
    cases : (b : Bool) → is_digit_byte (get_or xs i 0) ≡ b → m ≡ min (decimal (take (i + 1) xs)) 1000000000000000000
    cases true h = let p = decimal_yes xs i lt h in let q = y h in omega arith
    cases false h = let p = decimal_no xs i lt h in let q = o h in omega arith

-- a digit that is not significant is 0
zero_digit : (b : ℕ) → is_digit_byte b ≡ true → is_significant b ≡ false → b ≡ 48
zero_digit b h g = grind (arith, nat_tests)

digit_of : (b : ℕ) → is_significant b ≡ true → is_digit_byte b ≡ true
digit_of b h = grind (arith, nat_tests)

bounds_of : (b : ℕ) → is_significant b ≡ true → (49 ≤ b) × (b ≤ 57)
bounds_of b h = (grind (arith, nat_tests), grind (arith, nat_tests))

-- zeros behind digits
padded : (a : ℕ) (zs : List ℕ) → ((k : ℕ) → k < length zs → is_significant (get_or zs k 0) ≡ false) → fold step a (filter is_digit_byte zs) ≡ a * 10 ^ length (filter is_digit_byte zs)
padded a [] h = omega arith
padded a (z ∷ zs) h = cases (is_digit_byte z) refl (padded (step a z) zs (λ k lt. h (suc k) (omega arith))) (padded a zs (λ k lt. h (suc k) (omega arith)))
  where
    cases : (b : Bool) → is_digit_byte z ≡ b
        → fold step (step a z) (filter is_digit_byte zs) ≡ step a z * 10 ^ length (filter is_digit_byte zs)
        → fold step a (filter is_digit_byte zs) ≡ a * 10 ^ length (filter is_digit_byte zs)
        → fold step a (cond b (z ∷ filter is_digit_byte zs) (filter is_digit_byte zs)) ≡ a * 10 ^ length (cond b (z ∷ filter is_digit_byte zs) (filter is_digit_byte zs))
    cases true e p q =
        let n = length (filter is_digit_byte zs) in
        let s : step a z ≡ a * 10 = let y : z ≡ 48 = zero_digit z e (h 0 (omega arith)) in omega arith in
        p ∙ ap (λ x. x * 10 ^ n) s ∙ mul_assoc a 10 (10 ^ n) ∙ ap (λ x. a * x) (sym (pow-succ' 10 n))
    cases false e p q = q

-- what stands before the last significant digit, and zeros behind it
split_zeros : (ms : List ℕ) (end : ℕ) → end ≤ length ms → ((k : ℕ) → end ≤ k → k < length ms → is_significant (get_or ms k 0) ≡ false)
    → decimal ms ≡ decimal (take end ms) * 10 ^ length (filter is_digit_byte (drop end ms))
split_zeros ms end le h =
    ap decimal (sym (take-append-drop end ms))
    ∙ ap (fold step 0) (filter-append is_digit_byte (take end ms) (drop end ms))
    ∙ fold-append step 0 (filter is_digit_byte (take end ms)) (filter is_digit_byte (drop end ms))
    ∙ padded (decimal (take end ms)) (drop end ms) (λ k lt. subst (λ x. is_significant x ≡ false) (sym (get_or-drop end ms k 0)) (h (end + k) (omega arith) (let e = length-drop end ms in omega arith)))

-- the last digit is not 0
last_digit : (ms : List ℕ) (end : ℕ) → end ≤ length ms → 0 < end → is_significant (get_or ms (end - 1) 0) ≡ true → decimal (take end ms) % 10 ≢ 0
last_digit ms end le lt h =
    let x = get_or ms (end - 1) 0 in
    let b : (49 ≤ x) × (x ≤ 57) = bounds_of x h in
    let p : decimal (take (end - 1 + 1) ms) ≡ decimal (take (end - 1) ms) * 10 + (get_or ms (end - 1) 0 - 48) = decimal_yes ms (end - 1) (omega arith) (digit_of x h) in
    let q : decimal (take end ms) ≡ decimal (take (end - 1) ms) * 10 + (get_or ms (end - 1) 0 - 48) = ap (λ n. decimal (take n ms)) (let e : end ≡ end - 1 + 1 = omega arith in e) ∙ p in
    let lo : 49 ≤ x = b.0 in let hi : x ≤ 57 = b.1 in
    λ z. omega arith

held_same : (b : Bool) (n size z p : ℕ) → size ≡ min n 1000000000000000000 → z < 4294967296 → p < 4294967296
    → held (with_sign b size +ℤ pos z -ℤ pos p) ≡ held (with_sign b n +ℤ pos z -ℤ pos p)
held_same true n size z p e f g = omega (arith, ints, clamps)
held_same false n size z p e f g = omega (arith, ints, clamps)

pub none_numeral : (text ms : List ℕ) (end d : ℕ) → ms ≡ mantissa text → end ≤ length ms → ((k : ℕ) → end ≤ k → k < length ms → is_significant (get_or ms k 0) ≡ false)
    → d ≡ min (decimal (take end ms)) 1000000000000000000 → d ≡ 0 → IsNumeral text 0 (pos 0)
none_numeral text ms end d m le h e z =
    let p = split_zeros ms end le h in
    let q : decimal (take end ms) ≡ 0 = omega arith in
    none (ap decimal (sym m) ∙ p ∙ ap (λ x. x * 10 ^ length (filter is_digit_byte (drop end ms))) q ∙ zero-mul (10 ^ length (filter is_digit_byte (drop end ms)))) refl refl

pub some_numeral : (text ms : List ℕ) (end d zeros after size : ℕ) (b : Bool) (ten : ℤ) → ms ≡ mantissa text → end ≤ length ms
    → ((k : ℕ) → end ≤ k → k < length ms → is_significant (get_or ms k 0) ≡ false) → (0 < end → is_significant (get_or ms (end - 1) 0) ≡ true)
    → d ≡ min (decimal (take end ms)) 1000000000000000000 → d ≢ 0
    → zeros ≡ length (filter is_digit_byte (drop end ms)) → zeros < 4294967296 → after ≡ places text → after < 4294967296
    → b ≡ nat_eq (get_or (after_first is_exponent_byte text) 0 0) 45 → size ≡ min (decimal (after_first is_exponent_byte text)) 1000000000000000000
    → ten ≡ held (with_sign b size +ℤ pos zeros -ℤ pos after) → IsNumeral text d ten
some_numeral text ms end d zeros after size b ten m le h l e ne z zf p pf s sz t =
    let full = split_zeros ms end le h in
    let lt : 0 < end = positive end e in
    some (decimal (take end ms)) zeros
    (ap decimal (sym m) ∙ full ∙ ap (λ x. decimal (take end ms) * 10 ^ x) (sym z))
    (last_digit ms end le lt (l lt)) e
    (t ∙ held_same b (decimal (after_first is_exponent_byte text)) size zeros after sz zf pf ∙ ap (λ x. held (with_sign x (decimal (after_first is_exponent_byte text)) +ℤ pos zeros -ℤ pos after)) s ∙ ap (λ x. held (exponent text +ℤ pos zeros -ℤ pos x)) p)
  where
    positive : (n : ℕ) → d ≡ min (decimal (take n ms)) 1000000000000000000 → 0 < n
    positive zero f = absurd (ne f)
    positive (suc n) f = omega arith

module _ (size z p : ℕ) (s r : ℤ) (small : size ≤ 1000000000000000000) (zf : z < 4294967296) (pf : p < 4294967296) where
  abbrev sum64 : ℤ
  sum64 = to_z w64 (of_z w64 (to_z w64 (of_z w64 (to_z w64 (of_z w64 s) +ℤ to_z w64 z)) -ℤ to_z w64 p))

  sum_is : (t : ℤ) → s ≡ t → (neg_ℤ (pos 1000000000000000000) ≤ℤ t) → (t ≤ℤ pos 1000000000000000000) → sum64 ≡ t +ℤ pos z -ℤ pos p
  sum_is t e lo hi = omega (arith, ints)

  clamp_is : (t : ℤ) → r ≡ int_max (negsuc 999999999) (int_min t (pos 1000000000)) → to_z w32 (of_z w32 (to_z w64 (of_z w64 r))) ≡ held t
  clamp_is t e = omega (arith, ints, clamps)

  pub held_is : (b : Bool) → s ≡ with_sign b size → r ≡ int_max (negsuc 999999999) (int_min sum64 (pos 1000000000)) → to_z w32 (of_z w32 (to_z w64 (of_z w64 r))) ≡ held (with_sign b size +ℤ pos z -ℤ pos p)
  held_is b e f =
      let t = with_sign b size in
      let g : sum64 ≡ t +ℤ pos z -ℤ pos p = sum_is t e (low b) (high b) in
      clamp_is (t +ℤ pos z -ℤ pos p) (f ∙ ap (λ x. int_max (negsuc 999999999) (int_min x (pos 1000000000))) g)
    where
      low : (b : Bool) → neg_ℤ (pos 1000000000000000000) ≤ℤ with_sign b size
      low true = omega (arith, ints)
      low false = omega (arith, ints)

      high : (b : Bool) → with_sign b size ≤ℤ pos 1000000000000000000
      high true = omega (arith, ints)
      high false = omega (arith, ints)

pub exponent_lower : (b : ℕ) → b ≡ 101 → is_exponent_byte b ≡ true
exponent_lower b e = ap is_exponent_byte e

pub exponent_upper : (b : ℕ) → b ≡ 69 → is_exponent_byte b ≡ true
exponent_upper b e = ap is_exponent_byte e

pub point_byte : (b : ℕ) → b ≡ 46 → is_point b ≡ true
point_byte b e = ap is_point e

-- the bytes from a place to the end, as a slice gives them
pub rest_of : (xs : List ℕ) (n : ℕ) → take (length xs - n) (drop n xs) ≡ drop n xs
rest_of xs n = ap (λ k. take k (drop n xs)) (sym (length-drop n xs)) ∙ take_all (length (drop n xs)) (drop n xs) (omega arith)

pub part_short : (xs : List ℕ) (k n r m : ℕ) → length xs < 4294967296 → r ≤ length (take m (drop n (take k xs))) → r < 4294967296
part_short xs k n r m h e = omega (arith, length-take m (drop n (take k xs)), length-drop n (take k xs), length-take k xs)

pub behind_short : (xs : List ℕ) (k n r : ℕ) → length xs < 4294967296 → r ≡ length (drop n (take k xs)) → r < 4294967296
behind_short xs k n r h e = omega (arith, length-drop n (take k xs), length-take k xs)
