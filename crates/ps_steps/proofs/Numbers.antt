-- Numbers in decimal digits.
use Rattle.std.proofs.Common.{◌≡◌, ◌≢◌, ℕ, zero, suc, ◌<◌, ◌≤◌, ◌+◌, ◌-◌, ◌*◌, ◌/◌, ◌%◌, ◌^◌, refl, sym, ap, ◌∙◌, subst, arith, Bool, true, false, ◌&&◌, not, nat_eq, List, [], ◌∷◌, ◌++◌, length, take, drop, get_or, decimal, take-append-drop, length-take}
use Rattle.std.specs.Prelude.{nat_le}
use Rattle.std.specs.List.{list_all}
use Rattle.std.proofs.lemmas.Bool.{and_parts, and_from}
use Rattle.std.proofs.lemmas.Bool.Decides.{nat_tests}
use Rattle.std.proofs.lemmas.List.{take_more, take_all}
use Rattle.std.proofs.lemmas.List.Folds.{list_all-append, list_all_at}
use Rattle.std.proofs.lemmas.Fmt.{decimal_digit, decimal_step, decimal_by_steps, decimal_nonempty, first_decimal, decimal_injective}
use Rattle.ps_steps.specs.Pieces.{lacks, SpellsBelow, SpellsNone, IsNext, IsNoNext}
use Rattle.ps_steps.proofs.Lacking.{not_both}

abbrev pub is_digit : ℕ → Bool
is_digit b = nat_le 48 b && nat_le b 57

unfoldable pub value_from : ℕ → List ℕ → ℕ
value_from v [] = v
value_from v (d ∷ ds) = value_from (10 * v + (d - 48)) ds

value_le : (v : ℕ) (ds : List ℕ) → v ≤ value_from v ds
unfolding value_from
value_le v [] = omega arith
value_le v (d ∷ ds) = omega (arith, value_le (10 * v + (d - 48)) ds)

value_append : (v : ℕ) (a b : List ℕ) → value_from v (a ++ b) ≡ value_from (value_from v a) b
unfolding value_from
value_append v [] b = refl
value_append v (d ∷ a) b = value_append (10 * v + (d - 48)) a b

value_push : (v : ℕ) (ds : List ℕ) (d : ℕ) → value_from v (ds ++ d ∷ []) ≡ 10 * value_from v ds + (d - 48)
unfolding value_from
value_push v ds d = value_append v ds (d ∷ [])

value_one : (m : ℕ) → m < 10 → value_from 0 ((48 + m) ∷ []) ≡ m
unfolding value_from
value_one m h = omega arith

value_more : (m : ℕ) (ds : List ℕ) → 10 ≤ m → value_from 0 ds ≡ m / 10 → value_from 0 (ds ++ ((48 + m % 10) ∷ [])) ≡ m
value_more m ds h e = let p = value_push 0 ds (48 + m % 10) in omega (arith, p, e)

pub value_decimal : (n : ℕ) → n < 2 ^ 64 → value_from 0 (decimal n) ≡ n
value_decimal n h = decimal_by_steps (λ m ds. value_from 0 ds ≡ m) value_one value_more n h

digit_is : (m : ℕ) → m < 10 → is_digit (48 + m) ≡ true
digit_is m h = grind (arith, nat_tests)

digits_one : (m : ℕ) → m < 10 → list_all is_digit ((48 + m) ∷ []) ≡ true
digits_one m h = and_from _ _ (digit_is m h) refl

digits_more : (m : ℕ) (ds : List ℕ) → 10 ≤ m → list_all is_digit ds ≡ true → list_all is_digit (ds ++ ((48 + m % 10) ∷ [])) ≡ true
digits_more m ds h e = list_all-append is_digit ds ((48 + m % 10) ∷ []) ∙ and_from _ _ e (digits_one (m % 10) (omega arith))

pub decimal_digits : (n : ℕ) → n < 2 ^ 64 → list_all is_digit (decimal n) ≡ true
decimal_digits n h = decimal_by_steps (λ m ds. list_all is_digit ds ≡ true) digits_one digits_more n h

digit_other : (b mark : ℕ) → mark < 48 → is_digit b ≡ true → not (nat_eq b mark) ≡ true
digit_other b mark m h = grind (arith, nat_tests)

digits_lack : (mark : ℕ) (ds : List ℕ) → mark < 48 → list_all is_digit ds ≡ true → lacks mark ds ≡ true
digits_lack mark [] m h = refl
digits_lack mark (b ∷ ds) m h = and_from _ _ (digit_other b mark m (and_parts _ _ h).0) (digits_lack mark ds m (and_parts _ _ h).1)

pub decimal_lacks : (mark n : ℕ) → mark < 48 → n < 2 ^ 64 → lacks mark (decimal n) ≡ true
decimal_lacks mark n m h = digits_lack mark (decimal n) m (decimal_digits n h)

-- ---- one more digit
pub no_digit : (seen place digit bound : ℕ) → digit < 48 → IsNoNext seen place digit bound
no_digit seen place digit bound h v n = absurd (omega (arith, n.low))

pub no_digit_above : (seen place digit bound : ℕ) → 57 < digit → IsNoNext seen place digit bound
no_digit_above seen place digit bound h v n = absurd (omega (arith, n.high))

pub no_zero_leads : (seen place digit bound : ℕ) → seen ≡ 0 → 0 < place → IsNoNext seen place digit bound
no_zero_leads seen place digit bound h p v n = let z = n.led h in absurd (omega arith)

pub none_below : (seen place digit bound value : ℕ) → value ≡ 10 * seen + (digit - 48) → bound ≤ value → IsNoNext seen place digit bound
none_below seen place digit bound value e h v n = absurd (omega (arith, n.value, n.below))

-- ---- the digits one after the other: what was read up to place i is the value
pub record Read (bound : ℕ) (text : List ℕ) (i value : ℕ) : Type 0 where
  pub none : i ≡ 0 → value ≡ 0
  pub some : 0 < i → decimal value ≡ take i text
  pub below : value ≤ bound
  pub within : 0 < i → value < bound

pub read_start : (bound : ℕ) (text : List ℕ) → Read bound text 0 0
read_start bound text = record { none = λ h. refl; some = λ h. absurd (omega arith); below = omega arith; within = λ h. absurd (omega arith) }

next_spelled : (bound : ℕ) (text : List ℕ) (i value digit v : ℕ) → bound ≤ 4294967296 → i < length text → digit ≡ get_or text i 0 → Read bound text i value → IsNext value i digit bound v → decimal v ≡ take (i + 1) text
next_spelled bound text zero value digit v b h e r n =
    let z : value ≡ 0 = r.none refl in
    let s : v < 10 = omega (arith, z, n.value, n.low, n.high) in
    let d : 48 + v ≡ digit = omega (arith, z, n.value, n.low) in
    decimal_digit v s ∙ ap (λ (x : ℕ). x ∷ []) (d ∙ e) ∙ sym (take_more text 0 0 h)
next_spelled bound text (suc i) value digit v b h e r n =
    let p : 1 ≤ value = positive value i n.led in
    let q : v / 10 ≡ value = omega (arith, n.value, n.low, n.high) in
    let m : 48 + v % 10 ≡ digit = omega (arith, n.value, n.low, n.high) in
    let s = decimal_step v (omega (arith, n.value)) (omega (arith, n.below)) in
    s ∙ ap (λ (x : ℕ). decimal x ++ ((48 + v % 10) ∷ [])) q ∙ ap (λ (x : ℕ). decimal value ++ (x ∷ [])) (m ∙ e) ∙ ap (λ (l : List ℕ). l ++ (get_or text (suc i) 0 ∷ [])) (r.some (omega arith)) ∙ sym (take_more text (suc i) 0 h)
  where
    positive : (value i : ℕ) → (value ≡ 0 → suc i ≡ 0) → 1 ≤ value
    positive zero i f = absurd (omega (arith, f refl))
    positive (suc value) i f = omega arith

pub read_next : (bound : ℕ) (text : List ℕ) (i value digit v : ℕ) → bound ≤ 4294967296 → i < length text → digit ≡ get_or text i 0 → Read bound text i value → IsNext value i digit bound v → Read bound text (i + 1) v
read_next bound text i value digit v b h e r n = record {
  none = λ z. absurd (omega arith);
  some = λ p. next_spelled bound text i value digit v b h e r n;
  below = omega (arith, n.below);
  within = λ p. n.below;
}

-- a number has a digit next, and no zero leads it
digit_at : (w : ℕ) (text : List ℕ) (i : ℕ) → w < 2 ^ 64 → decimal w ≡ text → i < length text → is_digit (get_or text i 0) ≡ true
digit_at w text i h e l = by_bool (is_digit (get_or text i 0)) (λ f. not_both (list_all is_digit text) (subst (λ t. list_all is_digit t ≡ true) e (decimal_digits w h)) (list_all_at is_digit text i 0 l f))
  where
    by_bool : (b : Bool) → (b ≡ false → ⊥) → b ≡ true
    by_bool true f = refl
    by_bool false f = absurd (f refl)

digit_bounds : (b : ℕ) → is_digit b ≡ true → (48 ≤ b) × (b ≤ 57)
digit_bounds b h = grind (arith, nat_tests)

take_first : (text : List ℕ) (i d : ℕ) → take (suc i) text ≡ d ∷ [] → suc i < length text → (get_or text 0 0 ≡ d) × (1 < length text) × (i ≡ 0)
take_first [] i d e l = absurd (omega arith)
take_first (b ∷ text) zero d e l = (cc, omega arith, refl)
take_first (b ∷ []) (suc i) d e l = absurd (omega arith)
take_first (b ∷ c ∷ text) (suc i) d e l = absurd (cc)

zero_alone : (w : ℕ) (text : List ℕ) → w < 2 ^ 64 → decimal w ≡ text → get_or text 0 0 ≡ 48 → 1 < length text → ⊥
zero_alone zero text h e f l = let s : length (decimal 0) ≡ 1 = ap length (decimal_digit 0 (omega arith)) in omega (arith, s, ap length e)
zero_alone (suc w) text h e f l = let s = first_decimal (suc w) (omega arith) h in omega (arith, s, ap (λ t. get_or t 0 0) e)

led_by_none : (bound w : ℕ) (text : List ℕ) (i value : ℕ) → w < 2 ^ 64 → decimal w ≡ text → i < length text → Read bound text i value → value ≡ 0 → i ≡ 0
led_by_none bound w text zero value h e l r z = refl
led_by_none bound w text (suc i) value h e l r z =
    let d : take (suc i) text ≡ 48 ∷ [] = sym (r.some (omega arith)) ∙ ap decimal z ∙ decimal_digit 0 (omega arith) in
    let t = take_first text i 48 d l in
    absurd (zero_alone w text h e t.0 t.1)

value_taken : (text : List ℕ) (n : ℕ) → value_from 0 (take n text) ≤ value_from 0 text
value_taken text n =
    let a = value_append 0 (take n text) (drop n text) in
    let t = ap (value_from 0) (take-append-drop n text) in
    let l = value_le (value_from 0 (take n text)) (drop n text) in
    omega (arith, a, t, l)

value_so_far : (bound : ℕ) (text : List ℕ) (i value : ℕ) → bound ≤ 4294967296 → Read bound text i value → value_from 0 (take i text) ≡ value
unfolding value_from
value_so_far bound text zero value b r = sym (r.none refl)
value_so_far bound text (suc i) value b r = ap (value_from 0) (sym (r.some (omega arith))) ∙ value_decimal value (omega (arith, r.below))

next_below : (bound w : ℕ) (text : List ℕ) (i value : ℕ) → bound ≤ 4294967296 → w < bound → decimal w ≡ text → i < length text → Read bound text i value → 10 * value + (get_or text i 0 - 48) < bound
next_below bound w text i value b h e l r =
    let so = value_so_far bound text i value b r in
    let p = ap (value_from 0) (take_more text i 0 l) ∙ value_push 0 (take i text) (get_or text i 0) in
    let t = value_taken text (i + 1) in
    let w' : value_from 0 text ≡ w = ap (value_from 0) (sym e) ∙ value_decimal w (omega arith) in
    omega (arith, so, p, t, w')

pub read_none : (bound : ℕ) (text : List ℕ) (i value digit : ℕ) → bound ≤ 4294967296 → i < length text → digit ≡ get_or text i 0 → Read bound text i value → IsNoNext value i digit bound → SpellsNone bound text
read_none bound text i value digit b l e r n w h s =
    let d = digit_bounds (get_or text i 0) (digit_at w text i (omega arith) s l) in
    n (10 * value + (digit - 48)) (record {
      low = omega (arith, d.0, e);
      high = omega (arith, d.1, e);
      led = led_by_none bound w text i value (omega arith) s l r;
      value = refl;
      below = (let x = next_below bound w text i value b h s l r in omega (arith, x, e));
    })

pub read_empty : (bound : ℕ) (text : List ℕ) → bound ≤ 4294967296 → length text ≡ 0 → SpellsNone bound text
read_empty bound text b e w h s = let l = decimal_nonempty w (omega arith) in absurd (omega (arith, l, ap length s))

pub read_all : (bound : ℕ) (text : List ℕ) (i value : ℕ) → length text ≤ i → length text ≢ 0 → Read bound text i value → SpellsBelow bound text value
read_all bound text i value h n r = let p : 0 < i = omega arith in record { spelled = r.some p ∙ take_all i text h; below = r.within p }
