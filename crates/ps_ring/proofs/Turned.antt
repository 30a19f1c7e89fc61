-- Numbers and turns.
use Rattle.std.proofs.Common.{◌≡◌, ℕ, zero, suc, ◌+◌, ◌%◌, ◌*◌, ◌/◌, refl, ap, sym, ◌∙◌, arith, ◌⊎◌, inl, inr}
use Rattle.std.proofs.Math.IntN.{ℤ, pos, negsuc, ◌+ℤ◌, ◌-ℤ◌, neg_ℤ, nat_abs}
use Rattle.std.proofs.lemmas.Int.{ints}
use Rattle.std.proofs.lemmas.Bool.Decides.{nat_tests}
use Rattle.ps_ring.specs.Numbers.{Number, IsNumber, one, unit_at, sqrt2}
use Rattle.ps_ring.specs.NumberLaws.{OneIsNumber, RootTwice}

pub sqrt2_twice : RootTwice
unfolding sqrt2
sqrt2_twice c h j =
    let a : (j -ℤ pos 536870912) -ℤ pos 536870912 +ℤ pos 2147483648 ≡ j +ℤ pos 536870912 +ℤ pos 536870912 = omega (arith, ints) in
    let b : (j -ℤ pos 536870912) +ℤ pos 536870912 ≡ j = omega (arith, ints) in
    let d : (j +ℤ pos 536870912) -ℤ pos 536870912 ≡ j = omega (arith, ints) in
    let e = h ((j -ℤ pos 536870912) -ℤ pos 536870912) in
    let a' = ap c a in
    let b' = ap c b in
    let d' = ap c d in
    omega (arith, ints)

-- half a turn apart
up_half : (a b : ℕ) → a ≡ b + 2147483648 → unit_at (a % 4294967296) ≡ neg_ℤ (unit_at (b % 4294967296))
unfolding unit_at
up_half a b h = grind (arith, nat_tests)

down_half : (a b : ℕ) → b ≡ a + 2147483648 → unit_at (a % 4294967296) ≡ neg_ℤ (unit_at (b % 4294967296))
unfolding unit_at
down_half a b h = grind (arith, nat_tests)

across : (a b : ℕ) → a + b ≡ 2147483648 → unit_at (a % 4294967296) ≡ neg_ℤ (unit_at (b % 4294967296))
unfolding unit_at
across a b h = grind (arith, nat_tests)

over_zero : (n : ℕ) → (n + 1 ≡ nat_abs (pos 2147483648 +ℤ negsuc n) + 2147483648) ⊎ (nat_abs (pos 2147483648 +ℤ negsuc n) + (n + 1) ≡ 2147483648)
over_zero n = grind (arith, nat_tests)

pub one_number : OneIsNumber
unfolding one
one_number (pos n) = up_half _ _ refl
one_number (negsuc n) = elim (over_zero n) [ inl e ↦ down_half _ (suc n) (omega (arith, e)) | inr e ↦ across _ (suc n) (omega (arith, e)) ]

-- a whole turn
pub full : (c : Number) → IsNumber c → (j : ℤ) → c (j -ℤ pos 4294967296) ≡ c j
full c h j =
    let a : j -ℤ pos 4294967296 +ℤ pos 2147483648 +ℤ pos 2147483648 ≡ j = omega (arith, ints) in
    let e = h (j -ℤ pos 4294967296) in
    let e' = h (j -ℤ pos 4294967296 +ℤ pos 2147483648) in
    let a' = ap c a in
    omega (arith, ints)

pub whole : (c : Number) → IsNumber c → (n : ℕ) (j : ℤ) → c (j -ℤ pos (n * 4294967296)) ≡ c j
whole c h zero j = ap c (omega (arith, ints))
whole c h (suc n) j =
    let a : j -ℤ pos (suc n * 4294967296) ≡ j -ℤ pos 4294967296 -ℤ pos (n * 4294967296) = omega (arith, ints) in
    ap c a ∙ whole c h n (j -ℤ pos 4294967296) ∙ full c h j

pub turned_rem : (c : Number) → IsNumber c → (p : ℕ) (j : ℤ) → c (j -ℤ pos p) ≡ c (j -ℤ pos (p % 4294967296))
turned_rem c h p j =
    let a : j -ℤ pos p ≡ j -ℤ pos (p % 4294967296) -ℤ pos (p / 4294967296 * 4294967296) = omega (arith, ints) in
    ap c a ∙ whole c h (p / 4294967296) (j -ℤ pos (p % 4294967296))

-- phases that are equal but for whole turns
pub turned_same : (c : Number) → IsNumber c → (p q : ℕ) → p % 4294967296 ≡ q % 4294967296 → (j : ℤ) → c (j -ℤ pos p) ≡ c (j -ℤ pos q)
turned_same c h p q e j = turned_rem c h p j ∙ ap (λ r. c (j -ℤ pos r)) e ∙ sym (turned_rem c h q j)

pub turned_number : (c : Number) → IsNumber c → (p j : ℤ) → c (j +ℤ pos 2147483648 -ℤ p) ≡ neg_ℤ (c (j -ℤ p))
turned_number c h p j =
    let s : j +ℤ pos 2147483648 -ℤ p ≡ j -ℤ p +ℤ pos 2147483648 = omega (arith, ints) in
    ap c s ∙ h (j -ℤ p)

pub sqrt2_number : (c : Number) → IsNumber c → IsNumber (sqrt2 c)
unfolding sqrt2
sqrt2_number c h j =
    let a = turned_number c h (pos 536870912) j in
    let b = turned_number c h (negsuc 536870911) j in
    omega (arith, ints)

-- a phase that is r but for whole turns
pub turned_to : (c : Number) → IsNumber c → (p q w : ℕ) (r : ℤ) → p % 4294967296 ≡ q % 4294967296 → pos q ≡ r +ℤ pos (w * 4294967296) → (j : ℤ) → c (j -ℤ pos p) ≡ c (j -ℤ r)
turned_to c h p q w r e f j =
    let a : j -ℤ pos q ≡ j -ℤ r -ℤ pos (w * 4294967296) = omega (arith, ints) in
    turned_same c h p q e j ∙ ap c a ∙ whole c h w (j -ℤ r)

-- the same where it is p and t that add up
pub turned_by : (c : Number) → IsNumber c → (p t q w : ℕ) (r : ℤ) → (p + t) % 4294967296 ≡ q % 4294967296 → pos q ≡ r +ℤ pos t +ℤ pos (w * 4294967296) → (j : ℤ) → c (j -ℤ pos p) ≡ c (j -ℤ r)
turned_by c h p t q w r e f j =
    let a : j -ℤ pos p ≡ j +ℤ pos t -ℤ pos (p + t) = omega (arith, ints) in
    let b : j +ℤ pos t -ℤ (r +ℤ pos t) ≡ j -ℤ r = omega (arith, ints) in
    ap c a ∙ turned_to c h (p + t) q w (r +ℤ pos t) e f (j +ℤ pos t) ∙ ap c b
