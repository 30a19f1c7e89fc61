-- The bits of the seats that have a claim on a version.
use Rattle.std.proofs.Common.{◌≡◌, ℕ, zero, suc, ◌+◌, ◌-◌, ◌*◌, ◌^◌, ◌<◌, ◌≤◌, Bool, true, false, cond, List, [], ◌∷◌, length, drop, get_or, refl, sym, ap, ◌∙◌, arith}
use Rattle.std.specs.Prelude.{Option, Some, None}
use Rattle.std.proofs.Math.Pow.{pow_mono}
use Rattle.std.proofs.lemmas.List.{drop_more}
use Rattle.ps_script.specs.declared.name.Place.{Place}
use Rattle.ps_journal.specs.declared.seats.Claim.{Claim}
use Rattle.ps_journal.specs.Retiring.{claims_on}
use Rattle.ps_book.specs.Seats.{is_on}

abbrev pub bit_of : Bool → ℕ
bit_of b = cond b 1 0

-- one seat more
claims_step : (p : Place) (x : Option Claim) (cs : List (Option Claim)) → claims_on p (x ∷ cs) ≡ bit_of (is_on p x) + 2 * claims_on p cs
claims_step p None cs = let e : 2 * claims_on p cs ≡ 0 + 2 * claims_on p cs = omega arith in e
claims_step p (Some c) cs = refl

abbrev bits_from : Place → List (Option Claim) → ℕ → ℕ
bits_from p cs i = claims_on p (drop i cs)

pub bits_none : (p : Place) (cs : List (Option Claim)) → length cs ≡ 64 → claims_on p (drop 64 cs) ≡ 0
bits_none p cs h = ap (claims_on p) (past 64 cs (omega (arith, h)))
  where
    past : (n : ℕ) (xs : List (Option Claim)) → length xs ≤ n → drop n xs ≡ []
    past zero [] h = refl
    past (suc n) [] h = refl
    past zero (x ∷ xs) h = absurd (omega arith)
    past (suc n) (x ∷ xs) h = past n xs (omega arith)

pub bits_more : (p : Place) (cs : List (Option Claim)) (i : ℕ) (x : Option Claim) (b : Bool) (n : ℕ) → length cs ≡ 64 → i < 64 → x ≡ get_or cs (63 - i) x
    → b ≡ is_on p x
    → n ≡ claims_on p (drop (64 - i) cs) → n * 2 + bit_of b ≡ claims_on p (drop (64 - (i + 1)) cs)
bits_more p cs i x b n l h e d was =
    let at : drop (63 - i) cs ≡ x ∷ drop (63 - i + 1) cs = drop_more cs (63 - i) x (omega (arith, l)) ∙ ap (λ y. y ∷ drop (63 - i + 1) cs) (sym e) in
    let next : claims_on p (drop (63 - i + 1) cs) ≡ claims_on p (drop (64 - i) cs) = ap (bits_from p cs) (omega arith) in
    let here : claims_on p (drop (64 - (i + 1)) cs) ≡ claims_on p (drop (63 - i) cs) = ap (bits_from p cs) (omega arith) in
    let step : claims_on p (drop (63 - i) cs) ≡ bit_of (is_on p x) + 2 * claims_on p (drop (63 - i + 1) cs) =
    ap (claims_on p) at ∙ claims_step p x (drop (63 - i + 1) cs) in
    let bit : bit_of b ≡ bit_of (is_on p x) = ap bit_of d in
    omega (arith, next, here, step, bit, was)

-- so many bits are a number below this
pub bits_fit : (n i : ℕ) → i < 64 → n < 2 ^ i → n < 2 ^ 63
bits_fit n i h below = let low : i ≤ 63 = omega arith in let most : 2 ^ i ≤ 2 ^ 63 = pow_mono low in omega (arith, most)

pub bits_below : (n i : ℕ) (b : Bool) → n < 2 ^ i → n * 2 + bit_of b < 2 ^ (i + 1)
bits_below n i true h =
    let e : 2 ^ suc i ≡ 2 ^ i + 2 ^ i = omega arith in let same : 2 ^ (i + 1) ≡ 2 ^ suc i = ap (λ k. 2 ^ k) (omega arith) in omega (arith, e, same)
bits_below n i false h =
    let e : 2 ^ suc i ≡ 2 ^ i + 2 ^ i = omega arith in let same : 2 ^ (i + 1) ≡ 2 ^ suc i = ap (λ k. 2 ^ k) (omega arith) in omega (arith, e, same)
