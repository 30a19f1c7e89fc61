-- How many pins name a place, when the pin of a seat changes.
use Rattle.std.proofs.Common.{◌≡◌, ◌<◌, ◌≤◌, ◌+◌, ◌*◌, ℕ, zero, suc, Bool, true, false, List, [], ◌∷◌, length, refl, sym, ap, ◌∙◌, arith}
use Rattle.std.specs.Prelude.{Option, Some, None, slice_set, slice_index_or}
use Rattle.ps_script.specs.declared.name.Place.{Place}
use Rattle.ps_journal.specs.declared.seats.Pin.{Pin}
use Rattle.ps_journal.specs.Keeping.{same_place, same_place_maybe}
use Rattle.ps_views.specs.Counts.{one, pins_by, pins_on}

pub pins_on-set : (p : Place) (pins : List (Option Pin)) (seat : ℕ) (pin : Option Pin) → seat < length pins → pins_on p (slice_set pins seat pin) + pins_by p (slice_index_or pins seat None) ≡ pins_on p pins + pins_by p pin
pins_on-set p [] seat pin h = absurd (omega arith)
pins_on-set p (x ∷ pins) zero pin h = omega arith
pins_on-set p (x ∷ pins) (suc seat) pin h = omega (arith, pins_on-set p pins seat pin (omega arith))

pub pins_by_few : (p : Place) (pin : Option Pin) → pins_by p pin ≤ 2
pins_by_few p None = omega arith
pins_by_few p (Some pin) = omega (arith, few (same_place p pin.first), few (same_place_maybe p pin.second))
  where
    few : (b : Bool) → one b ≤ 1
    few true = omega arith
    few false = omega arith

pub pins_on_few : (p : Place) (pins : List (Option Pin)) → pins_on p pins ≤ 2 * length pins
pins_on_few p [] = omega arith
pins_on_few p (pin ∷ pins) = omega (arith, pins_by_few p pin, pins_on_few p pins)

-- what one seat has pinned is counted
pub pins_by_within : (p : Place) (pins : List (Option Pin)) (seat : ℕ) → pins_by p (slice_index_or pins seat None) ≤ pins_on p pins
pins_by_within p [] seat = omega arith
pins_by_within p (pin ∷ pins) zero = omega arith
pins_by_within p (pin ∷ pins) (suc seat) = omega (arith, pins_by_within p pins seat)

pub length-slice_set : {A : Type 0} (xs : List A) (i : ℕ) (x : A) → length (slice_set xs i x) ≡ length xs
length-slice_set [] i x = refl
length-slice_set (y ∷ xs) zero x = refl
length-slice_set (y ∷ xs) (suc i) x = omega (arith, length-slice_set xs i x)

pub get-slice_set : {A : Type 0} (xs : List A) (i : ℕ) (x d : A) → i < length xs → slice_index_or (slice_set xs i x) i d ≡ x
get-slice_set [] i x d h = absurd (omega arith)
get-slice_set (y ∷ xs) zero x d h = refl
get-slice_set (y ∷ xs) (suc i) x d h = get-slice_set xs i x d (omega arith)

pub set_twice : {A : Type 0} (xs : List A) (i : ℕ) (x y : A) → slice_set (slice_set xs i x) i y ≡ slice_set xs i y
set_twice [] i x y = refl
set_twice (z ∷ xs) zero x y = refl
set_twice (z ∷ xs) (suc i) x y = ap (λ zs. z ∷ zs) (set_twice xs i x y)

pub set_same : {A : Type 0} (xs : List A) (i : ℕ) (x d : A) → slice_index_or xs i d ≡ x → i < length xs → slice_set xs i x ≡ xs
set_same [] i x d e h = refl
set_same (z ∷ xs) zero x d e h = ap (λ y. y ∷ xs) (sym e)
set_same (z ∷ xs) (suc i) x d e h = ap (λ zs. z ∷ zs) (set_same xs i x d e (omega arith))
