-- How many pins name a place.
use Rattle.std.specs.Prelude.{ℕ, ◌+◌, cond, Bool, List, [], ◌∷◌, Option, Some, None}
use Rattle.ps_script.specs.declared.name.Place.{Place}
use Rattle.ps_journal.specs.declared.seats.Pin.{Pin}
use Rattle.ps_journal.specs.Keeping.{same_place, same_place_maybe}

abbrev pub one : Bool → ℕ
one b = cond b 1 0

-- how often a pin names the place
abbrev pub pins_by : Place → Option Pin → ℕ
pins_by p None = 0
pins_by p (Some pin) = one (same_place p pin.first) + one (same_place_maybe p pin.second)

abbrev pub pins_on : Place → List (Option Pin) → ℕ
pins_on p [] = 0
pins_on p (pin ∷ pins) = pins_by p pin + pins_on p pins
