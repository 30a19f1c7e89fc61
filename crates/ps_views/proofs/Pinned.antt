-- Pinned versions are there and kept.
use Rattle.std.proofs.Common.{◌≡◌, ℕ, zero, suc, ◌+◌, ◌<◌, ◌≤◌, Bool, true, false, ◌||◌, List, [], ◌∷◌, refl, sym, ap, ◌∙◌, subst, arith}
use Rattle.std.specs.Prelude.{Option, Some, None, is_some, is_none, nat_lt, slice_index_or}
use Rattle.std.proofs.lemmas.Bool.Decides.{nat_tests}
use Rattle.std.proofs.lemmas.Grind.{common_steps}
use Rattle.ps_script.specs.declared.name.Place.{Place}
use Rattle.ps_versions.specs.Held.{Held, Version, Circuit}
use Rattle.ps_versions.specs.Lookup.{circuit_at, version_in}
use Rattle.ps_versions.specs.Lives.{is_kept}
use Rattle.ps_journal.specs.declared.seats.Pin.{Pin}
use Rattle.ps_journal.specs.Keeping.{same_place, same_place_maybe}
use Rattle.ps_views.specs.Counts.{one, pins_by, pins_on}
use Rattle.ps_views.specs.Fields.{Fields, held_at, pin_at, IsSound}
use Rattle.ps_views.specs.Pinned.{KeptAt, HasPinned}
use Rattle.ps_views.specs.declared.filed.Filed.{Filed}
use Rattle.ps_views.proofs.Places.{same_place-refl}

pub named_pins : (p : Place) (pins : List (Option Pin)) (seat : ℕ) (pin : Pin) → slice_index_or pins seat None ≡ Some pin → 0 < pins_by p (Some pin) → 0 < pins_on p pins
named_pins p [] seat pin e h = cc
named_pins p (x ∷ xs) zero pin e h = let e' : x ≡ Some pin = e in let k : pins_by p x ≡ pins_by p (Some pin) = ap (pins_by p) e' in omega (arith, k)
named_pins p (x ∷ xs) (suc seat) pin e h = omega (arith, named_pins p xs seat pin e h)

first_named : (pin : Pin) → 0 < pins_by pin.first (Some pin)
first_named pin = let e : one (same_place pin.first pin.first) ≡ 1 = ap one (same_place-refl pin.first) in omega (arith, e)

second_named : (pin : Pin) (p : Place) → pin.second ≡ Some p → 0 < pins_by p (Some pin)
second_named pin p h = let e : one (same_place_maybe p pin.second) ≡ 1 = ap one (ap (same_place_maybe p) h ∙ same_place-refl p) in omega (arith, e)

kept_by : (f : Fields) (p : Place) (c : Option Circuit) (v : Option Version) → circuit_at f.versions.circuits p.name ≡ c → held_at f.versions p ≡ v → is_some v ≡ true
    → ((w : Version) → v ≡ Some w → 0 < w.pins) → KeptAt f p
kept_by f p c None e h s k = cc
kept_by f p None (Some v) e h s k = let n : held_at f.versions p ≡ None = ap (λ x. version_in x p.version) e in cc
kept_by f p (Some c) (Some v) e h s k = record { circuit = c; circuit_is = e; version = v; version_is = h; kept = (let n : 0 < v.pins = k v refl in grind (arith, nat_tests, common_steps)) }

-- a version that some pin names is kept
pub kept_named : (f : Fields) → IsSound f → (p : Place) → 0 < pins_on p f.pins → KeptAt f p
kept_named f s p h = kept_by f p (circuit_at f.versions.circuits p.name) (held_at f.versions p) refl refl (s.pinned p h) (λ w e. let k : w.pins ≡ pins_on p f.pins = s.counted p w e in omega (arith, k))

-- what a seat has pinned is there and kept
pub has_pinned : (f : Fields) (seat : ℕ) (pin : Pin) → IsSound f → pin_at f seat ≡ Some pin → HasPinned f pin
has_pinned f seat pin s e = record {
  first = kept_named f s pin.first (named_pins pin.first f.pins seat pin e (first_named pin));
  second = λ p h. kept_named f s p (named_pins p f.pins seat pin e (second_named pin p h));
}
