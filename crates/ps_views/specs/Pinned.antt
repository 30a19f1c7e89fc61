-- Versions that a pin names.
use Rattle.std.specs.Prelude.{ℕ, ◌≡◌, true, Option, Some, None}
use Rattle.ps_script.specs.declared.name.Place.{Place}
use Rattle.ps_versions.specs.Held.{Version, Circuit}
use Rattle.ps_versions.specs.Lookup.{circuit_at}
use Rattle.ps_versions.specs.Lives.{is_kept}
use Rattle.ps_journal.specs.declared.seats.Pin.{Pin}
use Rattle.ps_views.specs.Fields.{Fields, held_at}

-- a version is at the place, and is kept
pub record KeptAt (f : Fields) (p : Place) : Type 0 where
  pub circuit : Circuit
  pub circuit_is : circuit_at f.versions.circuits p.name ≡ Some circuit
  pub version : Version
  pub version_is : held_at f.versions p ≡ Some version
  pub kept : is_kept version ≡ true

-- the versions that the pin names are there and kept
pub record HasPinned (f : Fields) (pin : Pin) : Type 0 where
  pub first : KeptAt f pin.first
  pub second : (p : Place) → pin.second ≡ Some p → KeptAt f p
