-- Which versions of the tables are live.
use Rattle.std.specs.Prelude.{ℕ, ◌≡◌, Some, None}
use Rattle.ps_script.specs.declared.name.Place.{Place}
use Rattle.ps_versions.specs.Held.{Version, Circuit}
use Rattle.ps_versions.specs.Lookup.{circuit_at}
use Rattle.ps_journal.specs.State.{State}
use Rattle.ps_journal.specs.Pinning.{Refuses}
use Rattle.ps_journal.specs.declared.replies.Reply.{Reply}
use Rattle.ps_views.specs.Fields.{Fields, held_at}
use Rattle.ps_views.specs.Stands.{Stands}

-- a live version is at the place, on so many qubits
pub record LivesAt (f : Fields) (p : Place) (qubits : ℕ) : Type 0 where
  pub circuit : Circuit
  pub circuit_is : circuit_at f.versions.circuits p.name ≡ Some circuit
  pub version : Version
  pub version_is : held_at f.versions p ≡ Some version
  pub live : version.retired ≡ None
  pub qubits_are : circuit.qubits ≡ qubits

-- no live version is at the place, in whatever state the fields stand for
abbrev pub RefusesAt : Fields → Place → Reply → Type 0
RefusesAt f p r = (t : State) → Stands f t → Refuses t p r
