-- Which versions are kept, and which entry they note when they stop being kept.
use Rattle.std.specs.Prelude.{ℕ, suc, Bool, true, false, ◌&&◌, ◌||◌, eqb, is_none, bytes_eq, List, [], ◌∷◌, map, Option, Some, None}
use Rattle.std.specs.List.{list_any}
use Rattle.ps_script.specs.declared.name.Place.{Place}
use Rattle.ps_journal.specs.declared.seats.Pin.{Pin}
use Rattle.ps_journal.specs.State.{Version, Circuit, State, released}

abbrev pub same_place : Place → Place → Bool
same_place a b = bytes_eq a.name b.name && eqb a.version b.version

abbrev pub same_place_maybe : Place → Option Place → Bool
same_place_maybe p None = false
same_place_maybe p (Some q) = same_place p q

-- the pin names the place
abbrev pub pins_place : Place → Pin → Bool
pins_place p pin = same_place p pin.first || same_place_maybe p pin.second

abbrev pub pins_place_maybe : Place → Option Pin → Bool
pins_place_maybe p None = false
pins_place_maybe p (Some pin) = pins_place p pin

abbrev pub is_pinned : List (Option Pin) → Place → Bool
is_pinned pins p = list_any (pins_place_maybe p) pins

-- a version is kept while it is live or pinned
abbrev pub is_kept : List (Option Pin) → Place → Version → Bool
is_kept pins p v = is_none v.retired || is_pinned pins p

-- ---- versions that are not kept any more note the entry
abbrev pub ended_by : ℕ → Bool → Option ℕ → Option ℕ
ended_by i true ended = ended
ended_by i false None = Some i
ended_by i false (Some j) = Some j

abbrev pub noted_version : ℕ → Bool → Version → Version
noted_version i kept v = record v { ended = ended_by i kept v.ended }

module _ (i : ℕ) (pins : List (Option Pin)) where
  -- the versions of a circuit from a number on
  abbrev pub noted_versions : List ℕ → ℕ → List Version → List Version
  noted_versions name k [] = []
  noted_versions name k (v ∷ vs) = noted_version i (is_kept pins (record { name = name; version = k }) v) v ∷ noted_versions name (suc k) vs

  abbrev pub noted_circuit : Circuit → Circuit
  noted_circuit c = record c { versions = noted_versions c.name 1 c.versions }

abbrev pub noted : ℕ → State → State
noted i t = record t { circuits = map (noted_circuit i t.pins) t.circuits }

-- the seat has pinned nothing any more, by entry i
abbrev pub unpinned : ℕ → ℕ → State → State
unpinned i seat t = noted i (released seat t)
