-- The numbers of versions.
use Rattle.std.specs.Prelude.{ℕ, ◌<◌, List}
use Rattle.ps_versions.specs.Lookup.{circuit_at}
use Rattle.ps_versions.specs.Spliced.{latest_of}
use Rattle.ps_views.specs.Fields.{Fields}

-- there is a number for the next version of each circuit
abbrev pub HasNumbers : Fields → Type 0
HasNumbers f = (name : List ℕ) → latest_of (circuit_at f.versions.circuits name) < 4294967295
