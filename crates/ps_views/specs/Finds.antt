-- What is found at a name and at a place, in the tables and in the state that they stand for.
use Rattle.std.specs.Prelude.{ℕ, ◌≡◌, List, Some, slice_get}
use Rattle.seg_tree.specs.Trees.{Tree}
use Rattle.qasm_expand.specs.Circuits.{TableOf}
use Rattle.ps_script.specs.declared.name.Place.{Place}
use Rattle.ps_versions.specs.Held as held
use Rattle.ps_versions.specs.Lookup.{place_of, version_in}
use Rattle.ps_journal.specs.State.{Item, Version, Circuit, State, Finds}
use Rattle.ps_views.specs.Views.{version_of, circuit_of}
use Rattle.ps_views.specs.Fields.{Fields}

-- the circuit of the name is the i-th one, with these gates
pub record IsAt (tables : List TableOf) (cs : List held.Circuit) (name : List ℕ) (i : ℕ) (g : TableOf) (c : held.Circuit) : Type 0 where
  pub place : place_of cs name ≡ Some i
  pub circuit : slice_get cs i ≡ Some c
  pub gates : slice_get tables i ≡ Some g

-- the circuit of a name, and the state's circuit that it stands for
pub record SeesCircuit (f : Fields) (name : List ℕ) (c : Circuit) : Type 0 where
  pub index : ℕ
  pub gates : TableOf
  pub held : held.Circuit
  pub at : IsAt f.tables f.versions.circuits name index gates held
  pub same : c ≡ circuit_of f.items f.versions.nodes gates held

-- the version at a place, and the state's version that it stands for
pub record SeesVersion (f : Fields) (p : Place) (c : Circuit) (v : Version) : Type 0 where
  pub circuit : SeesCircuit f p.name c
  pub held : held.Version
  pub at : version_in (Some circuit.held) p.version ≡ Some held
  pub same : v ≡ version_of f.items f.versions.nodes held

-- a version of the tables, and where it is found in the state
pub record FindsHeld (f : Fields) (t : State) (p : Place) (v : held.Version) : Type 0 where
  pub index : ℕ
  pub gates : TableOf
  pub held : held.Circuit
  pub at : IsAt f.tables f.versions.circuits p.name index gates held
  pub there : version_in (Some held) p.version ≡ Some v
  pub finds : Finds t p (circuit_of f.items f.versions.nodes gates held) (version_of f.items f.versions.nodes v)
