-- What the service holds, and what it keeps of it.
use Rattle.std.specs.Prelude.{ℕ, ◌≡◌, ◌<◌, ◌≤◌, Bool, true, nat_lt, List, length, Option, Some, None, is_some, slice_get, slice_index_or}
use Rattle.std.specs.List.{list_all}
use Rattle.std.proofs.Props.{props}
use Rattle.seg_tree.specs.Trees.{run}
use Rattle.seg_tree.specs.Table.{tree}
use Rattle.seg_tree.specs.Coding.{tree_code}
use Rattle.ps_views.specs.Older.{IsForest}
use Rattle.std.specs.Coded.{Coded-set, coded_ℕ}
use Rattle.ps_script.specs.declared.name.Place.{Place}
use Rattle.ps_versions.specs.Held.{Held, Version, Circuit}
use Rattle.ps_versions.specs.Lookup.{place_of, version_at}
use Rattle.ps_versions.specs.Lives.{is_kept, IsLife}
use Rattle.ps_versions.specs.Questions.{sides_have_sums}
use Rattle.ps_versions.specs.Reached.{is_segment}
use Rattle.qasm_expand.specs.Circuits.{TableOf}
use Rattle.ps_journal.specs.declared.seats.Pin.{Pin}
use Rattle.ps_journal.specs.declared.seats.Claim.{Claim}
use Rattle.ps_journal.specs.State.{Item, most_terms}
use Rattle.ps_journal.specs.Segments.{is_passed}
use Rattle.std.specs.declared.sync.Arc.{Arc}
use Rattle.std.specs.declared.alloc.Global.{Global}
use Rattle.qasm_expand.specs.declared.tables.Table.{Table}
use Rattle.ps_prim.specs.declared.items.Item.{Item as AnItem}
use Rattle.ps_views.specs.Counts.{pins_on}
use Rattle.ps_views.specs.Views.{items_in, tables_in}
use Rattle.ps_views.specs.declared.filed.Filed.{Filed}

-- Circuits with their versions and records; the gate tables of the circuits, and the items, in order of their numbers;
-- pins and claims by seat; and the number of kept terms.
pub record Fields : Type 0 where
  pub versions : Held Filed
  pub tables : List TableOf
  pub items : List Item
  pub pins : List (Option Pin)
  pub claims : List (Option Claim)
  pub terms : ℕ

-- the same, without what is shared
abbrev pub fields : Held Filed → List (Arc Table Global) → List (Arc AnItem Global) → List (Option Pin) → List (Option Claim) → ℕ → Fields
fields versions tables items pins claims terms = record { versions = versions; tables = tables_in tables; items = items_in items; pins = pins; claims = claims; terms = terms }

abbrev pub held_at : Held Filed → Place → Option Version
held_at h p = version_at h.circuits p.name p.version

abbrev pub passed : Filed → Bool
passed f = is_passed f.shared.value

-- all numbers are below this
abbrev pub are_below : ℕ → List ℕ → Bool
are_below n numbers = list_all (λ k. nat_lt k n) numbers

abbrev pub pin_at : Fields → ℕ → Option Pin
pin_at f seat = slice_index_or f.pins seat None

abbrev pub claim_at : Fields → ℕ → Option Claim
claim_at f seat = slice_index_or f.claims seat None

-- Each circuit is found by its name, has a table of gates, and is on 1 to 64 qubits. The items of each segment are among the items.
-- Each node's tree is made of those of older nodes, and has a place for what it keeps, and the root of each version is a node.
-- A version has an end exactly where it is not kept. It is there where a pin names it, and knows how many do.
-- A claim is on a segment of a version; while that is kept, the sides of the segment have sums.
pub record IsSound (f : Fields) : Type 0 where
  pub tabled : length f.tables ≡ length f.versions.circuits
  pub named : (i : ℕ) (c : Circuit) → slice_get f.versions.circuits i ≡ Some c → place_of f.versions.circuits c.name ≡ Some i
  pub wide : (i : ℕ) (c : Circuit) → slice_get f.versions.circuits i ≡ Some c → (1 ≤ c.qubits) × (c.qubits ≤ 64)
  pub lives : (i k : ℕ) (c : Circuit) (v : Version) → slice_get f.versions.circuits i ≡ Some c → slice_get c.versions k ≡ Some v → IsLife v
  pub grown : IsForest f.versions.nodes
  pub rooted : (i k r : ℕ) (c : Circuit) (v : Version) → slice_get f.versions.circuits i ≡ Some c → slice_get c.versions k ≡ Some v → v.root ≡ Some r → r < length f.versions.nodes
  pub recorded : length f.versions.kept ≡ length f.versions.nodes
  pub numbered : (k : ℕ) → k < length f.versions.nodes → are_below (length f.items) (run (tree f.versions.nodes k)) ≡ true
  pub seats : (length f.pins ≡ 64) × (length f.claims ≡ 64)
  pub pinned : (p : Place) → 0 < pins_on p f.pins → is_some (held_at f.versions p) ≡ true
  pub counted : (p : Place) (v : Version) → held_at f.versions p ≡ Some v → v.pins ≡ pins_on p f.pins
  pub claimed : (seat : ℕ) (c : Claim) → claim_at f seat ≡ Some c → is_segment f.versions (held_at f.versions c.place) c.node ≡ true
  pub ready : (seat : ℕ) (c : Claim) (v : Version) → claim_at f seat ≡ Some c → held_at f.versions c.place ≡ Some v → is_kept v ≡ true
      → sides_have_sums f.versions.kept passed (tree f.versions.nodes c.node) ≡ true
  pub room : f.terms ≤ most_terms

pub IsSound-prop : (f : Fields) → IsProp (IsSound f)
IsSound-prop f = hlevel (props, Coded-set (tree_code coded_ℕ))
