-- Fields with one circuit more, and with one version more; what that answers, and what a fault is told as.
use Rattle.std.specs.Prelude.{ℕ, ◌≡◌, ◌≤◌, ◌<◌, ◌⊎◌, List, [], ◌∷◌, ◌++◌, length, Ok, Some, None}
use Rattle.std.specs.List.{range_with_len}
use Rattle.seg_tree.specs.Trees.{run_maybe}
use Rattle.seg_tree.specs.Table.{root_tree}
use Rattle.qasm_expand.specs.declared.fault.FaultName.{FaultName}
use Rattle.qasm_expand.specs.declared.fault.ReadFault.{ReadFault}
use Rattle.qasm_expand.specs.declared.fault.ReadFault.TheVariants as read
use Rattle.qasm_expand.specs.Circuits.{CircuitOf, ReadsBlock}
use Rattle.ps_versions.specs.Held as held
use Rattle.ps_versions.specs.Lookup as lookup
use Rattle.ps_versions.specs.Lookup.{version_in}
use Rattle.ps_versions.specs.Opened.{Opens}
use Rattle.ps_versions.specs.Spliced.{Splices}
use Rattle.ps_journal.specs.declared.replies.Reply.{Reply}
use Rattle.ps_journal.specs.declared.replies.Reply.TheVariants.{Opened, Bad, Memory}
use Rattle.ps_journal.specs.State.{Item, Version, Circuit, State}
use Rattle.ps_journal.specs.Segments.{missing}
use Rattle.ps_journal.specs.Faults.{IsToldAt}
use Rattle.ps_journal.specs.Opening.{first_version, opened}
use Rattle.ps_journal.specs.Splicing.{Replaces}
use Rattle.ps_views.specs.Older.{IsForest}
use Rattle.ps_views.specs.Fields.{Fields}
use Rattle.ps_views.specs.Stands.{Stands, Leaves}
use Rattle.ps_book.specs.Wanting.{Starves, SplicesOr}

-- ---- faults
-- the reply tells the fault with its line and its column
pub record TellsBad (bytes : List ℕ) (name : FaultName) (at : ℕ) (r : Reply) : Type 0 where
  pub line : ℕ
  pub column : ℕ
  pub place : IsToldAt bytes at line column
  pub reply : r ≡ Bad name line column

-- it does, or tells that memory was wanting
abbrev pub TellsFault : List ℕ → ReadFault → Reply → Type 0
TellsFault bytes (read.Fault name at) r = TellsBad bytes name at r
TellsFault bytes read.Memory r = r ≡ Memory

-- ---- opening
-- one circuit more, of what was read, by an entry; its items have the next numbers
pub record AddsCircuit (f : Fields) (name : List ℕ) (c : CircuitOf) (entry : ℕ) (g : Fields) : Type 0 where
  pub opens : Opens f.versions g.versions name c.qubits (range_with_len (length f.items) (length c.items)) entry
  pub forest : IsForest g.versions.nodes
  pub fields : g ≡ record f { versions = g.versions; tables = f.tables ++ c.table ∷ []; items = f.items ++ c.items }

-- the circuit that was read is open
pub record IsOpened (t : State) (entry : ℕ) (name : List ℕ) (c : CircuitOf) (r : Reply) (new : State) : Type 0 where
  pub reply : r ≡ Opened (missing t.published (first_version t.names c).tree)
  pub state : new ≡ opened entry name c t

-- it is, or memory was wanting
abbrev pub OpensRead : State → ℕ → List ℕ → CircuitOf → Reply → State → Type 0
OpensRead t entry name c r new = IsOpened t entry name c r new ⊎ Starves t r new

-- ---- splicing
-- the latest version of the circuit, which is live, has so many items, and the range is among them
pub record HasRange (f : Fields) (name : List ℕ) (from to len : ℕ) : Type 0 where
  pub circuit : held.Circuit
  pub circuit_is : lookup.circuit_at f.versions.circuits name ≡ Some circuit
  pub version : held.Version
  pub version_is : version_in (Some circuit) (length circuit.versions) ≡ Some version
  pub live : version.retired ≡ None
  pub count : len ≡ length (run_maybe (root_tree f.versions.nodes version.root))
  pub ordered : from ≤ to
  pub inside : to ≤ len
  pub short : len ≤ 65536
  pub few : length circuit.versions < 4294967295

-- the circuit has one version more, with items in place of the range; they have the next numbers
pub record AddsVersion (f : Fields) (name : List ℕ) (from to : ℕ) (more : List Item) (number : ℕ) (g : Fields) : Type 0 where
  pub splices : Splices f.versions g.versions name from to (range_with_len (length f.items) (length more)) number
  pub forest : IsForest g.versions.nodes
  pub fields : g ≡ record f { versions = g.versions; items = f.items ++ more }

-- the base is the latest version, the range is in it, and the block was read as these items
pub record ReadsAs (t : State) (name : List ℕ) (base from to : ℕ) (block : List ℕ) (items : List Item) : Type 0 where
  pub circuit : Circuit
  pub version : Version
  pub replaces : Replaces t name base from to circuit version
  pub reads : ReadsBlock circuit.table block (Ok items)

-- where the latest version is the base, the fields that are left stand for the state that splicing the block leaves
abbrev pub SplicesBlock : Fields → List ℕ → ℕ → ℕ → List ℕ → Reply → Fields → Type 0
SplicesBlock f name from to block r g =
    (t : State) (c : held.Circuit) → Stands f t → lookup.circuit_at f.versions.circuits name ≡ Some c
    → Leaves (λ new. SplicesOr t name (length c.versions) from to block r new) g

-- the same of any block that was read as these items
abbrev pub SplicesItems : Fields → List ℕ → ℕ → ℕ → List Item → Reply → Fields → Type 0
SplicesItems f name from to items r g =
    (t : State) (c : held.Circuit) (block : List ℕ) → Stands f t → lookup.circuit_at f.versions.circuits name ≡ Some c
    → ReadsAs t name (length c.versions) from to block items → Leaves (λ new. SplicesOr t name (length c.versions) from to block r new) g
