-- What is answered when a circuit is opened, and the fields with that circuit.
use Rattle.std.proofs.Common.{◌≡◌, ◌<◌, ◌≤◌, inl, inr, ℕ, List, [], ◌∷◌, ◌++◌, length, refl, sym, ap, ap₂, ◌∙◌, subst, arith}
use Rattle.std.specs.Prelude.{Option, Some, None, Ok, Err}
use Rattle.std.specs.List.{range_with_len}
use Rattle.std.specs.declared.sync.Arc.{Arc}
use Rattle.std.specs.declared.alloc.Global.{Global}
use Rattle.seg_tree.specs.Trees.{Tree, build}
use Rattle.ps_prim.specs.declared.items.Item.{Item as AnItem}
use Rattle.qasm_expand.specs.declared.tables.Table.{Table}
use Rattle.qasm_expand.specs.declared.fault.FaultName.{FaultName}
use Rattle.qasm_expand.specs.declared.fault.ReadFault.{ReadFault}
use Rattle.qasm_expand.specs.declared.fault.ReadFault.TheVariants.{Fault, Memory}
use Rattle.qasm_expand.specs.Circuits.{TableOf, CircuitOf, ReadsText}
use Rattle.qasm_expand.specs.Reading.{table_in, CircuitTold}
use Rattle.ps_versions.specs.Held as held
use Rattle.ps_versions.specs.Held.{Held}
use Rattle.ps_versions.specs.Lookup as lookup
use Rattle.ps_versions.specs.Told.{about}
use Rattle.ps_versions.specs.declared.data.About.{About}
use Rattle.ps_versions.specs.Opened.{Opens, fresh_version}
use Rattle.ps_versions.specs.Questions as questions
use Rattle.ps_journal.specs.declared.seats.Pin.{Pin}
use Rattle.ps_journal.specs.declared.seats.Claim.{Claim}
use Rattle.ps_journal.specs.declared.replies.Reply.{Reply}
use Rattle.ps_journal.specs.declared.replies.Reply.TheVariants as reply
use Rattle.ps_journal.specs.State.{State}
use Rattle.ps_journal.specs.Segments.{missing}
use Rattle.ps_journal.specs.Opening as journal
use Rattle.ps_journal.specs.Opening.{name_taken, circuits_full, bad, opens, first_version, opened}
use Rattle.ps_views.specs.Older.{IsForest}
use Rattle.ps_views.specs.Views.{items_in, tables_in, version_of, circuits_of}
use Rattle.ps_views.specs.Fields.{Fields, fields, IsSound, held_at}
use Rattle.ps_views.specs.Stands.{Stands, Leaves}
use Rattle.ps_views.specs.declared.filed.Filed.{Filed}
use Rattle.ps_views.proofs.Lists.{map_append}
use Rattle.ps_views.proofs.Lookups.{circuit_held, circuit_seen, no_circuit, mapped_length}
use Rattle.ps_views.proofs.Replies.{circuit_told}
use Rattle.ps_views.proofs.Plantings.{forest_planted}
use Rattle.ps_views.proofs.Missing.{missing_told}
use Rattle.ps_views.proofs.Openings.{with_opened, sound_opened, stands_opened, version_new}
use Rattle.ps_book.specs.Wanting.{OpensOr}
use Rattle.ps_book.specs.Additions.{TellsBad, TellsFault, AddsCircuit, OpensRead}

-- ---- how many circuits there are
length-circuits_of : (items : List _) (nodes : List (Tree ℕ)) (ts : List TableOf) (cs : List held.Circuit) → length ts ≡ length cs → length (circuits_of items nodes ts cs) ≡ length cs
length-circuits_of items nodes [] [] e = refl
length-circuits_of items nodes [] (c ∷ cs) e = absurd (omega arith)
length-circuits_of items nodes (t ∷ ts) [] e = absurd (omega arith)
length-circuits_of items nodes (t ∷ ts) (c ∷ cs) e = omega (arith, length-circuits_of items nodes ts cs (omega arith))

pub as_many : (f : Fields) (t : State) → IsSound f → Stands f t → length t.circuits ≡ length f.versions.circuits
as_many f t sound so = ap length so.circuits ∙ length-circuits_of f.items f.versions.nodes f.tables f.versions.circuits sound.tabled

-- ---- refusals
module _ (f : Fields) (t : State) (sound : IsSound f) (so : Stands f t) (i : ℕ) (name text : List ℕ) where
  -- LAW: the name is taken
  pub is_taken : (a : About) → Some a ≡ about (lookup.circuit_at f.versions.circuits name) → OpensOr t i name text (reply.NameTaken a.opened) t
  is_taken a e =
      let c = circuit_told (lookup.circuit_at f.versions.circuits name) a e in
      let at = circuit_held f t so sound.tabled name c.0 c.1 in
      inl (subst (λ n. journal.Opens t i name text (reply.NameTaken n) t) (sym c.4) (name_taken (circuit_seen f t so sound.tabled name at.0 at.1 c.0 at.2)))

  module _ (free : lookup.circuit_at f.versions.circuits name ≡ None) where
    -- LAW: there are 256 circuits
    pub is_full : 256 ≤ length f.versions.circuits → OpensOr t i name text reply.CircuitsFull t
    is_full many = inl (circuits_full (no_circuit f t so sound.tabled name free) (omega (arith, many, as_many f t sound so)))

    module _ (few : length f.versions.circuits < 256) where
      fewer : length t.circuits < 256
      fewer = omega (arith, few, as_many f t sound so)

      -- LAW: the text has a fault
      pub is_bad : (n : FaultName) (at : ℕ) (r : Reply) → ReadsText text (Err (Fault n at)) → TellsBad text n at r → OpensOr t i name text r t
      is_bad n at r reads told = inl (subst (λ x. journal.Opens t i name text x t) (sym told.reply) (bad (no_circuit f t so sound.tabled name free) fewer reads told.place))

      -- LAW: the text has a fault, or memory was wanting
      pub is_faulty : (fault : ReadFault) (r : Reply) → CircuitTold (Err fault) (ReadsText text) → TellsFault text fault r → OpensOr t i name text r t
      is_faulty (Fault n at) r reads told = is_bad n at r reads told
      is_faulty Memory r reads told = inr (record { reply = told; state = refl })

      -- LAW: the text was read
      pub is_read : (c : CircuitOf) (r : Reply) (new : State) → ReadsText text (Ok c) → OpensRead t i name c r new → OpensOr t i name text r new
      is_read c r new reads (inl o) =
          inl (subst (λ x. journal.Opens t i name text x new) (sym o.reply) (subst (λ s. journal.Opens t i name text (reply.Opened (missing t.published (first_version t.names c).tree)) s) (sym o.state)
          (opens (no_circuit f t so sound.tabled name free) fewer reads)))
      is_read c r new reads (inr s) = inr s

-- ---- the fields with one circuit more
pub fields_opened : (versions new : Held Filed) (ts : List (Arc Table Global)) (is more : List (Arc AnItem Global)) (table : Arc Table Global) (pins : List (Option Pin)) (claims : List (Option Claim)) (terms : ℕ)
    → fields new (ts ++ table ∷ []) (is ++ more) pins claims terms
    ≡ record (fields versions ts is pins claims terms) { versions = new; tables = tables_in ts ++ table_in table.value ∷ []; items = items_in is ++ items_in more }
fields_opened versions new ts is more table pins claims terms =
    ap₂ (λ xs ys. record { versions = new; tables = xs; items = ys; pins = pins; claims = claims; terms = terms }) (map_append _ ts (table ∷ [])) (map_append _ is more)

pub numbers_of : (is more : List (Arc AnItem Global)) (n m : ℕ) → n ≡ length is → m ≡ length more → range_with_len n m ≡ range_with_len (length (items_in is)) (length (items_in more))
numbers_of is more n m e h = ap₂ range_with_len (e ∙ sym (mapped_length _ is)) (h ∙ sym (mapped_length _ more))

module _ (versions new : Held Filed) (ts : List (Arc Table Global)) (is : List (Arc AnItem Global)) (pins : List (Option Pin)) (claims : List (Option Claim)) (terms : ℕ) where
  -- LAW: a circuit was added
  pub adds_opened : (later : List (Arc Table Global)) (grown more : List (Arc AnItem Global)) (table : Arc Table Global) (name numbers : List ℕ) (c : CircuitOf) (entry : ℕ)
      → IsSound (fields versions ts is pins claims terms) → later ≡ ts ++ table ∷ [] → grown ≡ is ++ more → items_in more ≡ c.items → table_in table.value ≡ c.table
      → numbers ≡ range_with_len (length is) (length more) → Opens versions new name c.qubits numbers entry
      → ((r : ℕ) → lookup.root_of (held_at new (record { name = name; version = 1 })) ≡ Some r → IsForest new.nodes)
      → AddsCircuit (fields versions ts is pins claims terms) name c entry (fields new later grown pins claims terms)
  adds_opened later grown more table name numbers c entry sound t g items gates n o looked =
      let told : numbers ≡ range_with_len (length (items_in is)) (length c.items) = n ∙ numbers_of is more (length is) (length more) refl refl ∙ ap (λ xs. range_with_len (length (items_in is)) (length xs)) items in
      let opens : Opens versions new name c.qubits (range_with_len (length (items_in is)) (length c.items)) entry = subst (λ ks. Opens versions new name c.qubits ks entry) told o in
      record {
        opens = opens;
        forest = forest_planted versions.nodes new.nodes (build (range_with_len (length (items_in is)) (length c.items))) opens.root opens.planted sound.grown (λ r e. looked r (ap lookup.root_of opens.version ∙ e));
        fields = ap₂ (λ xs ys. fields new xs ys pins claims terms) t g ∙ fields_opened versions new ts is more table pins claims terms
            ∙ ap₂ (λ x xs. record { versions = new; tables = tables_in ts ++ x ∷ []; items = items_in is ++ xs; pins = pins; claims = claims; terms = terms }) gates items;
      }

module _ (f : Fields) (sound : IsSound f) (name : List ℕ) (c : CircuitOf) (entry : ℕ) (free : lookup.circuit_at f.versions.circuits name ≡ None) (width : (1 ≤ c.qubits) × (c.qubits ≤ 64)) where
  -- LAW: they are sound
  pub sound_added : (g : Fields) → AddsCircuit f name c entry g → IsSound g
  sound_added g a = subst IsSound (sym a.fields) (sound_opened f g.versions name c entry sound free width a.opens a.forest)

  -- LAW: they stand for the state with that circuit
  pub opened_leaves : (t : State) (g : Fields) (m : ℕ) → Stands f t → AddsCircuit f name c entry g
      → Some m ≡ questions.missing g.versions (held_at g.versions (record { name = name; version = 1 })) → Leaves (λ new. OpensRead t entry name c (reply.Opened m) new) g
  opened_leaves t g m so a told =
      let new = g.versions in
      let h = with_opened f new name c entry in
      let stands : Stands h (opened entry name c t) = stands_opened f new name c entry sound free width a.opens a.forest t so in
      let number : m ≡ missing t.published (version_of h.items new.nodes (fresh_version a.opens.root)).tree =
      missing_told h (opened entry name c t) (sound_opened f new name c entry sound free width a.opens a.forest) stands (record { name = name; version = 1 }) (fresh_version a.opens.root) m a.opens.version refl told in
      let same : m ≡ missing t.published (first_version t.names c).tree = number ∙ ap (λ v. missing t.published v.tree) (sym (version_new f new name c entry sound free width a.opens a.forest t so)) in
      subst (λ x. Leaves (λ s. OpensRead t entry name c (reply.Opened m) s) x) (sym a.fields)
      (record { state = opened entry name c t; does_so = inl (record { reply = ap reply.Opened same; state = refl }); stands = stands })

-- LAW: where memory was wanting, the fields are what they were
pub starved_leaves : (f g : Fields) (t : State) (X : State → Type 0) → g ≡ f → Stands f t → X t → Leaves X g
starved_leaves f g t X e so x = subst (λ h. Leaves X h) (sym e) (record { state = t; does_so = x; stands = so })
