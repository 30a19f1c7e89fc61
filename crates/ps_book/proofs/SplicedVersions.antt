-- What is answered when a circuit gets its next version, and the fields with that version.
use Rattle.std.proofs.Common.{◌≡◌, ◌<◌, ◌≤◌, ◌⊎◌, inl, inr, ℕ, zero, suc, ◌+◌, ◌-◌, List, [], ◌∷◌, ◌++◌, length, take, drop, refl, sym, ap, ◌∙◌, subst, arith, length-append}
use Rattle.std.proofs.lemmas.List.{length-take-le, length-drop}
use Rattle.std.specs.Prelude.{Option, Some, None, IsSome, Ok, Err, slice_get}
use Rattle.std.specs.List.{range_with_len}
use Rattle.std.specs.declared.sync.Arc.{Arc}
use Rattle.std.specs.declared.alloc.Global.{Global}
use Rattle.seg_tree.specs.Trees.{run_maybe, splice}
use Rattle.seg_tree.specs.Table.{root_tree}
use Rattle.ps_prim.specs.declared.items.Item.{Item as AnItem}
use Rattle.qasm_expand.specs.declared.tables.Table.{Table}
use Rattle.qasm_expand.specs.declared.fault.FaultName.{FaultName}
use Rattle.qasm_expand.specs.declared.fault.ReadFault.{ReadFault}
use Rattle.qasm_expand.specs.declared.fault.ReadFault.TheVariants.{Fault, Memory}
use Rattle.qasm_expand.specs.Circuits.{TableOf, ReadsBlock}
use Rattle.qasm_expand.specs.Reading.{table_in, ItemsTold}
use Rattle.ps_versions.specs.Held as held
use Rattle.ps_versions.specs.Held.{Held}
use Rattle.ps_versions.specs.Lives.{IsLive}
use Rattle.ps_versions.specs.Lookup as lookup
use Rattle.ps_versions.specs.Lookup.{place_of, version_in, root_of}
use Rattle.ps_versions.specs.Told.{about}
use Rattle.ps_versions.specs.declared.data.About.{About}
use Rattle.ps_versions.specs.Opened.{fresh_version}
use Rattle.ps_versions.specs.Spliced as tables
use Rattle.ps_versions.specs.Spliced.{latest_of as latest_number, latest_root, latest_tree, SplicesAt}
use Rattle.ps_versions.specs.Questions as questions
use Rattle.ps_journal.specs.declared.seats.Pin.{Pin}
use Rattle.ps_journal.specs.declared.seats.Claim.{Claim}
use Rattle.ps_journal.specs.declared.replies.Reply.{Reply}
use Rattle.ps_journal.specs.declared.replies.Reply.TheVariants as reply
use Rattle.ps_journal.specs.State.{Item, Version, Circuit, State, circuit_at, latest_of, version_at}
use Rattle.ps_journal.specs.Segments.{missing}
use Rattle.ps_journal.specs.Splicing as splicing
use Rattle.ps_journal.specs.Splicing.{Splices, Replaces, replaced, next_version, committed}
use Rattle.ps_journal.proofs.Mapping.{run-mapped_maybe}
use Rattle.ps_views.specs.Older.{IsForest}
use Rattle.ps_views.specs.Views.{item_at, items_in, tables_in, version_of, circuit_of}
use Rattle.ps_views.specs.Fields.{Fields, fields, IsSound, held_at}
use Rattle.ps_views.specs.Finds.{IsAt}
use Rattle.ps_views.specs.Stands.{Stands, Leaves}
use Rattle.ps_views.specs.declared.filed.Filed.{Filed}
use Rattle.ps_views.proofs.Alike.{get_there, get_within}
use Rattle.ps_views.proofs.Lists.{map_append}
use Rattle.ps_views.proofs.Lookups.{circuit_held, circuit_seen, no_circuit, latest_seen, version_some, mapped_length}
use Rattle.ps_views.proofs.Replies.{circuit_told, no_circuit_told}
use Rattle.ps_views.proofs.Plantings.{forest_planted}
use Rattle.ps_views.proofs.Missing.{missing_told}
use Rattle.ps_views.proofs.Splicings.{with_spliced, sound_spliced, stands_spliced, version_next}
use Rattle.ps_book.specs.Wanting.{SplicesOr}
use Rattle.ps_book.proofs.OpenedCircuits.{numbers_of}
use Rattle.ps_book.specs.Additions.{TellsBad, TellsFault, HasRange, AddsVersion, ReadsAs}

-- ---- where the latest version is
live_there : (o : Option held.Version) → IsLive o → (v : held.Version) × (o ≡ Some v) × (v.retired ≡ None)
live_there None l = absurd l
live_there (Some v) l = (v, refl, l)

-- a splice at a place among the circuits is one at the index that the place is
at_index : (old new : Held Filed) (o p : Option ℕ) (from to : ℕ) (items : List ℕ) (number : ℕ) → o ≡ p → (a : SplicesAt old new o from to items number) → (b : SplicesAt old new p from to items number) × (b.root ≡ a.root)
at_index old new o p from to items number e a = subst (λ q. (b : SplicesAt old new q from to items number) × (b.root ≡ a.root)) e (a, refl)

-- where a circuit stands, and its gates
pub circuit_placed : (f : Fields) → IsSound f → (name : List ℕ) (c : held.Circuit) → lookup.circuit_at f.versions.circuits name ≡ Some c → (i : ℕ) × (g : TableOf) × IsAt f.tables f.versions.circuits name i g c
circuit_placed f sound name c e = by (place_of f.versions.circuits name) refl e
  where
    by : (o : Option ℕ) → place_of f.versions.circuits name ≡ o → lookup.circuit_in f.versions.circuits o ≡ Some c → (i : ℕ) × (g : TableOf) × IsAt f.tables f.versions.circuits name i g c
    by None p e = cc
    by (Some i) p e =
        let g = get_there f.tables i (omega (arith, sound.tabled, get_within f.versions.circuits i c e)) in
        (i, g.0, record { place = p; circuit = e; gates = g.1 })

-- the same, where the index is known
pub placed_at : (f : Fields) (ts : List (Arc Table Global)) (name : List ℕ) (c : held.Circuit) (i : ℕ) (table : Arc Table Global) → lookup.circuit_at f.versions.circuits name ≡ Some c
    → Some i ≡ place_of f.versions.circuits name → f.tables ≡ tables_in ts → slice_get ts i ≡ Some table → IsAt f.tables f.versions.circuits name i (table_in table.value) c
placed_at f ts name c i table e p t g = record {
  place = sym p;
  circuit = ap (lookup.circuit_in f.versions.circuits) p ∙ e;
  gates = ap (λ xs. slice_get xs i) t ∙ gates_at ts i g;
} where
  gates_at : (xs : List (Arc Table Global)) (k : ℕ) → slice_get xs k ≡ Some table → slice_get (tables_in xs) k ≡ Some (table_in table.value)
  gates_at [] k e = cc
  gates_at (x ∷ xs) zero e = let same : x ≡ table = cc in ap (λ y. Some (table_in y.value)) same
  gates_at (x ∷ xs) (suc k) e = gates_at xs k e

-- LAW: the range is in the latest version
pub has_range : (f : Fields) (name : List ℕ) (from to len : ℕ) (a : About) → Some a ≡ about (lookup.circuit_at f.versions.circuits name)
    → IsLive (lookup.version_at f.versions.circuits name a.latest) → len ≡ length (run_maybe (root_tree f.versions.nodes (root_of (lookup.version_at f.versions.circuits name a.latest))))
    → from ≤ to → to ≤ len → len ≤ 65536 → a.latest < 4294967295 → HasRange f name from to len
has_range f name from to len a e live count ordered inside short few =
    let c = circuit_told (lookup.circuit_at f.versions.circuits name) a e in
    let v = live_there (lookup.version_at f.versions.circuits name a.latest) live in
    record {
      circuit = c.0;
      circuit_is = c.1;
      version = v.0;
      version_is = ap (λ n. version_in (Some c.0) n) (sym c.2) ∙ ap (λ o. version_in o a.latest) (sym c.1) ∙ v.1;
      live = v.2;
      count = count ∙ ap (λ o. length (run_maybe (root_tree f.versions.nodes (root_of o)))) v.1;
      ordered = ordered;
      inside = inside;
      short = short;
      few = omega (arith, c.2, few);
    }

module _ (f : Fields) (name : List ℕ) (from to len : ℕ) (h : HasRange f name from to len) where
  -- ---- what a splice of the tables asks
  pub circuit_there : IsSome (lookup.circuit_at f.versions.circuits name)
  circuit_there = subst IsSome (sym h.circuit_is) refl

  pub number_few : latest_number (lookup.circuit_at f.versions.circuits name) < 4294967295
  number_few = omega (arith, ap latest_number h.circuit_is, h.few)

  pub length_before : length (run_maybe (latest_tree f.versions (place_of f.versions.circuits name))) ≡ len
  length_before = ap (λ o. length (run_maybe (root_tree f.versions.nodes (latest_root o)))) h.circuit_is ∙ ap (λ o. length (run_maybe (root_tree f.versions.nodes (root_of o)))) h.version_is ∙ sym h.count

  -- ---- in the state
  module _ (t : State) (sound : IsSound f) (so : Stands f t) where
    -- the circuit and its latest version, as they are seen
    pub record IsSeen (c : Circuit) (v : Version) : Type 0 where
      pub index : ℕ
      pub gates : TableOf
      pub at : IsAt f.tables f.versions.circuits name index gates h.circuit
      pub circuit : c ≡ circuit_of f.items f.versions.nodes gates h.circuit
      pub version : v ≡ version_of f.items f.versions.nodes h.version

    -- a version of the tables has so many items
    pub count_seen : length (version_of f.items f.versions.nodes h.version).items ≡ len
    count_seen = ap length (run-mapped_maybe (item_at f.items) (root_tree f.versions.nodes h.version.root)) ∙ mapped_length (item_at f.items) (run_maybe (root_tree f.versions.nodes h.version.root)) ∙ sym h.count

    some_one : {A : Type 0} (o : Option A) (x y : A) → o ≡ Some x → o ≡ Some y → x ≡ y
    some_one o x y e g = cc

    pub is_seen : (base : ℕ) (c : Circuit) (v : Version) → Replaces t name base from to c v → IsSeen c v
    is_seen base c v r =
        let at = circuit_held f t so sound.tabled name h.circuit h.circuit_is in
        let d = circuit_of f.items f.versions.nodes at.1 h.circuit in
        let same : c ≡ d = some_one (circuit_at t.circuits name) c d r.circuit (circuit_seen f t so sound.tabled name at.0 at.1 h.circuit at.2) in
        let latest : version_at d (latest_of d) ≡ Some (version_of f.items f.versions.nodes h.version) =
        ap (version_at d) (latest_seen f.items f.versions.nodes at.1 h.circuit) ∙ version_some f.items f.versions.nodes at.1 h.circuit (length h.circuit.versions) h.version h.version_is in
        let there : version_at d (latest_of d) ≡ Some v = ap (λ x. version_at x (latest_of x)) (sym same) ∙ r.latest in
        record { index = at.0; gates = at.1; at = at.2; circuit = same; version = some_one (version_at d (latest_of d)) v (version_of f.items f.versions.nodes h.version) there latest }

    -- LAW: the range is in the state's latest version
    pub replaces_seen : (i : ℕ) (gates : TableOf) → IsAt f.tables f.versions.circuits name i gates h.circuit
        → Replaces t name (length h.circuit.versions) from to (circuit_of f.items f.versions.nodes gates h.circuit) (version_of f.items f.versions.nodes h.version)
    replaces_seen i gates at = record {
      circuit = circuit_seen f t so sound.tabled name i gates h.circuit at;
      latest = ap (version_at (circuit_of f.items f.versions.nodes gates h.circuit)) (latest_seen f.items f.versions.nodes gates h.circuit) ∙ version_some f.items f.versions.nodes gates h.circuit (length h.circuit.versions) h.version h.version_is;
      current = sym (latest_seen f.items f.versions.nodes gates h.circuit);
      ordered = h.ordered;
      inside = omega (arith, h.inside, count_seen);
    }

    -- LAW: the block has a fault
    pub splice_bad : (block : List ℕ) (i : ℕ) (gates : TableOf) (n : FaultName) (at : ℕ) (r : Reply) → IsAt f.tables f.versions.circuits name i gates h.circuit → ReadsBlock gates block (Err (Fault n at))
        → TellsBad block n at r → SplicesOr t name (length h.circuit.versions) from to block r t
    splice_bad block i gates n at r is reads told = inl (subst (λ x. Splices t name (length h.circuit.versions) from to block x t) (sym told.reply) (splicing.bad (replaces_seen i gates is) reads told.place))

    -- LAW: the block has a fault, or memory was wanting
    pub splice_faulty : (block : List ℕ) (i : ℕ) (gates : TableOf) (fault : ReadFault) (r : Reply) → IsAt f.tables f.versions.circuits name i gates h.circuit → ItemsTold (Err fault) (ReadsBlock gates block)
        → TellsFault block fault r → SplicesOr t name (length h.circuit.versions) from to block r t
    splice_faulty block i gates (Fault n at) r is reads told = splice_bad block i gates n at r is reads told
    splice_faulty block i gates Memory r is reads told = inr (record { reply = told; state = refl })

    -- LAW: the block was read
    pub reads_as : (block : List ℕ) (items : List Item) (i : ℕ) (gates : TableOf) → IsAt f.tables f.versions.circuits name i gates h.circuit → ReadsBlock gates block (Ok items)
        → ReadsAs t name (length h.circuit.versions) from to block items
    reads_as block items i gates is reads = record {
      circuit = circuit_of f.items f.versions.nodes gates h.circuit;
      version = version_of f.items f.versions.nodes h.version;
      replaces = replaces_seen i gates is;
      reads = reads;
    }

    module _ (base : ℕ) (block : List ℕ) (more : List Item) (a : ReadsAs t name base from to block more) where
      seen : IsSeen a.circuit a.version
      seen = is_seen base a.circuit a.version a.replaces

      -- how many items the next version has
      pub count_replaced : length (replaced a.version.items from to more) ≡ len - (to - from) + length more
      count_replaced =
          let xs = a.version.items in
          let count : length xs ≡ len = ap (λ v. length v.items) seen.version ∙ count_seen in
          omega (
            arith,
            count,
            h.ordered,
            h.inside,
            length-append (take from xs ++ more) (drop to xs),
            length-append (take from xs) more,
            length-append (take from xs) (more ++ drop to xs),
            length-append more (drop to xs),
            length-take-le from xs (omega (arith, count, h.ordered, h.inside)),
            length-drop to xs,
          )

      -- LAW: it would be too long
      pub splice_long : (n : ℕ) → n ≡ len - (to - from) + length more → 65536 < n → SplicesOr t name base from to block (reply.TooLong n) t
      splice_long n e long =
          let same : length (replaced a.version.items from to more) ≡ n = count_replaced ∙ sym e in
          inl (subst (λ k. Splices t name base from to block (reply.TooLong k) t) same (splicing.too_long a.replaces a.reads (omega (arith, same, long))))

      -- LAW: nothing would change
      pub splice_nothing : len - (to - from) + length more ≤ 65536 → from ≡ to → more ≡ [] → SplicesOr t name base from to block reply.Nothing t
      splice_nothing few e none = inl (splicing.nothing a.replaces a.reads (omega (arith, count_replaced, few)) (e, none))

      -- LAW: the fields with the next version stand for the state that has it
      pub spliced_leaves : (g : Fields) (number m : ℕ) → AddsVersion f name from to more number g → len - (to - from) + length more ≤ 65536 → (from < to) ⊎ (0 < length more)
          → Some m ≡ questions.missing g.versions (held_at g.versions (record { name = name; version = number })) → Leaves (λ new. SplicesOr t name base from to block (reply.Committed number m) new) g
      spliced_leaves g number m s few some told =
          let new = g.versions in
          let is = with_spliced f new name from to more number in
          let v = version_of f.items f.versions.nodes h.version in
          let x = at_index f.versions new (place_of f.versions.circuits name) (Some seen.index) from to (range_with_len (length f.items) (length more)) number seen.at.place s.splices.at in
          let stands : Stands is (committed name v from to more t) = stands_spliced f new name from to more number sound seen.index seen.gates h.circuit seen.at h.version h.version_is h.live x.0 s.forest t so in
          let there : held_at new (record { name = name; version = number }) ≡ Some (fresh_version x.0.root) = s.splices.version ∙ ap (λ r. Some (fresh_version r)) (sym x.1) in
          let lacking : m ≡ missing t.published (version_of is.items new.nodes (fresh_version x.0.root)).tree =
          missing_told is (committed name v from to more t) (sound_spliced f new name from to more number sound seen.index seen.gates h.circuit seen.at h.version h.version_is h.live x.0 s.forest)
          stands (record { name = name; version = number }) (fresh_version x.0.root) m there refl told in
          let same : m ≡ missing t.published (next_version t.names a.version from to more).tree =
          lacking ∙ ap (λ w. missing t.published w.tree) (sym (version_next f new name from to more number sound seen.index seen.gates h.circuit seen.at h.version h.version_is h.live x.0 s.forest t so))
          ∙ ap (λ w. missing t.published (next_version t.names w from to more).tree) (sym seen.version) in
          let count : latest_of a.circuit ≡ length h.circuit.versions = ap latest_of seen.circuit ∙ latest_seen f.items f.versions.nodes seen.gates h.circuit in
          let next : number ≡ latest_of a.circuit + 1 = omega (arith, s.splices.at.numbered, ap latest_number h.circuit_is, count) in
          let step : Splices t name base from to block (reply.Committed (latest_of a.circuit + 1) (missing t.published (next_version t.names a.version from to more).tree)) (committed name a.version from to more t) =
          splicing.commits a.replaces a.reads (omega (arith, count_replaced, few)) some in
          subst (λ y. Leaves (λ w. SplicesOr t name base from to block (reply.Committed number m) w) y) (sym s.fields)
          (record {
            state = committed name a.version from to more t;
            does_so = inl (subst (λ k. Splices t name base from to block (reply.Committed k m) (committed name a.version from to more t)) (sym next)
                (subst (λ k. Splices t name base from to block (reply.Committed (latest_of a.circuit + 1) k) (committed name a.version from to more t)) (sym same) step));
            stands = subst (λ w. Stands is (committed name w from to more t)) (sym seen.version) stands;
          })

-- ---- the fields with one version more
-- LAW: they are sound
pub sound_next : (f : Fields) (name : List ℕ) (from to len number : ℕ) (more : List Item) (g : Fields) → IsSound f → HasRange f name from to len → AddsVersion f name from to more number g → IsSound g
sound_next f name from to len number more g sound h s =
    let at = circuit_placed f sound name h.circuit h.circuit_is in
    let x = at_index f.versions g.versions (place_of f.versions.circuits name) (Some at.0) from to (range_with_len (length f.items) (length more)) number at.2.place s.splices.at in
    subst IsSound (sym s.fields) (sound_spliced f g.versions name from to more number sound at.0 at.1 h.circuit at.2 h.version h.version_is h.live x.0 s.forest)

pub fields_spliced : (versions new : Held Filed) (ts : List (Arc Table Global)) (is more : List (Arc AnItem Global)) (pins : List (Option Pin)) (claims : List (Option Claim)) (terms : ℕ)
    → fields new ts (is ++ more) pins claims terms ≡ record (fields versions ts is pins claims terms) { versions = new; items = items_in is ++ items_in more }
fields_spliced versions new ts is more pins claims terms = ap (λ ys. record { versions = new; tables = tables_in ts; items = ys; pins = pins; claims = claims; terms = terms }) (map_append _ is more)

module _ (versions new : Held Filed) (ts : List (Arc Table Global)) (is : List (Arc AnItem Global)) (pins : List (Option Pin)) (claims : List (Option Claim)) (terms : ℕ) where
  -- LAW: a version was added
  pub adds_spliced : (grown more : List (Arc AnItem Global)) (name numbers : List ℕ) (from to number : ℕ)
      → IsSound (fields versions ts is pins claims terms) → grown ≡ is ++ more → numbers ≡ range_with_len (length is) (length more) → tables.Splices versions new name from to numbers number
      → ((r : ℕ) → root_of (held_at new (record { name = name; version = number })) ≡ Some r → IsForest new.nodes)
      → AddsVersion (fields versions ts is pins claims terms) name from to (items_in more) number (fields new ts grown pins claims terms)
  adds_spliced grown more name numbers from to number sound g n s looked =
      let ks = range_with_len (length (items_in is)) (length (items_in more)) in
      let told : numbers ≡ ks = n ∙ numbers_of is more (length is) (length more) refl refl in
      let splices : tables.Splices versions new name from to ks number = subst (λ xs. tables.Splices versions new name from to xs number) told s in
      record {
        splices = splices;
        forest = forest_planted versions.nodes new.nodes (splice (latest_tree versions (place_of versions.circuits name)) from to ks) splices.at.root splices.at.planted sound.grown (λ r e. looked r (ap root_of splices.version ∙ e));
        fields = ap (λ ys. fields new ts ys pins claims terms) g ∙ fields_spliced versions new ts is more pins claims terms;
      }

-- ---- refusals
module _ (f : Fields) (t : State) (sound : IsSound f) (so : Stands f t) (name : List ℕ) (base from to : ℕ) (block : List ℕ) where
  -- LAW: no circuit has the name
  pub splice_nowhere : None ≡ about (lookup.circuit_at f.versions.circuits name) → SplicesOr t name base from to block reply.NoCircuit t
  splice_nowhere e = inl (splicing.no_circuit (no_circuit f t so sound.tabled name (no_circuit_told (lookup.circuit_at f.versions.circuits name) e)))

  module _ (a : About) (told : Some a ≡ about (lookup.circuit_at f.versions.circuits name)) where
    -- LAW: the base is not the latest version
    pub splice_stale : (base ≡ a.latest → ⊥) → SplicesOr t name base from to block (reply.Stale a.latest) t
    splice_stale off =
        let c = circuit_told (lookup.circuit_at f.versions.circuits name) a told in
        let at = circuit_held f t so sound.tabled name c.0 c.1 in
        let latest : latest_of (circuit_of f.items f.versions.nodes at.1 c.0) ≡ a.latest = latest_seen f.items f.versions.nodes at.1 c.0 ∙ sym c.2 in
        inl (subst (λ n. Splices t name base from to block (reply.Stale n) t) latest (splicing.stale (circuit_seen f t so sound.tabled name at.0 at.1 c.0 at.2) (λ e. off (e ∙ latest))))

    -- LAW: there is no such range
    pub splice_outside : (len : ℕ) → base ≡ a.latest → IsLive (lookup.version_at f.versions.circuits name a.latest)
        → len ≡ length (run_maybe (root_tree f.versions.nodes (root_of (lookup.version_at f.versions.circuits name a.latest)))) → (to < from) ⊎ (len < to) → SplicesOr t name base from to block (reply.Span len) t
    splice_outside len same live count out =
        let c = circuit_told (lookup.circuit_at f.versions.circuits name) a told in
        let at = circuit_held f t so sound.tabled name c.0 c.1 in
        let d = circuit_of f.items f.versions.nodes at.1 c.0 in
        let v = live_there (lookup.version_at f.versions.circuits name a.latest) live in
        let w = version_of f.items f.versions.nodes v.0 in
        let latest : latest_of d ≡ a.latest = latest_seen f.items f.versions.nodes at.1 c.0 ∙ sym c.2 in
        let there : version_in (Some c.0) a.latest ≡ Some v.0 = ap (λ o. version_in o a.latest) (sym c.1) ∙ v.1 in
        let found : version_at d (latest_of d) ≡ Some w = ap (version_at d) latest ∙ version_some f.items f.versions.nodes at.1 c.0 a.latest v.0 there in
        let count : length w.items ≡ len = ap length (run-mapped_maybe (item_at f.items) (root_tree f.versions.nodes v.0.root)) ∙ mapped_length (item_at f.items) (run_maybe (root_tree f.versions.nodes v.0.root))
        ∙ ap (λ o. length (run_maybe (root_tree f.versions.nodes (root_of o)))) (sym v.1) ∙ sym count in
        inl (subst (λ n. Splices t name base from to block (reply.Span n) t) count
        (splicing.span (circuit_seen f t so sound.tabled name at.0 at.1 c.0 at.2) (same ∙ sym latest) found (subst (λ n. (to < from) ⊎ (n < to)) (sym count) out)))
