-- Opening a circuit: the fields stay sound, and stand for the state that it leaves.
use Rattle.std.proofs.Common.{◌≡◌, ℕ, zero, suc, ◌+◌, ◌<◌, ◌≤◌, List, [], ◌∷◌, ◌++◌, length, refl, sym, ap, ap₂, ◌∙◌, subst, arith, length-append}
use Rattle.std.specs.Prelude.{Option, Some, None, map}
use Rattle.std.specs.List.{range_with_len}
use Rattle.seg_tree.specs.Trees.{Tree, build, run_maybe}
use Rattle.seg_tree.specs.Measures.{uses_maybe}
use Rattle.seg_tree.specs.Table.{root_tree}
use Rattle.seg_tree.proofs.Uses.{uses-build}
use Rattle.qasm_expand.specs.Circuits.{TableOf, CircuitOf}
use Rattle.ps_versions.specs.Held as held
use Rattle.ps_versions.specs.Held.{Held}
use Rattle.ps_versions.specs.Lookup.{circuit_at}
use Rattle.ps_versions.specs.Opened.{Opens, fresh_version}
use Rattle.ps_journal.specs.Mapped.{mapped_maybe}
use Rattle.ps_journal.specs.State.{Item, Version, Circuit, State}
use Rattle.ps_journal.specs.Segments.{with_names, new_names}
use Rattle.ps_journal.specs.Opening.{first_version, new_circuit, opened}
use Rattle.ps_journal.proofs.Mapping.{build-mapped, run-mapped_maybe}
use Rattle.ps_views.specs.Views.{item_at, tree_of, version_of, circuit_of, circuits_of}
use Rattle.ps_views.specs.Older.{IsForest}
use Rattle.ps_views.specs.Fields.{Fields, IsSound, are_below}
use Rattle.ps_views.specs.Stands.{Stands}
use Rattle.ps_views.specs.declared.filed.Filed.{Filed}
use Rattle.ps_views.proofs.Growth.{Adds, Grown, sound_grown, published_grown, circuits_same}
use Rattle.ps_views.proofs.Additions.{adds_circuit}
use Rattle.ps_views.proofs.Plantings.{grown_planted, planted_tree, planted_names, map_new, range_below}

circuits-more : (items : List Item) (nodes : List (Tree ℕ)) (ts : List TableOf) (cs : List held.Circuit) (t : TableOf) (c : held.Circuit) → length ts ≡ length cs
    → circuits_of items nodes (ts ++ t ∷ []) (cs ++ c ∷ []) ≡ circuits_of items nodes ts cs ++ circuit_of items nodes t c ∷ []
circuits-more items nodes [] [] t c e = refl
circuits-more items nodes [] (d ∷ cs) t c e = absurd (omega arith)
circuits-more items nodes (u ∷ ts) [] t c e = absurd (omega arith)
circuits-more items nodes (u ∷ ts) (d ∷ cs) t c e = ap (λ xs. circuit_of items nodes u d ∷ xs) (circuits-more items nodes ts cs t c (omega arith))

-- the numbers of so many items behind those that are there
abbrev pub next_numbers : List Item → List Item → List ℕ
next_numbers items more = range_with_len (length items) (length more)

module _ (f : Fields) (new : Held Filed) (name : List ℕ) (c : CircuitOf) (entry : ℕ) where
  -- the fields with one circuit more
  abbrev pub with_opened : Fields
  with_opened = record f { versions = new; tables = f.tables ++ c.table ∷ []; items = f.items ++ c.items }

  module _ (sound : IsSound f) (free : circuit_at f.versions.circuits name ≡ None) (width : (1 ≤ c.qubits) × (c.qubits ≤ 64))
      (o : Opens f.versions new name c.qubits (next_numbers f.items c.items) entry) (forest : IsForest new.nodes) where
    added : Adds f.versions.circuits new.circuits (fresh_version o.root)
    added = subst (λ cs. Adds f.versions.circuits cs (fresh_version o.root)) (sym o.circuits)
        (adds_circuit f.versions.circuits (record { name = name; qubits = c.qubits; opened = entry; versions = fresh_version o.root ∷ [] }) (fresh_version o.root) refl free sound.named sound.wide width)

    numbers_below : length f.items + length c.items ≤ length (f.items ++ c.items)
    numbers_below = omega (arith, length-append f.items c.items)

    planted : Grown f.versions new o.root (length (f.items ++ c.items))
    planted =
        let numbers = next_numbers f.items c.items in
        grown_planted f.versions new (build numbers) o.root (length (f.items ++ c.items)) o.planted forest o.kept
        (ap (are_below (length (f.items ++ c.items))) o.run ∙ range_below (length f.items) (length c.items) (length (f.items ++ c.items)) numbers_below)
        (λ k near used. absurd (omega (arith, used, uses-build k numbers)))
        (λ k from. uses-build k numbers)

    -- LAW: the fields stay sound
    pub sound_opened : IsSound with_opened
    sound_opened = sound_grown f new (f.tables ++ c.table ∷ []) c.items o.root sound added planted
        (omega (arith, length-append f.tables (c.table ∷ []), ap length o.circuits, length-append f.versions.circuits (record { name = name; qubits = c.qubits; opened = entry; versions = fresh_version o.root ∷ [] } ∷ []), sound.tabled))

    items_new : map (item_at (f.items ++ c.items)) (next_numbers f.items c.items) ≡ c.items
    items_new = map_new [] f.items c.items (length f.items) refl

    tree_is : mapped_maybe (item_at (f.items ++ c.items)) (build (next_numbers f.items c.items)) ≡ build c.items
    tree_is = build-mapped (item_at (f.items ++ c.items)) (next_numbers f.items c.items) ∙ ap build items_new

    tree_new : tree_of (f.items ++ c.items) new.nodes o.root ≡ with_names (length f.versions.nodes) (build c.items)
    tree_new = planted_tree (f.items ++ c.items) f.versions.nodes new.nodes (build (next_numbers f.items c.items)) o.root o.planted ∙ ap (with_names (length f.versions.nodes)) tree_is

    run_new : run_maybe (tree_of (f.items ++ c.items) new.nodes o.root) ≡ c.items
    run_new = run-mapped_maybe (item_at (f.items ++ c.items)) (root_tree new.nodes o.root) ∙ ap (map (item_at (f.items ++ c.items))) o.run ∙ items_new

    -- the first version of the state
    pub version_new : (t : State) → Stands f t → first_version t.names c ≡ version_of (f.items ++ c.items) new.nodes (fresh_version o.root)
    version_new t so = ap₂ (λ is tree. record { items = is; tree = tree; retired = None; ended = None }) (sym run_new) (ap (λ n. with_names n (build c.items)) so.names ∙ sym tree_new)

    circuits_new : (t : State) → Stands f t → (opened entry name c t).circuits ≡ circuits_of (f.items ++ c.items) new.nodes (f.tables ++ c.table ∷ []) new.circuits
    circuits_new t so =
        let d : held.Circuit = record { name = name; qubits = c.qubits; opened = entry; versions = fresh_version o.root ∷ [] } in
        let old : t.circuits ≡ circuits_of (f.items ++ c.items) new.nodes f.tables f.versions.circuits = so.circuits ∙ sym (circuits_same f new f.tables c.items o.root sound added planted) in
        let one : new_circuit t.names entry name c ≡ circuit_of (f.items ++ c.items) new.nodes c.table d =
        ap (λ v. record { name = name; opened = entry; qubits = c.qubits; table = c.table; versions = v ∷ [] }) (version_new t so) in
        ap₂ (λ cs x. cs ++ x ∷ []) old one
        ∙ sym (circuits-more (f.items ++ c.items) new.nodes f.tables f.versions.circuits c.table d sound.tabled)
        ∙ ap (circuits_of (f.items ++ c.items) new.nodes (f.tables ++ c.table ∷ [])) (sym o.circuits)

    names_new : (t : State) → Stands f t → t.names + new_names (build c.items) ≡ length new.nodes
    names_new t so = omega (arith, so.names, ap new_names tree_is, planted_names (f.items ++ c.items) f.versions.nodes new.nodes (build (next_numbers f.items c.items)) o.root o.planted)

    -- LAW: they stand for the state with one circuit more
    pub stands_opened : (t : State) → Stands f t → Stands with_opened (opened entry name c t)
    stands_opened t so = record {
      circuits = circuits_new t so;
      published = published_grown f new f.tables c.items o.root sound added planted t so;
      unnamed = λ k h. so.unnamed k (omega (arith, o.planted.kept.longer, h));
      pins = so.pins;
      claims = so.claims;
      terms = so.terms;
      names = names_new t so;
    }
