-- Splicing a version: the fields stay sound, and stand for the state that it leaves.
use Rattle.std.proofs.Common.{◌≡◌, ℕ, zero, suc, ◌+◌, ◌-◌, ◌<◌, ◌≤◌, ◌⊎◌, inl, inr, List, [], ◌∷◌, ◌++◌, length, take, drop, Bool, true, ◌||◌, nat_lt, refl, sym, ap, ap₂, ◌∙◌, subst, arith, length-append}
use Rattle.std.specs.Prelude.{Option, Some, None, map, is_none, slice_get}
use Rattle.seg_tree.specs.Trees.{Tree, splice, run_maybe}
use Rattle.seg_tree.specs.Measures.{uses_maybe}
use Rattle.seg_tree.specs.Table.{root_tree}
use Rattle.seg_tree.proofs.Uses.{uses-splice}
use Rattle.qasm_expand.specs.Circuits.{TableOf}
use Rattle.ps_versions.specs.Held as held
use Rattle.ps_versions.specs.Held.{Held}
use Rattle.ps_versions.specs.Lookup.{place_of, version_in, root_of, change_at}
use Rattle.ps_versions.specs.Lives.{is_kept}
use Rattle.ps_versions.specs.Opened.{fresh_version}
use Rattle.ps_versions.specs.Reached.{stands, is_reached}
use Rattle.ps_versions.specs.Spliced.{latest_root, latest_tree, with_more, SplicesAt}
use Rattle.ps_journal.specs.Mapped.{mapped_maybe}
use Rattle.ps_journal.specs.State.{Item, Version, Circuit, State, with_circuit, with_next}
use Rattle.ps_journal.specs.Segments.{with_names, new_names}
use Rattle.ps_journal.specs.Splicing.{replaced, next_version, committed}
use Rattle.ps_journal.proofs.Mapping.{splice-mapped, run-mapped_maybe}
use Rattle.ps_views.specs.Views.{item_at, tree_of, version_of, circuit_of, circuits_of}
use Rattle.ps_views.specs.Older.{IsForest}
use Rattle.ps_views.specs.Finds.{IsAt}
use Rattle.ps_views.specs.Fields.{Fields, IsSound, are_below}
use Rattle.ps_views.specs.Stands.{Stands}
use Rattle.ps_views.specs.declared.filed.Filed.{Filed}
use Rattle.ps_views.proofs.Lists.{map_append}
use Rattle.ps_views.proofs.Lookups.{with_circuit_seen}
use Rattle.ps_views.proofs.Alike.{length-change}
use Rattle.ps_views.proofs.Growth.{Stood, Adds, Grown, reached_in, segment_near, items_below, mapped_same, below_more, below_append, sound_grown, published_grown, circuits_same}
use Rattle.ps_views.proofs.Additions.{adds_version}
use Rattle.ps_views.proofs.Plantings.{grown_planted, planted_tree, planted_names, uses_stands_maybe, map_new, range_below, take_below, drop_below}
use Rattle.ps_views.proofs.Openings.{next_numbers}

module _ {A B : Type 0} (h : A → B) where
  map_take : (n : ℕ) (xs : List A) → map h (take n xs) ≡ take n (map h xs)
  map_take zero [] = refl
  map_take (suc n) [] = refl
  map_take zero (x ∷ xs) = refl
  map_take (suc n) (x ∷ xs) = ap (λ zs. h x ∷ zs) (map_take n xs)

  map_drop : (n : ℕ) (xs : List A) → map h (drop n xs) ≡ drop n (map h xs)
  map_drop zero [] = refl
  map_drop (suc n) [] = refl
  map_drop zero (x ∷ xs) = refl
  map_drop (suc n) (x ∷ xs) = map_drop n xs

-- the latest version stands among the circuits
pub stood_latest : (cs : List held.Circuit) (i n : ℕ) (c : held.Circuit) (v : held.Version) → slice_get cs i ≡ Some c → version_in (Some c) n ≡ Some v → Stood cs v
stood_latest cs i zero c v h e = cc
stood_latest cs i (suc k) c v h e = record { index = i; number = k; circuit = c; at = h; there = e }

module _ (f : Fields) (new : Held Filed) (name : List ℕ) (from to : ℕ) (more : List Item) (number : ℕ) where
  -- the fields with one version more
  abbrev pub with_spliced : Fields
  with_spliced = record f { versions = new; items = f.items ++ more }

  module _ (sound : IsSound f) (i : ℕ) (gates : TableOf) (c : held.Circuit) (at : IsAt f.tables f.versions.circuits name i gates c)
      (v : held.Version) (latest : version_in (Some c) (length c.versions) ≡ Some v) (live : v.retired ≡ None)
      (s : SplicesAt f.versions new (Some i) from to (next_numbers f.items more) number) (forest : IsForest new.nodes) where
    stood : Stood f.versions.circuits v
    stood = stood_latest f.versions.circuits i (length c.versions) c v at.circuit latest

    tree_before : latest_tree f.versions (Some i) ≡ root_tree f.versions.nodes v.root
    tree_before = ap (root_tree f.versions.nodes) (ap latest_root at.circuit ∙ ap root_of latest)

    added : Adds f.versions.circuits new.circuits (fresh_version s.root)
    added = subst (λ cs. Adds f.versions.circuits cs (fresh_version s.root)) (sym s.circuits) (adds_version f.versions.circuits i (fresh_version s.root) sound.named sound.wide)

    kept_latest : is_kept v ≡ true
    kept_latest = ap (λ o. is_none o || nat_lt 0 v.pins) live

    old_stands : (k : ℕ) → 0 < uses_maybe k (splice (latest_tree f.versions (Some i)) from to (next_numbers f.items more)) → stands k (root_tree f.versions.nodes v.root) ≡ true
    old_stands k used =
        let before : 0 < uses_maybe k (latest_tree f.versions (Some i)) = omega (arith, used, uses-splice k (latest_tree f.versions (Some i)) from to (next_numbers f.items more)) in
        ap (stands k) (sym tree_before) ∙ uses_stands_maybe k (latest_tree f.versions (Some i)) before

    zero_or : (n : ℕ) → (n ≡ 0) ⊎ (0 < n)
    zero_or n = grind arith

    unused : (k : ℕ) → length f.versions.nodes ≤ k → uses_maybe k (splice (latest_tree f.versions (Some i)) from to (next_numbers f.items more)) ≡ 0
    unused k past = by (zero_or (uses_maybe k (splice (latest_tree f.versions (Some i)) from to (next_numbers f.items more))))
      where
        by : (uses_maybe k (splice (latest_tree f.versions (Some i)) from to (next_numbers f.items more)) ≡ 0) ⊎ (0 < uses_maybe k (splice (latest_tree f.versions (Some i)) from to (next_numbers f.items more)))
            → uses_maybe k (splice (latest_tree f.versions (Some i)) from to (next_numbers f.items more)) ≡ 0
        by (inl z) = z
        by (inr used) = absurd (omega (arith, past, segment_near f sound v k stood (old_stands k used)))

    numbers_below : length f.items + length more ≤ length (f.items ++ more)
    numbers_below = omega (arith, length-append f.items more)

    before_below : are_below (length (f.items ++ more)) (run_maybe (latest_tree f.versions (Some i))) ≡ true
    before_below = below_more (length f.items) (length (f.items ++ more)) (run_maybe (latest_tree f.versions (Some i))) (omega (arith, numbers_below))
        (ap (λ t. are_below (length f.items) (run_maybe t)) tree_before ∙ items_below f sound v stood)

    run_below : are_below (length (f.items ++ more)) (run_maybe (root_tree new.nodes s.root)) ≡ true
    run_below =
        let n = length (f.items ++ more) in
        let before = run_maybe (latest_tree f.versions (Some i)) in
        ap (are_below n) s.run
        ∙ below_append n (take from before ++ next_numbers f.items more) (drop to before)
        (below_append n (take from before) (next_numbers f.items more) (take_below n from before before_below) (range_below (length f.items) (length more) n numbers_below))
        (drop_below n to before before_below)

    planted : Grown f.versions new s.root (length (f.items ++ more))
    planted =
        grown_planted f.versions new (splice (latest_tree f.versions (Some i)) from to (next_numbers f.items more)) s.root (length (f.items ++ more)) s.planted forest s.kept run_below
        (λ k near used. reached_in f sound v k stood kept_latest (old_stands k used))
        unused

    tabled : length f.tables ≡ length new.circuits
    tabled = omega (arith, ap length s.circuits, length-change f.versions.circuits i (with_more (fresh_version s.root ∷ [])), sound.tabled)

    -- LAW: the fields stay sound
    pub sound_spliced : IsSound with_spliced
    sound_spliced = sound_grown f new f.tables more s.root sound added planted tabled

    items_new : map (item_at (f.items ++ more)) (next_numbers f.items more) ≡ more
    items_new = map_new [] f.items more (length f.items) refl

    before_is : mapped_maybe (item_at (f.items ++ more)) (latest_tree f.versions (Some i)) ≡ tree_of f.items f.versions.nodes v.root
    before_is = ap (mapped_maybe (item_at (f.items ++ more))) tree_before ∙ mapped_same f sound more v stood

    tree_is : mapped_maybe (item_at (f.items ++ more)) (splice (latest_tree f.versions (Some i)) from to (next_numbers f.items more)) ≡ splice (tree_of f.items f.versions.nodes v.root) from to more
    tree_is = splice-mapped (item_at (f.items ++ more)) (latest_tree f.versions (Some i)) from to (next_numbers f.items more) ∙ ap₂ (λ t is. splice t from to is) before_is items_new

    tree_new : tree_of (f.items ++ more) new.nodes s.root ≡ with_names (length f.versions.nodes) (splice (tree_of f.items f.versions.nodes v.root) from to more)
    tree_new = planted_tree (f.items ++ more) f.versions.nodes new.nodes (splice (latest_tree f.versions (Some i)) from to (next_numbers f.items more)) s.root s.planted
        ∙ ap (with_names (length f.versions.nodes)) tree_is

    run_before : map (item_at (f.items ++ more)) (run_maybe (latest_tree f.versions (Some i))) ≡ run_maybe (tree_of f.items f.versions.nodes v.root)
    run_before = sym (run-mapped_maybe (item_at (f.items ++ more)) (latest_tree f.versions (Some i))) ∙ ap run_maybe before_is

    run_new : run_maybe (tree_of (f.items ++ more) new.nodes s.root) ≡ replaced (run_maybe (tree_of f.items f.versions.nodes v.root)) from to more
    run_new =
        let h = item_at (f.items ++ more) in
        let before = run_maybe (latest_tree f.versions (Some i)) in
        let numbers = next_numbers f.items more in
        run-mapped_maybe h (root_tree new.nodes s.root) ∙ ap (map h) s.run
        ∙ map_append h (take from before ++ numbers) (drop to before)
        ∙ ap₂ (λ xs ys. xs ++ ys)
        (map_append h (take from before) numbers ∙ ap₂ (λ xs ys. xs ++ ys) (map_take h from before ∙ ap (take from) run_before) items_new)
        (map_drop h to before ∙ ap (drop to) run_before)

    -- the next version of the state
    pub version_next : (t : State) → Stands f t → next_version t.names (version_of f.items f.versions.nodes v) from to more ≡ version_of (f.items ++ more) new.nodes (fresh_version s.root)
    version_next t so = ap₂ (λ is tree. record { items = is; tree = tree; retired = None; ended = None }) (sym run_new)
        (ap (λ n. with_names n (splice (tree_of f.items f.versions.nodes v.root) from to more)) so.names ∙ sym tree_new)

    changed : (t : State) → Stands f t → (g : TableOf) → with_next (next_version t.names (version_of f.items f.versions.nodes v) from to more) (circuit_of (f.items ++ more) new.nodes g c)
        ≡ circuit_of (f.items ++ more) new.nodes g (with_more (fresh_version s.root ∷ []) c)
    changed t so g = ap (λ vs. record { name = c.name; opened = c.opened; qubits = c.qubits; table = g; versions = vs })
        (ap (λ w. map (version_of (f.items ++ more) new.nodes) c.versions ++ w ∷ []) (version_next t so)
        ∙ sym (map_append (version_of (f.items ++ more) new.nodes) c.versions (fresh_version s.root ∷ [])))

    circuits_new : (t : State) → Stands f t → (committed name (version_of f.items f.versions.nodes v) from to more t).circuits ≡ circuits_of (f.items ++ more) new.nodes f.tables new.circuits
    circuits_new t so =
        let next = with_next (next_version t.names (version_of f.items f.versions.nodes v) from to more) in
        let old : t.circuits ≡ circuits_of (f.items ++ more) new.nodes f.tables f.versions.circuits = so.circuits ∙ sym (circuits_same f new f.tables more s.root sound added planted) in
        ap (with_circuit next name) old
        ∙ with_circuit_seen (f.items ++ more) new.nodes next (with_more (fresh_version s.root ∷ [])) f.tables f.versions.circuits name i c sound.tabled at.place at.circuit (changed t so)
        ∙ ap (circuits_of (f.items ++ more) new.nodes f.tables) (sym s.circuits)

    names_new : (t : State) → Stands f t → t.names + new_names (splice (tree_of f.items f.versions.nodes v.root) from to more) ≡ length new.nodes
    names_new t so = omega (
      arith,
      so.names,
      ap new_names tree_is,
      planted_names (f.items ++ more) f.versions.nodes new.nodes (splice (latest_tree f.versions (Some i)) from to (next_numbers f.items more)) s.root s.planted,
    )

    -- LAW: they stand for the state with one version more
    pub stands_spliced : (t : State) → Stands f t → Stands with_spliced (committed name (version_of f.items f.versions.nodes v) from to more t)
    stands_spliced t so = record {
      circuits = circuits_new t so;
      published = published_grown f new f.tables more s.root sound added planted t so;
      unnamed = λ k h. so.unnamed k (omega (arith, s.planted.kept.longer, h));
      pins = so.pins;
      claims = so.claims;
      terms = so.terms;
      names = names_new t so;
    }
