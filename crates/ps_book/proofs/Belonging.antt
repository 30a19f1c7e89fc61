-- Which records belong to which versions, as the tables tell it.
use Rattle.std.proofs.Common.{◌≡◌, ℕ, zero, suc, List, [], ◌∷◌, map, length, refl, sym, ap, ◌∙◌, subst, arith, Bool, true, false, ◌&&◌, ◌⊎◌, inl, inr}
use Rattle.std.proofs.lemmas.Bool.Decides.{nat_tests}
use Rattle.std.specs.Prelude.{Option, Some, None, IsTrue, ◌↔◌, ◌==◌, Contains}
use Rattle.std.specs.declared.sync.Arc.{Arc}
use Rattle.std.specs.declared.alloc.Global.{Global}
use Rattle.seg_tree.specs.Trees.{Tree, run, run_maybe}
use Rattle.seg_tree.specs.Table.{tree, root_tree}
use Rattle.ps_script.specs.declared.name.Place.{Place}
use Rattle.ps_versions.specs.Lookup.{root_of}
use Rattle.ps_versions.specs.Questions.{segments, segments_maybe}
use Rattle.ps_prim.specs.declared.items.Item.{Item as AnItem}
use Rattle.ps_reach.specs.Runs.{prims_of}
use Rattle.ps_reach.specs.declared.record.Record.{Record}
use Rattle.ps_reach.specs.declared.judged.Judged.{Judged}
use Rattle.ps_journal.specs.Mapped.{mapped}
use Rattle.ps_journal.proofs.Mapping.{run-mapped}
use Rattle.ps_journal.specs.declared.seats.Pin.{Pin}
use Rattle.ps_journal.specs.State.{Item, Version, Finds}
use Rattle.ps_journal.specs.Segments.{segments_of, is_passed}
use Rattle.ps_journal.specs.Judging.{Belongs}
use Rattle.ps_views.specs.Views.{item_at, run_at, tree_of, version_of}
use Rattle.ps_views.specs.Fields.{Fields, IsSound, held_at}
use Rattle.ps_views.specs.Pinned.{KeptAt}
use Rattle.ps_views.proofs.Knowledge.{segments_of_mapped}
use Rattle.ps_book.specs.Runs.{HasRun}
use Rattle.ps_book.specs.Conclusions.{TellsOne, TellsPair}
use Rattle.ps_book.proofs.Summed.{seen_at}

-- an element of a list whose elements were changed
pub record Changed {A B : Type 0} (f : A → B) (xs : List A) (y : B) : Type 0 where
  pub item : A
  pub within : Contains xs item
  pub same : f item ≡ y

map_contains : {A B : Type 0} (f : A → B) (xs : List A) (x : A) → Contains xs x → Contains (map f xs) (f x)
map_contains f [] x c = absurd (omega (arith, c.1))
map_contains f (y ∷ xs) x (zero, near, e) = (zero, omega arith, ap f e)
map_contains f (y ∷ xs) x (suc k, near, e) = let rest = map_contains f xs x (k, omega arith, e) in (suc rest.0, omega (arith, rest.1), rest.2)

contains_map : {A B : Type 0} (f : A → B) (xs : List A) (y : B) → Contains (map f xs) y → Changed f xs y
contains_map f [] y c = absurd (omega (arith, c.1))
contains_map f (x ∷ xs) y (zero, near, e) = record { item = x; within = (zero, omega arith, refl); same = e }
contains_map f (x ∷ xs) y (suc k, near, e) =
    let rest = contains_map f xs y (k, omega arith, e) in
    record { item = rest.item; within = (suc rest.within.0, omega (arith, rest.within.1), rest.within.2); same = rest.same }

-- whether a list is empty
pub empty_told : (L : List (Arc AnItem Global)) (xs : List Item) (b : Bool) → map prims_of L ≡ xs → b ≡ (length L == 0) → IsTrue b ↔ (xs ≡ [])
empty_told [] xs b e h = (λ _. sym e, λ _. h)
empty_told (x ∷ L) xs b e h = (λ k. absurd (some (length L) (sym h ∙ k)), λ k. absurd (more (sym k ∙ sym e)))
  where
    some : (n : ℕ) → (suc n == 0) ≡ true → ⊥
    some n q = grind (arith, nat_tests)

    more : [] ≡ prims_of x ∷ map prims_of L → ⊥
    more q = cc

off : (b : Bool) → b ≡ false → b ≡ true → ⊥
off true e h = cc
off false e h = cc

module _ (f : Fields) (sound : IsSound f) (p : Place) (k : KeptAt f p) (r : Record) where
  -- a record on another number of qubits
  pub other_width : (r.n ≡ k.circuit.qubits → ⊥) → TellsOne f p r false
  other_width differs t c v so found = (λ e. cc, λ b. absurd (differs (b.qubits ∙ (seen_at f sound p k t so c v found).0)))

  module _ (width : r.n ≡ k.circuit.qubits) where
    abbrev there : Version
    there = version_of f.items f.versions.nodes k.version

    -- of a version without items
    pub no_items : (b : Bool) → root_of (held_at f.versions p) ≡ None → IsTrue b ↔ (r.items.value ≡ []) → TellsOne f p r b
    no_items b none test t c v so found =
        let s = seen_at f sound p k t so c v found in
        let root : k.version.root ≡ None = sym (ap root_of k.version_is) ∙ none in
        let items : v.items ≡ [] = ap (λ (w : Version). w.items) s.1 ∙ ap (λ o. run_maybe (tree_of f.items f.versions.nodes o)) root in
        let tree_is : v.tree ≡ None = ap (λ (w : Version). w.tree) s.1 ∙ ap (tree_of f.items f.versions.nodes) root in (
          λ e. record { qubits = width ∙ sym s.0; items = inl (test.0 e ∙ sym items) },
          λ h. test.1 (by v.tree tree_is items h.items),
        )
      where
        by : (o : Option (Tree Item)) → o ≡ None → v.items ≡ [] → (r.items.value ≡ v.items) ⊎ ((is_passed
            r ≡ true) × ((s : Tree Item) × (Contains (segments_of o) s × (r.items.value ≡ run s)))) → r.items.value ≡ []
        by o e items (inl h) = h ∙ items
        by None e items (inr (q, (s, (within, h)))) = absurd (omega (arith, within.1))
        by (Some x) e items (inr h) = cc

    -- of a version with a root: of all items, or else of those of a segment, where a limit was passed
    module _ (root : ℕ) (at : root_of (held_at f.versions p) ≡ Some root) where
      root_is : k.version.root ≡ Some root
      root_is = sym (ap root_of k.version_is) ∙ at

      items_are : (version_of f.items f.versions.nodes k.version).items ≡ run_at f.items f.versions.nodes root
      items_are = ap (λ o. run_maybe (tree_of f.items f.versions.nodes o)) root_is ∙ run-mapped (item_at f.items) (tree f.versions.nodes root)

      segments_are : segments_of (version_of f.items f.versions.nodes k.version).tree ≡ map (mapped (item_at f.items)) (segments (tree f.versions.nodes root))
      segments_are = segments_of_mapped (item_at f.items) (root_tree f.versions.nodes k.version.root)
          ∙ ap (λ o. map (mapped (item_at f.items)) (segments_maybe (root_tree f.versions.nodes o))) root_is

      has_segment : HasRun f.items (tree f.versions.nodes root) r.items.value
          → (s : Tree Item) × (Contains (segments_of (version_of f.items f.versions.nodes k.version).tree) s × (r.items.value ≡ run s))
      has_segment h =
          let within = map_contains (mapped (item_at f.items)) (segments (tree f.versions.nodes root)) h.segment h.within in (
            mapped (item_at f.items) h.segment,
            (
              subst (λ ss. Contains ss (mapped (item_at f.items) h.segment)) (sym segments_are) within,
              h.same
                  ∙ sym (run-mapped (item_at f.items) h.segment),
            ),
          )

      segment_has : (s : Tree Item) → Contains (segments_of (version_of f.items f.versions.nodes k.version).tree) s → r.items.value ≡ run s
          → HasRun f.items (tree f.versions.nodes root) r.items.value
      segment_has s within e =
          let x = contains_map (mapped (item_at f.items)) (segments (tree f.versions.nodes root)) s (subst (λ ss. Contains ss s) segments_are within) in
          record { segment = x.item; within = x.within; same = e ∙ ap run (sym x.same) ∙ run-mapped (item_at f.items) x.item }

      pub whole_belongs : (a : Bool) → a ≡ true → IsTrue a ↔ (r.items.value ≡ run_at f.items f.versions.nodes root) → TellsOne f p r a
      whole_belongs a on whole t d v so found =
          let s = seen_at f sound p k t so d v found in
          subst (λ w. IsTrue a ↔ Belongs d w r) (sym s.1) (λ e. record { qubits = width ∙ sym s.0; items = inl (whole.0 e ∙ sym items_are) }, λ h. on)

      module _ (a b : Bool) (other : a ≡ false) (whole : IsTrue a ↔ (r.items.value ≡ run_at f.items f.versions.nodes root)) (over : b ≡ is_passed r) where
        pub part_belongs : (c : Bool) → b ≡ true → IsTrue c ↔ HasRun f.items (tree f.versions.nodes root) r.items.value → TellsOne f p r c
        part_belongs c on some t d v so found =
            let s = seen_at f sound p k t so d v found in
            subst (λ w. IsTrue c ↔ Belongs d w r) (sym s.1) (
              λ e. record
                  { qubits = width ∙ sym s.0; items = inr (sym over ∙ on, has_segment (some.0 e)) },
              λ h. by h.items,
            )
          where
            by : (r.items.value ≡ (version_of f.items f.versions.nodes k.version).items)
                ⊎ ((is_passed r ≡ true) × ((s : Tree Item) × (Contains (segments_of (version_of f.items f.versions.nodes k.version).tree)
                s × (r.items.value ≡ run s)))) → c ≡ true
            by (inl e) = absurd (off a other (whole.1 (e ∙ items_are)))
            by (inr (q, (s, (within, e)))) = some.1 (segment_has s within e)

        pub none_belongs : b ≡ false → TellsOne f p r b
        none_belongs none t d v so found =
            let s = seen_at f sound p k t so d v found in
            subst (λ w. IsTrue b ↔ Belongs d w r) (sym s.1) (λ e. absurd (off b none e), λ h. by h.items)
          where
            by : (r.items.value ≡ (version_of f.items f.versions.nodes k.version).items)
                ⊎ ((is_passed r ≡ true) × ((s : Tree Item) × (Contains (segments_of (version_of f.items f.versions.nodes k.version).tree)
                s × (r.items.value ≡ run s)))) → b ≡ true
            by (inl e) = absurd (off a other (whole.1 (e ∙ items_are)))
            by (inr (q, (s, (within, e)))) = over ∙ q

-- ---- both records
-- each record belongs to the version in its place
pub both_belong : (f : Fields) (pin : Pin) (q : Place) (j : Judged) (a b : Bool) → pin.second ≡ Some q → TellsOne f pin.first j.first.value a
    → TellsOne f q j.second.value b → TellsPair f pin j (a && b)
both_belong f pin q j a b second one two t other c d v w so is first_found other_found =
    let same : q ≡ other = place q other (sym second ∙ is) in
    let x = one t c v so first_found in
    let y = two t d w so (subst (λ p. Finds t p d w) (sym same) other_found) in (
      λ e. let h = parts a b e in record { first = x.0 h.0; second = y.0 h.1 },
      λ h. and a b (x.1 h.first) (y.1 h.second),
    )
  where
    place : (x y : Place) → Some x ≡ Some y → x ≡ y
    place x y e = cc

    parts : (a b : Bool) → (a && b) ≡ true → (a ≡ true) × (b ≡ true)
    parts true b e = (refl, e)
    parts false b e = cc

    and : (a b : Bool) → a ≡ true → b ≡ true → (a && b) ≡ true
    and true b e h = h
    and false b e h = cc

-- a pin of one version
pub one_alone : (f : Fields) (pin : Pin) (j : Judged) (b : Bool) → pin.second ≡ None → TellsPair f pin j b
one_alone f pin j b none t other c d v w so is first_found other_found = absurd (no other (sym none ∙ is))
  where
    no : (q : Place) → None ≡ Some q → ⊥
    no q e = cc
