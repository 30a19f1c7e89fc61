-- What is found ready in the tables.
use Rattle.std.proofs.Common.{◌≡◌, ℕ, zero, suc, ◌+◌, ◌<◌, ◌≤◌, List, [], ◌∷◌, ◌++◌, length, refl, sym, ap, ap₂, ◌∙◌, subst, arith, Bool, true, false, cond, not, ◌&&◌, ◌||◌}
use Rattle.std.specs.Prelude.{Option, Some, None, map, slice_get}
use Rattle.std.specs.List.{AllByRecursion, list_any, list_all}
use Rattle.seg_tree.specs.Trees.{Tree, name_of}
use Rattle.seg_tree.specs.Table.{tree, root_tree}
use Rattle.ps_script.specs.declared.name.Place.{Place}
use Rattle.ps_versions.specs.Held.{Held, Version, Circuit}
use Rattle.ps_versions.specs.Lives.{is_kept}
use Rattle.ps_versions.specs.Lookup.{place_of, circuit_in, version_in, version_at, root_of}
use Rattle.ps_versions.specs.Walks.{has_name}
use Rattle.ps_versions.specs.Questions.{segments_maybe, is_ready, settled_in}
use Rattle.ps_versions.specs.Reached.{stands, is_segment}
use Rattle.ps_versions.specs.Choices.{name_before, names_where, ready_at, open_in, open_at, open_from, open_of, open_segments, is_done, lightest}
use Rattle.ps_versions.specs.declared.data.Ready.{Ready}
use Rattle.ps_views.specs.Older.{number_of, IsOlder}
use Rattle.ps_views.specs.Fields.{Fields, IsSound, held_at, passed}
use Rattle.ps_views.specs.Readiness.{IsReadyAt}
use Rattle.ps_views.specs.declared.filed.Filed.{Filed}
use Rattle.ps_views.proofs.Lists.{all_append, all_weaker, all_from, all_at, any_here}
use Rattle.ps_views.proofs.Forests.{older_root, older_named, older_segments, named_segments}

module _ (f : Fields) (sound : IsSound f) where
  -- a ready segment of this tree
  record IsOpenNode (place : Place) (root : Option ℕ) (r : Ready) : Type 0 where
    place_is : r.place ≡ place
    there : r.node < length f.versions.nodes
    segment : stands r.node (root_tree f.versions.nodes root) ≡ true
    ready : is_ready f.versions.kept passed (tree f.versions.nodes r.node) ≡ true

  abbrev names : List (Tree ℕ) → List ℕ
  names ts = names_where (is_ready f.versions.kept passed) ts

  open_names : (place : Place) (root : Option ℕ) (ts : List (Tree ℕ)) → AllByRecursion (IsOlder f.versions.nodes (length f.versions.nodes)) ts
      → AllByRecursion (λ s. list_any (λ u. has_name (number_of s) (name_of u)) (segments_maybe (root_tree f.versions.nodes root)) ≡ true) ts
      → AllByRecursion (IsOpenNode place root) (ready_at place (names ts))
  open_names place root [] h s = tt
  open_names place root (t ∷ ts) h s =
      let named : name_of t ≡ Some (number_of t) = older_named f.versions.nodes (length f.versions.nodes) t sound.grown (omega arith) h.0 in
      subst (λ n. AllByRecursion (IsOpenNode place root) (ready_at place (name_before (is_ready f.versions.kept passed t) n (names ts)))) (sym named)
      (by (is_ready f.versions.kept passed t) refl (open_names place root ts h.1 s.1))
    where
      by : (b : Bool) → is_ready f.versions.kept passed t ≡ b → AllByRecursion (IsOpenNode place root) (ready_at place (names ts))
          → AllByRecursion (IsOpenNode place root) (ready_at place (name_before b (Some (number_of t)) (names ts)))
      by true e rest = (record { place_is = refl; there = h.0.below; segment = s.0; ready = ap (is_ready f.versions.kept passed) h.0.same ∙ e }, rest)
      by false e rest = rest

  older_of : (root : Option ℕ) → ((k : ℕ) → root ≡ Some k → k < length f.versions.nodes) → AllByRecursion (IsOlder f.versions.nodes (length f.versions.nodes)) (segments_maybe (root_tree f.versions.nodes root))
  older_of None h = tt
  older_of (Some k) h = older_segments f.versions.nodes (length f.versions.nodes) (tree f.versions.nodes k) sound.grown (omega arith) (older_root f.versions.nodes k (length f.versions.nodes) sound.grown (h k refl) (h k refl))

  open_nodes : (place : Place) (root : Option ℕ) → ((k : ℕ) → root ≡ Some k → k < length f.versions.nodes) → AllByRecursion (IsOpenNode place root) (open_in passed f.versions place root)
  open_nodes place root h = by (settled_in f.versions.kept passed (root_tree f.versions.nodes root))
    where
      older : AllByRecursion (IsOlder f.versions.nodes (length f.versions.nodes)) (segments_maybe (root_tree f.versions.nodes root))
      older = older_of root h

      by : (b : Bool) → AllByRecursion (IsOpenNode place root) (cond b [] (ready_at place (names (segments_maybe (root_tree f.versions.nodes root)))))
      by true = tt
      by false =
          let ts = segments_maybe (root_tree f.versions.nodes root) in
          open_names place root ts (older_of root h)
          (named_segments ts (all_weaker (IsOlder f.versions.nodes (length f.versions.nodes)) (λ s. name_of s ≡ Some (number_of s)) (λ s k. older_named f.versions.nodes (length f.versions.nodes) s sound.grown (omega arith) k) ts (older_of root h)))

  -- the version at a place has its root in the table
  pub rooted_at : (p : Place) (v : Version) → held_at f.versions p ≡ Some v → (k : ℕ) → v.root ≡ Some k → k < length f.versions.nodes
  rooted_at p v e k root = by_place (place_of f.versions.circuits p.name) e
    where
      by_number : (i n : ℕ) (c : Circuit) → slice_get f.versions.circuits i ≡ Some c → version_in (Some c) n ≡ Some v → k < length f.versions.nodes
      by_number i zero c q e = absurd (no e)
        where
          no : None ≡ Some v → ⊥
          no q = cc
      by_number i (suc n) c q e = sound.rooted i n k c v q e root

      by_circuit : (i : ℕ) (o : Option Circuit) → slice_get f.versions.circuits i ≡ o → version_in o p.version ≡ Some v → k < length f.versions.nodes
      by_circuit i None q e = absurd (no e)
        where
          no : None ≡ Some v → ⊥
          no q = cc
      by_circuit i (Some c) q e = by_number i p.version c q e

      by_place : (at : Option ℕ) → version_in (circuit_in f.versions.circuits at) p.version ≡ Some v → k < length f.versions.nodes
      by_place None e = absurd (no e)
        where
          no : None ≡ Some v → ⊥
          no q = cc
      by_place (Some i) e = by_circuit i (slice_get f.versions.circuits i) refl e

  of_version : (p : Place) (v : Version) → held_at f.versions p ≡ Some v → is_kept v ≡ true → AllByRecursion (IsReadyAt f) (open_in passed f.versions p v.root)
  of_version p v e kept = all_weaker (IsOpenNode p v.root) (IsReadyAt f)
      (λ r h. record { version = v; held = ap (held_at f.versions) h.place_is ∙ e; kept = kept; there = h.there; segment = h.segment; ready = h.ready })
      (open_in passed f.versions p v.root) (open_nodes p v.root (rooted_at p v e))

  -- LAW: the ready segments of a kept version
  pub all_ready_at : (p : Place) (v : Version) → held_at f.versions p ≡ Some v → is_kept v ≡ true → AllByRecursion (IsReadyAt f) (open_at passed f.versions p)
  all_ready_at p v e kept = subst (λ r. AllByRecursion (IsReadyAt f) (open_in passed f.versions p r)) (sym (ap root_of e)) (of_version p v e kept)

  held_by : (i k : ℕ) (c : Circuit) (v : Version) → slice_get f.versions.circuits i ≡ Some c → slice_get c.versions k ≡ Some v → held_at f.versions (record { name = c.name; version = suc k }) ≡ Some v
  held_by i k c v q e = ap (λ o. version_in (circuit_in f.versions.circuits o) (suc k)) (sound.named i c q) ∙ ap (λ o. version_in o (suc k)) q ∙ e

  all_from_version : (c : Circuit) (n : ℕ) (vs : List Version) → ((k : ℕ) (v : Version) → slice_get vs k ≡ Some v → held_at f.versions (record { name = c.name; version = n + k }) ≡ Some v)
      → AllByRecursion (IsReadyAt f) (open_from passed f.versions c.name n vs)
  all_from_version c n [] h = tt
  all_from_version c n (v ∷ vs) h = all_append (IsReadyAt f) (cond (is_kept v) (open_in passed f.versions (record { name = c.name; version = n }) v.root) []) (open_from passed f.versions c.name (suc n) vs)
      (by (is_kept v) refl) (all_from_version c (suc n) vs (λ k w e. let at : n + suc k ≡ suc n + k = omega arith in ap (λ m. held_at f.versions (record { name = c.name; version = m })) (sym at) ∙ h (suc k) w e))
    where
      here : held_at f.versions (record { name = c.name; version = n }) ≡ Some v
      here = let at : n + 0 ≡ n = omega arith in ap (λ m. held_at f.versions (record { name = c.name; version = m })) (sym at) ∙ h 0 v refl

      by : (b : Bool) → is_kept v ≡ b → AllByRecursion (IsReadyAt f) (cond b (open_in passed f.versions (record { name = c.name; version = n }) v.root) [])
      by true e = of_version (record { name = c.name; version = n }) v here e
      by false e = tt

  all_of : (cs : List Circuit) → ((j : ℕ) (c : Circuit) → slice_get cs j ≡ Some c → (i : ℕ) × (slice_get f.versions.circuits i ≡ Some c)) → AllByRecursion (IsReadyAt f) (open_of passed f.versions cs)
  all_of [] h = tt
  all_of (c ∷ cs) h =
      let at = h 0 c refl in
      all_append (IsReadyAt f) (open_from passed f.versions c.name 1 c.versions) (open_of passed f.versions cs)
      (all_from_version c 1 c.versions (λ k v e. let next : 1 + k ≡ suc k = omega arith in ap (λ m. held_at f.versions (record { name = c.name; version = m })) next ∙ held_by at.0 k c v at.1 e))
      (all_of cs (λ j d e. h (suc j) d e))

  -- LAW: the ready segments of all kept versions
  pub all_ready : AllByRecursion (IsReadyAt f) (open_segments passed f.versions)
  all_ready = all_of f.versions.circuits (λ j c e. (j, e))
