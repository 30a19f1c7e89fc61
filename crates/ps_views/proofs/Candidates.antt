-- The segments that can be computed, in the tables and in the state.
use Rattle.std.proofs.Common.{◌≡◌, ℕ, zero, suc, ◌+◌, ◌<◌, ◌≤◌, List, [], ◌∷◌, ◌++◌, length, refl, sym, ap, ap₂, ◌∙◌, subst, arith, append_assoc, Bool, true, false, cond, not, ◌&&◌, ◌||◌}
use Rattle.std.specs.Prelude.{Option, Some, None, map, filter, slice_get}
use Rattle.std.specs.List.{AllByRecursion, flat_map, list_all}
use Rattle.seg_tree.specs.Trees.{Tree, leaf, branch, name_of}
use Rattle.seg_tree.specs.Table.{tree, root_tree}
use Rattle.qasm_expand.specs.Circuits.{TableOf}
use Rattle.ps_script.specs.declared.name.Place.{Place}
use Rattle.ps_versions.specs.Held as tables
use Rattle.ps_versions.specs.Held.{Held}
use Rattle.ps_versions.specs.Lives as lives
use Rattle.ps_versions.specs.Questions as held
use Rattle.ps_versions.specs.Questions.{segments, segments_maybe, settled_in}
use Rattle.ps_versions.specs.Choices.{name_before, names_where, ready_at, open_in, is_done}
use Rattle.ps_versions.specs.declared.data.Ready.{Ready}
use Rattle.ps_journal.specs.Mapped.{mapped, mapped_maybe}
use Rattle.ps_journal.specs.State.{Item, Published, Version, Circuit, State}
use Rattle.ps_journal.specs.Segments as model
use Rattle.ps_journal.specs.Claiming.{Standing, standing_from, all_versions, Candidate, candidates_of, candidates, AreSettled}
use Rattle.ps_journal.proofs.Mapping.{name-mapped}
use Rattle.ps_views.specs.Older.{number_in}
use Rattle.ps_views.specs.Views.{item_at, version_of, circuit_of, circuits_of, tree_of}
use Rattle.ps_views.specs.Fields.{passed}
use Rattle.ps_views.specs.declared.filed.Filed.{Filed}
use Rattle.ps_views.proofs.Lists.{map_append}
use Rattle.ps_views.proofs.Knowledge.{Knows, AllKnown, ready_same, settled_same, root_known, deeply_known, segments_of_mapped}

-- a candidate as the tables tell it
abbrev pub ready_of : Candidate → Ready
ready_of x = record { place = x.of.place; node = number_in (name_of x.segment) }

pub flat_append : {A B : Type 0} (f : A → List B) (xs ys : List A) → flat_map f (xs ++ ys) ≡ flat_map f xs ++ flat_map f ys
flat_append f [] ys = refl
flat_append f (x ∷ xs) ys = ap (λ zs. f x ++ zs) (flat_append f xs ys) ∙ sym (append_assoc (f x) (flat_map f xs) (flat_map f ys))

pub filter_append : {A : Type 0} (p : A → Bool) (xs ys : List A) → filter p (xs ++ ys) ≡ filter p xs ++ filter p ys
filter_append p [] ys = refl
filter_append p (x ∷ xs) ys = by (p x) (filter_append p xs ys)
  where
    by : (b : Bool) → filter p (xs ++ ys) ≡ filter p xs ++ filter p ys → cond b (x ∷ filter p (xs ++ ys)) (filter p (xs ++ ys)) ≡ cond b (x ∷ filter p xs) (filter p xs) ++ filter p ys
    by true e = ap (λ zs. x ∷ zs) e
    by false e = e

all_filter : {A : Type 0} (P : A → Type 0) (p : A → Bool) (xs ys : List A) → AllByRecursion P (filter p xs) → AllByRecursion P (filter p ys) → AllByRecursion P (filter p (xs ++ ys))
all_filter P p [] ys h k = k
all_filter P p (x ∷ xs) ys h k = by (p x) h (λ r. all_filter P p xs ys r k)
  where
    by : (b : Bool) → AllByRecursion P (cond b (x ∷ filter p xs) (filter p xs)) → (AllByRecursion P (filter p xs) → AllByRecursion P (filter p (xs ++ ys)))
        → AllByRecursion P (cond b (x ∷ filter p (xs ++ ys)) (filter p (xs ++ ys)))
    by true h rest = (h.0, rest h.1)
    by false h rest = rest h

module _ (published : List Published) (items : List Item) (h : Held Filed) where
  -- the ready segments of a list of segments
  ready_names : (x : Standing) (ts : List (Tree ℕ)) → AllByRecursion (λ s. AllKnown published h.kept (segments s)) ts
      → map ready_of (map (λ s. record { of = x; segment = s }) (filter (model.is_ready published) (map (mapped (item_at items)) ts))) ≡ ready_at x.place (names_where (held.is_ready h.kept passed) ts)
  ready_names x [] k = refl
  ready_names x (t ∷ ts) k =
      let here = root_known published h.kept (item_at items) t k.0 in
      ap (λ b. map ready_of (map (λ s. record { of = x; segment = s }) (cond b (mapped (item_at items) t ∷ filter (model.is_ready published) (map (mapped (item_at items)) ts)) (filter (model.is_ready published) (map (mapped (item_at items)) ts))))) (ready_same published h.kept (item_at items) t k.0)
      ∙ by (held.is_ready h.kept passed t) here.number
      (name-mapped (item_at items) t ∙ here.named) (ready_names x ts k.1)
      ∙ ap (λ n. ready_at x.place (name_before (held.is_ready h.kept passed t) n (names_where (held.is_ready h.kept passed) ts))) (sym here.named)
    where
      by : (b : Bool) (n : ℕ) → name_of (mapped (item_at items) t) ≡ Some n
          → map ready_of (map (λ s. record { of = x; segment = s }) (filter (model.is_ready published) (map (mapped (item_at items)) ts))) ≡ ready_at x.place (names_where (held.is_ready h.kept passed) ts)
          → map ready_of (map (λ s. record { of = x; segment = s }) (cond b (mapped (item_at items) t ∷ filter (model.is_ready published) (map (mapped (item_at items)) ts)) (filter (model.is_ready published) (map (mapped (item_at items)) ts))))
          ≡ ready_at x.place (name_before b (Some n) (names_where (held.is_ready h.kept passed) ts))
      by true n e rest = ap₂ (λ m rs. record { place = x.place; node = number_in m } ∷ rs) e rest
      by false n e rest = rest

  -- those of a version
  version_candidates : (x : Standing) (v : tables.Version) → x.version ≡ version_of items h.nodes v → AllKnown published h.kept (segments_maybe (root_tree h.nodes v.root))
      → map ready_of (candidates_of published x) ≡ open_in passed h x.place v.root
  version_candidates x v e k =
      ap (λ o. map ready_of (cond (model.is_settled published o) [] (map (λ s. record { of = x; segment = s }) (filter (model.is_ready published) (model.segments_of o))))) (ap (λ w. w.tree) e)
      ∙ ap (λ b. map ready_of (cond b [] (map (λ s. record { of = x; segment = s }) (filter (model.is_ready published) (model.segments_of (tree_of items h.nodes v.root)))))) (settled_same published h.kept (item_at items) (root_tree h.nodes v.root) k)
      ∙ by (settled_in h.kept passed (root_tree h.nodes v.root)) _ _
      (ap (λ ts. map ready_of (map (λ s. record { of = x; segment = s }) (filter (model.is_ready published) ts))) (segments_of_mapped (item_at items) (root_tree h.nodes v.root))
      ∙ ready_names x (segments_maybe (root_tree h.nodes v.root)) (deep (root_tree h.nodes v.root) k))
    where
      deep : (t : Option (Tree ℕ)) → AllKnown published h.kept (segments_maybe t) → AllByRecursion (λ s. AllKnown published h.kept (segments s)) (segments_maybe t)
      deep None k = tt
      deep (Some t) k = deeply_known published h.kept (item_at items) t k

      by : (b : Bool) (xs : List Candidate) (ys : List Ready) → map ready_of xs ≡ ys → map ready_of (cond b [] xs) ≡ cond b [] ys
      by true xs ys e = refl
      by false xs ys e = e

  -- ---- versions that pass a test by place
  module _ (T : Place → Version → Bool) where
    -- a version of the tables, where it passes
    abbrev pub Fits : List ℕ → ℕ → tables.Version → Type 0
    Fits name n v = T (record { name = name; version = n }) (version_of items h.nodes v) ≡ true → AllKnown published h.kept (segments_maybe (root_tree h.nodes v.root))

    abbrev pub AllFit : List ℕ → ℕ → List tables.Version → Type 0
    AllFit name n [] = Unit {0}
    AllFit name n (v ∷ vs) = Fits name n v × AllFit name (suc n) vs

    abbrev pub CircuitsFit : List tables.Circuit → Type 0
    CircuitsFit [] = Unit {0}
    CircuitsFit (c ∷ cs) = AllFit c.name 1 c.versions × CircuitsFit cs

    abbrev pub opened_from : List ℕ → ℕ → List tables.Version → List Ready
    opened_from name n [] = []
    opened_from name n (v ∷ vs) = cond (T (record { name = name; version = n }) (version_of items h.nodes v)) (open_in passed h (record { name = name; version = n }) v.root) [] ++ opened_from name (suc n) vs

    abbrev pub opened_of : List tables.Circuit → List Ready
    opened_of [] = []
    opened_of (c ∷ cs) = opened_from c.name 1 c.versions ++ opened_of cs

    abbrev pub picked : List Standing → List Standing
    picked ss = filter (λ s. T s.place s.version) ss

    from_candidates : (C : Circuit) (name : List ℕ) (n : ℕ) (vs : List tables.Version) → C.name ≡ name → AllFit name n vs
        → map ready_of (candidates published (picked (standing_from C n (map (version_of items h.nodes) vs)))) ≡ opened_from name n vs
    from_candidates C name n [] e k = refl
    from_candidates C name n (v ∷ vs) e k =
        ap (λ m. map ready_of (candidates published (cond (T (record { name = m; version = n }) (version_of items h.nodes v)) (record { place = record { name = C.name; version = n }; qubits = C.qubits; version = version_of items h.nodes v } ∷ picked (standing_from C (suc n) (map (version_of items h.nodes) vs))) (picked (standing_from C (suc n) (map (version_of items h.nodes) vs)))))) e
        ∙ by (T (record { name = name; version = n }) (version_of items h.nodes v)) k.0 (from_candidates C name (suc n) vs e k.1)
      where
        by : (b : Bool) → (b ≡ true → AllKnown published h.kept (segments_maybe (root_tree h.nodes v.root)))
            → map ready_of (candidates published (picked (standing_from C (suc n) (map (version_of items h.nodes) vs)))) ≡ opened_from name (suc n) vs
            → map ready_of (candidates published (cond b (record { place = record { name = C.name; version = n }; qubits = C.qubits; version = version_of items h.nodes v } ∷ picked (standing_from C (suc n) (map (version_of items h.nodes) vs))) (picked (standing_from C (suc n) (map (version_of items h.nodes) vs)))))
            ≡ cond b (open_in passed h (record { name = name; version = n }) v.root) [] ++ opened_from name (suc n) vs
        by true f rest =
            let x : Standing = record { place = record { name = C.name; version = n }; qubits = C.qubits; version = version_of items h.nodes v } in
            map_append ready_of (candidates_of published x) (candidates published (picked (standing_from C (suc n) (map (version_of items h.nodes) vs))))
            ∙ ap₂ (λ a b. a ++ b) (version_candidates x v refl (f refl) ∙ ap (λ m. open_in passed h (record { name = m; version = n }) v.root) e) rest
        by false f rest = rest

    -- LAW: the candidates among the versions that pass
    pub all_candidates : (gates : List TableOf) (cs : List tables.Circuit) → length gates ≡ length cs → CircuitsFit cs
        → map ready_of (candidates published (picked (all_versions (circuits_of items h.nodes gates cs)))) ≡ opened_of cs
    all_candidates [] [] l k = refl
    all_candidates [] (c ∷ cs) l k = absurd (omega arith)
    all_candidates (g ∷ gates) [] l k = absurd (omega arith)
    all_candidates (g ∷ gates) (c ∷ cs) l k =
        let C = circuit_of items h.nodes g c in
        let xs = standing_from C 1 (map (version_of items h.nodes) c.versions) in
        let ys = all_versions (circuits_of items h.nodes gates cs) in
        ap (λ ss. map ready_of (candidates published ss)) (filter_append (λ (s : Standing). T s.place s.version) xs ys)
        ∙ ap (map ready_of) (flat_append (candidates_of published) (picked xs) (picked ys))
        ∙ map_append ready_of (candidates published (picked xs)) (candidates published (picked ys))
        ∙ ap₂ (λ a b. a ++ b) (from_candidates C c.name 1 c.versions refl k.0) (all_candidates gates cs (omega (arith, l)) k.1)

    -- ---- where all of them are settled
    abbrev pub DoneFrom : List ℕ → ℕ → List tables.Version → Type 0
    DoneFrom name n [] = Unit {0}
    DoneFrom name n (v ∷ vs) = (T (record { name = name; version = n }) (version_of items h.nodes v) ≡ true → settled_in h.kept passed (root_tree h.nodes v.root) ≡ true) × DoneFrom name (suc n) vs

    abbrev pub CircuitsDone : List tables.Circuit → Type 0
    CircuitsDone [] = Unit {0}
    CircuitsDone (c ∷ cs) = DoneFrom c.name 1 c.versions × CircuitsDone cs

    from_settled : (C : Circuit) (n : ℕ) (vs : List tables.Version) → AllFit C.name n vs → DoneFrom C.name n vs → AreSettled published (picked (standing_from C n (map (version_of items h.nodes) vs)))
    from_settled C n [] k d = tt
    from_settled C n (v ∷ vs) k d = by (T (record { name = C.name; version = n }) (version_of items h.nodes v)) k.0 d.0 (from_settled C (suc n) vs k.1 d.1)
      where
        by : (b : Bool) → (b ≡ true → AllKnown published h.kept (segments_maybe (root_tree h.nodes v.root))) → (b ≡ true → settled_in h.kept passed (root_tree h.nodes v.root) ≡ true)
            → AreSettled published (picked (standing_from C (suc n) (map (version_of items h.nodes) vs)))
            → AreSettled published (cond b (record { place = record { name = C.name; version = n }; qubits = C.qubits; version = version_of items h.nodes v } ∷ picked (standing_from C (suc n) (map (version_of items h.nodes) vs))) (picked (standing_from C (suc n) (map (version_of items h.nodes) vs))))
        by true f s rest = (settled_same published h.kept (item_at items) (root_tree h.nodes v.root) (f refl) ∙ s refl, rest)
        by false f s rest = rest

    -- LAW: the versions that pass are settled
    pub all_are_settled : (gates : List TableOf) (cs : List tables.Circuit) → length gates ≡ length cs → CircuitsFit cs → CircuitsDone cs
        → AreSettled published (picked (all_versions (circuits_of items h.nodes gates cs)))
    all_are_settled [] [] l k d = tt
    all_are_settled [] (c ∷ cs) l k d = absurd (omega arith)
    all_are_settled (g ∷ gates) [] l k d = absurd (omega arith)
    all_are_settled (g ∷ gates) (c ∷ cs) l k d =
        let C = circuit_of items h.nodes g c in
        all_filter (λ s. model.is_settled published s.version.tree ≡ true) (λ (s : Standing). T s.place s.version) (standing_from C 1 (map (version_of items h.nodes) c.versions)) (all_versions (circuits_of items h.nodes gates cs))
        (from_settled C 1 c.versions k.0 d.0) (all_are_settled gates cs (omega (arith, l)) k.1 d.1)
