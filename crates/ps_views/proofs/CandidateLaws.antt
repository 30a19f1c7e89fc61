-- What is known of each candidate, and the lightest one in the state.
use Rattle.std.proofs.Common.{◌≡◌, ℕ, zero, suc, ◌+◌, ◌<◌, ◌≤◌, List, [], ◌∷◌, ◌++◌, length, refl, sym, ap, ap₂, ◌∙◌, subst, arith, Bool, true, false, cond, not, ◌&&◌, ◌||◌}
use Rattle.std.specs.Prelude.{Option, Some, None, map, filter, slice_get, is_none, nat_lt}
use Rattle.std.specs.List.{AllByRecursion, flat_map, list_all}
use Rattle.seg_tree.specs.Trees.{Tree, leaf, branch, name_of}
use Rattle.seg_tree.specs.Table.{tree, root_tree}
use Rattle.qasm_expand.specs.Circuits.{TableOf}
use Rattle.ps_script.specs.declared.name.Place.{Place}
use Rattle.ps_versions.specs.Held as tables
use Rattle.ps_versions.specs.Lives as lives
use Rattle.ps_versions.specs.Lookup as lookup
use Rattle.ps_versions.specs.Lookup.{place_of, circuit_in, version_in}
use Rattle.ps_versions.specs.Questions as held
use Rattle.ps_versions.specs.Questions.{segments, segments_maybe, settled_in}
use Rattle.ps_versions.specs.Choices.{open_in, open_from, open_of, open_segments, is_done, all_settled, lightest}
use Rattle.ps_versions.specs.declared.data.Ready.{Ready}
use Rattle.ps_journal.specs.Mapped.{mapped}
use Rattle.ps_journal.specs.State.{Item, Published, Version, Circuit, State}
use Rattle.ps_journal.specs.Segments as model
use Rattle.ps_journal.specs.Keeping.{is_pinned}
use Rattle.ps_journal.specs.Keeping as keeping
use Rattle.ps_journal.specs.Claiming.{Standing, standing_from, all_versions, Candidate, candidates_of, candidates, AreSettled, kept_versions}
use Rattle.ps_journal.proofs.Mapping.{name-mapped}
use Rattle.ps_views.specs.Older.{number_of, IsOlder}
use Rattle.ps_views.specs.Views.{item_at, version_of, circuit_of, circuits_of, tree_of}
use Rattle.ps_views.specs.Fields.{Fields, IsSound, held_at, passed}
use Rattle.ps_views.specs.Stands.{Stands}
use Rattle.ps_views.proofs.Lists.{all_append, all_weaker, all_from, all_at, map_append}
use Rattle.ps_views.proofs.Forests.{older_named}
use Rattle.ps_views.proofs.Knowledge.{Knows, AllKnown, deeply_known, segments_of_mapped, version_known, version_older}
use Rattle.ps_views.proofs.Candidates.{ready_of, CircuitsFit, CircuitsDone, AllFit, DoneFrom, opened_of, opened_from, picked, all_candidates, all_are_settled, flat_append, filter_append}
use Rattle.ps_views.proofs.Noting.{pinned_counted}

-- the candidate's segment is this node's tree, and its circuit is that of the tables
pub record SeesCandidate (f : Fields) (t : State) (x : Candidate) : Type 0 where
  pub circuit : tables.Circuit
  pub found : lookup.circuit_at f.versions.circuits x.of.place.name ≡ Some circuit
  pub qubits : x.of.qubits ≡ circuit.qubits
  pub number : ℕ
  pub named : name_of x.segment ≡ Some number
  pub there : number < length f.versions.nodes
  pub same : x.segment ≡ mapped (item_at f.items) (tree f.versions.nodes number)
  pub known : AllKnown t.published f.versions.kept (segments (tree f.versions.nodes number))

-- ---- every candidate is seen
module _ (f : Fields) (t : State) (sound : IsSound f) where
  abbrev all_older : List (Tree ℕ) → Type 0
  all_older ts = AllByRecursion (IsOlder f.versions.nodes (length f.versions.nodes)) ts

  -- the version's circuit is found by its name
  record IsIn (x : Standing) (c : tables.Circuit) : Type 0 where
    found : lookup.circuit_at f.versions.circuits x.place.name ≡ Some c
    qubits : x.qubits ≡ c.qubits

  abbrev those : Standing → List (Tree Item) → List Candidate
  those x ts = map (λ s. record { of = x; segment = s }) (filter (model.is_ready t.published) ts)

  segments_seen : (x : Standing) (c : tables.Circuit) → IsIn x c → (ts : List (Tree ℕ)) → all_older ts → AllByRecursion (λ s. AllKnown t.published f.versions.kept (segments s)) ts
      → AllByRecursion (SeesCandidate f t) (those x (map (mapped (item_at f.items)) ts))
  segments_seen x c i [] o k = tt
  segments_seen x c i (s ∷ ts) o k = by (model.is_ready t.published (mapped (item_at f.items) s)) (segments_seen x c i ts o.1 k.1)
    where
      by : (b : Bool) → AllByRecursion (SeesCandidate f t) (those x (map (mapped (item_at f.items)) ts))
          → AllByRecursion (SeesCandidate f t) (map (λ s. record { of = x; segment = s }) (cond b (mapped (item_at f.items) s ∷ filter (model.is_ready t.published) (map (mapped (item_at f.items)) ts)) (filter (model.is_ready t.published) (map (mapped (item_at f.items)) ts))))
      by true rest = (
        record {
          circuit = c;
          found = i.found;
          qubits = i.qubits;
          number = number_of s;
          named = name-mapped (item_at f.items) s ∙ older_named f.versions.nodes (length f.versions.nodes) s sound.grown (omega arith) o.0;
          there = o.0.below;
          same = ap (mapped (item_at f.items)) (sym o.0.same);
          known = subst (λ u. AllKnown t.published f.versions.kept (segments u)) (sym o.0.same) k.0;
        },
        rest,
      )
      by false rest = rest

  version_seen : (x : Standing) (c : tables.Circuit) (v : tables.Version) → IsIn x c → x.version ≡ version_of f.items f.versions.nodes v → all_older (segments_maybe (root_tree f.versions.nodes v.root))
      → AllKnown t.published f.versions.kept (segments_maybe (root_tree f.versions.nodes v.root)) → AllByRecursion (SeesCandidate f t) (candidates_of t.published x)
  version_seen x c v i e o k =
      subst (λ w. AllByRecursion (SeesCandidate f t) (cond (model.is_settled t.published w) [] (those x (model.segments_of w)))) (sym (ap (λ w. w.tree) e))
      (by (model.is_settled t.published (tree_of f.items f.versions.nodes v.root)))
    where
      deep : (u : Option (Tree ℕ)) → AllKnown t.published f.versions.kept (segments_maybe u) → AllByRecursion (λ s. AllKnown t.published f.versions.kept (segments s)) (segments_maybe u)
      deep None k = tt
      deep (Some u) k = deeply_known t.published f.versions.kept (item_at f.items) u k

      by : (b : Bool) → AllByRecursion (SeesCandidate f t) (cond b [] (those x (model.segments_of (tree_of f.items f.versions.nodes v.root))))
      by true = tt
      by false = subst (λ ts. AllByRecursion (SeesCandidate f t) (those x ts)) (sym (segments_of_mapped (item_at f.items) (root_tree f.versions.nodes v.root)))
          (segments_seen x c i (segments_maybe (root_tree f.versions.nodes v.root)) o (deep (root_tree f.versions.nodes v.root) k))

  module _ (T : Place → Version → Bool) where
    abbrev versions_older : List tables.Version → Type 0
    versions_older vs = AllByRecursion (λ (v : tables.Version). all_older (segments_maybe (root_tree f.versions.nodes v.root))) vs

    from_seen : (g : TableOf) (c : tables.Circuit) (n : ℕ) (vs : List tables.Version) → lookup.circuit_at f.versions.circuits c.name ≡ Some c → versions_older vs → AllFit t.published f.items f.versions T c.name n vs
        → AllByRecursion (SeesCandidate f t) (candidates t.published (picked t.published f.items f.versions T (standing_from (circuit_of f.items f.versions.nodes g c) n (map (version_of f.items f.versions.nodes) vs))))
    from_seen g c n [] e o k = tt
    from_seen g c n (v ∷ vs) e o k = by (T (record { name = c.name; version = n }) (version_of f.items f.versions.nodes v)) k.0 (from_seen g c (suc n) vs e o.1 k.1)
      where
        by : (b : Bool) → (b ≡ true → AllKnown t.published f.versions.kept (segments_maybe (root_tree f.versions.nodes v.root)))
            → AllByRecursion (SeesCandidate f t) (candidates t.published (picked t.published f.items f.versions T (standing_from (circuit_of f.items f.versions.nodes g c) (suc n) (map (version_of f.items f.versions.nodes) vs))))
            → AllByRecursion (SeesCandidate f t) (candidates t.published (cond b (record { place = record { name = c.name; version = n }; qubits = c.qubits; version = version_of f.items f.versions.nodes v } ∷ picked t.published f.items f.versions T (standing_from (circuit_of f.items f.versions.nodes g c) (suc n) (map (version_of f.items f.versions.nodes) vs))) (picked t.published f.items f.versions T (standing_from (circuit_of f.items f.versions.nodes g c) (suc n) (map (version_of f.items f.versions.nodes) vs)))))
        by true h rest =
            let x : Standing = record { place = record { name = c.name; version = n }; qubits = c.qubits; version = version_of f.items f.versions.nodes v } in
            all_append (SeesCandidate f t) (candidates_of t.published x) _ (version_seen x c v (record { found = e; qubits = refl }) refl o.0 (h refl)) rest
        by false h rest = rest

    all_seen_in : (gates : List TableOf) (cs : List tables.Circuit) → AllByRecursion (λ (c : tables.Circuit). lookup.circuit_at f.versions.circuits c.name ≡ Some c) cs
        → AllByRecursion (λ (c : tables.Circuit). versions_older c.versions) cs → CircuitsFit t.published f.items f.versions T cs
        → AllByRecursion (SeesCandidate f t) (candidates t.published (picked t.published f.items f.versions T (all_versions (circuits_of f.items f.versions.nodes gates cs))))
    all_seen_in [] cs e o k = tt
    all_seen_in (g ∷ gates) [] e o k = tt
    all_seen_in (g ∷ gates) (c ∷ cs) e o k =
        let xs = standing_from (circuit_of f.items f.versions.nodes g c) 1 (map (version_of f.items f.versions.nodes) c.versions) in
        let ys = all_versions (circuits_of f.items f.versions.nodes gates cs) in
        subst (λ ss. AllByRecursion (SeesCandidate f t) (candidates t.published ss)) (sym (filter_append (λ (s : Standing). T s.place s.version) xs ys))
        (subst (AllByRecursion (SeesCandidate f t)) (sym (flat_append (candidates_of t.published) (picked t.published f.items f.versions T xs) (picked t.published f.items f.versions T ys)))
        (all_append (SeesCandidate f t) (candidates t.published (picked t.published f.items f.versions T xs)) (candidates t.published (picked t.published f.items f.versions T ys))
        (from_seen g c 1 c.versions e.0 o.0 k.0) (all_seen_in gates cs e.1 o.1 k.1)))

-- ---- the premises, from what the fields keep
module _ (f : Fields) (t : State) (sound : IsSound f) (so : Stands f t) where
  all_found : AllByRecursion (λ (c : tables.Circuit). lookup.circuit_at f.versions.circuits c.name ≡ Some c) f.versions.circuits
  all_found = all_from (λ (c : tables.Circuit). lookup.circuit_at f.versions.circuits c.name ≡ Some c) f.versions.circuits (λ j c e. ap (circuit_in f.versions.circuits) (sound.named j c e) ∙ e)

  all_olds : AllByRecursion (λ (c : tables.Circuit). AllByRecursion (λ (v : tables.Version). AllByRecursion (IsOlder f.versions.nodes (length f.versions.nodes)) (segments_maybe (root_tree f.versions.nodes v.root))) c.versions) f.versions.circuits
  all_olds = all_from (λ (c : tables.Circuit). AllByRecursion (λ (v : tables.Version). AllByRecursion (IsOlder f.versions.nodes (length f.versions.nodes)) (segments_maybe (root_tree f.versions.nodes v.root))) c.versions) f.versions.circuits
      (λ j c e. all_from (λ (v : tables.Version). AllByRecursion (IsOlder f.versions.nodes (length f.versions.nodes)) (segments_maybe (root_tree f.versions.nodes v.root))) c.versions (λ k v q. version_older f t sound so j k c v e q))

  module _ (T : Place → Version → Bool) (keeps : (i k : ℕ) (c : tables.Circuit) (v : tables.Version) → slice_get f.versions.circuits i ≡ Some c → slice_get c.versions k ≡ Some v
      → T (record { name = c.name; version = suc k }) (version_of f.items f.versions.nodes v) ≡ true → lives.is_kept v ≡ true) where
    fit_from : (i : ℕ) (c : tables.Circuit) → slice_get f.versions.circuits i ≡ Some c → (n : ℕ) (vs : List tables.Version)
        → ((k : ℕ) (v : tables.Version) → slice_get vs k ≡ Some v → (m : ℕ) × (slice_get c.versions m ≡ Some v) × (suc m ≡ n + k)) → AllFit t.published f.items f.versions T c.name n vs
    fit_from i c e n [] h = tt
    fit_from i c e n (v ∷ vs) h = (
      λ q. let at = h 0 v refl in let number : suc at.0 ≡ n = omega (arith, at.2) in
          version_known f t sound so i at.0 c v e at.1 (keeps i at.0 c v e at.1 (ap (λ m. T (record { name = c.name; version = m }) (version_of f.items f.versions.nodes v)) number ∙ q)),
      fit_from i c e (suc n) vs (λ k w q. let at = h (suc k) w q in (at.0, at.1, omega (arith, at.2))),
    )

    fit_all : (cs : List tables.Circuit) → ((j : ℕ) (c : tables.Circuit) → slice_get cs j ≡ Some c → (i : ℕ) × (slice_get f.versions.circuits i ≡ Some c)) → CircuitsFit t.published f.items f.versions T cs
    fit_all [] h = tt
    fit_all (c ∷ cs) h = let at = h 0 c refl in (fit_from at.0 c at.1 1 c.versions (λ k v q. (k, q, omega arith)), fit_all cs (λ j d q. h (suc j) d q))

    pub all_fit : CircuitsFit t.published f.items f.versions T f.versions.circuits
    all_fit = fit_all f.versions.circuits (λ j c e. (j, e))

    -- LAW: the candidates among the versions that pass, as the tables tell them
    pub candidates_told : map ready_of (candidates t.published (picked t.published f.items f.versions T (all_versions t.circuits))) ≡ opened_of t.published f.items f.versions T f.versions.circuits
    candidates_told = ap (λ cs. map ready_of (candidates t.published (picked t.published f.items f.versions T (all_versions cs)))) so.circuits
        ∙ all_candidates t.published f.items f.versions T f.tables f.versions.circuits sound.tabled all_fit

    -- LAW: each of them is seen
    pub all_seen : AllByRecursion (SeesCandidate f t) (candidates t.published (picked t.published f.items f.versions T (all_versions t.circuits)))
    all_seen = subst (λ cs. AllByRecursion (SeesCandidate f t) (candidates t.published (picked t.published f.items f.versions T (all_versions cs)))) (sym so.circuits)
        (all_seen_in f t sound T f.tables f.versions.circuits all_found all_olds all_fit)

    -- LAW: where they are done, they are settled
    pub settled_told : CircuitsDone t.published f.items f.versions T f.versions.circuits → AreSettled t.published (picked t.published f.items f.versions T (all_versions t.circuits))
    settled_told d = subst (λ cs. AreSettled t.published (picked t.published f.items f.versions T (all_versions cs))) (sym so.circuits)
        (all_are_settled t.published f.items f.versions T f.tables f.versions.circuits sound.tabled all_fit d)

  -- ---- kept versions
  abbrev pub keeping_test : Place → Version → Bool
  keeping_test p v = keeping.is_kept t.pins p v

  -- LAW: a version is kept in the tables exactly where it is in the state
  pub kept_same : (i k : ℕ) (c : tables.Circuit) (v : tables.Version) → slice_get f.versions.circuits i ≡ Some c → slice_get c.versions k ≡ Some v
      → keeping.is_kept t.pins (record { name = c.name; version = suc k }) (version_of f.items f.versions.nodes v) ≡ lives.is_kept v
  kept_same i k c v ci vk =
      let p : Place = record { name = c.name; version = suc k } in
      let at : held_at f.versions p ≡ Some v = ap (λ o. version_in (circuit_in f.versions.circuits o) (suc k)) (sound.named i c ci) ∙ ap (λ o. version_in o (suc k)) ci ∙ vk in
      ap (λ b. is_none v.retired || b) (ap (λ ps. is_pinned ps p) so.pins ∙ pinned_counted p f.pins ∙ ap (nat_lt 0) (sym (sound.counted p v at)))

  keeps_kept : (i k : ℕ) (c : tables.Circuit) (v : tables.Version) → slice_get f.versions.circuits i ≡ Some c → slice_get c.versions k ≡ Some v
      → keeping_test (record { name = c.name; version = suc k }) (version_of f.items f.versions.nodes v) ≡ true → lives.is_kept v ≡ true
  keeps_kept i k c v ci vk e = sym (kept_same i k c v ci vk) ∙ e

  same_from : (i : ℕ) (c : tables.Circuit) → slice_get f.versions.circuits i ≡ Some c → (n : ℕ) (vs : List tables.Version)
      → ((k : ℕ) (v : tables.Version) → slice_get vs k ≡ Some v → (m : ℕ) × (slice_get c.versions m ≡ Some v) × (suc m ≡ n + k))
      → opened_from t.published f.items f.versions keeping_test c.name n vs ≡ open_from passed f.versions c.name n vs
  same_from i c e n [] h = refl
  same_from i c e n (v ∷ vs) h =
      let at = h 0 v refl in
      let number : suc at.0 ≡ n = omega (arith, at.2) in
      let kept : keeping_test (record { name = c.name; version = n }) (version_of f.items f.versions.nodes v) ≡ lives.is_kept v =
      ap (λ m. keeping_test (record { name = c.name; version = m }) (version_of f.items f.versions.nodes v)) (sym number) ∙ kept_same i at.0 c v e at.1 in
      ap₂ (λ b rs. cond b (open_in passed f.versions (record { name = c.name; version = n }) v.root) [] ++ rs) kept
      (same_from i c e (suc n) vs (λ k w q. let next = h (suc k) w q in (next.0, next.1, omega (arith, next.2))))

  same_of : (cs : List tables.Circuit) → ((j : ℕ) (c : tables.Circuit) → slice_get cs j ≡ Some c → (i : ℕ) × (slice_get f.versions.circuits i ≡ Some c))
      → opened_of t.published f.items f.versions keeping_test cs ≡ open_of passed f.versions cs
  same_of [] h = refl
  same_of (c ∷ cs) h = let at = h 0 c refl in ap₂ (λ a b. a ++ b) (same_from at.0 c at.1 1 c.versions (λ k v q. (k, q, omega arith))) (same_of cs (λ j d q. h (suc j) d q))

  -- LAW: the candidates among the kept versions are the ready segments of the tables
  pub kept_candidates : map ready_of (candidates t.published (kept_versions t)) ≡ open_segments passed f.versions
  kept_candidates = candidates_told keeping_test keeps_kept ∙ same_of f.versions.circuits (λ j c e. (j, e))

  pub kept_seen : AllByRecursion (SeesCandidate f t) (candidates t.published (kept_versions t))
  kept_seen = all_seen keeping_test keeps_kept

  done_from : (i : ℕ) (c : tables.Circuit) → slice_get f.versions.circuits i ≡ Some c → (n : ℕ) (vs : List tables.Version)
      → ((k : ℕ) (v : tables.Version) → slice_get vs k ≡ Some v → (m : ℕ) × (slice_get c.versions m ≡ Some v) × (suc m ≡ n + k))
      → list_all (is_done passed f.versions) vs ≡ true → DoneFrom t.published f.items f.versions keeping_test c.name n vs
  done_from i c e n [] h d = tt
  done_from i c e n (v ∷ vs) h d =
      let at = h 0 v refl in
      let number : suc at.0 ≡ n = omega (arith, at.2) in
      let both = and_both (is_done passed f.versions v) (list_all (is_done passed f.versions) vs) d in (
        λ q. done v (keeps_kept i at.0 c v e at.1 (ap (λ m. keeping_test (record { name = c.name; version = m }) (version_of f.items f.versions.nodes v)) number ∙ q)) both.0,
        done_from i c e (suc n) vs (λ k w q. let next = h (suc k) w q in (next.0, next.1, omega (arith, next.2))) both.1,
      )
    where
      and_both : (a b : Bool) → (a && b) ≡ true → (a ≡ true) × (b ≡ true)
      and_both true b e = (refl, e)
      and_both false b e = cc

      done : (w : tables.Version) → lives.is_kept w ≡ true → is_done passed f.versions w ≡ true → settled_in f.versions.kept passed (root_tree f.versions.nodes w.root) ≡ true
      done w k e = ap (λ b. not b || settled_in f.versions.kept passed (root_tree f.versions.nodes w.root)) (sym k) ∙ e

  done_all : (cs : List tables.Circuit) → ((j : ℕ) (c : tables.Circuit) → slice_get cs j ≡ Some c → (i : ℕ) × (slice_get f.versions.circuits i ≡ Some c))
      → list_all (λ (c : tables.Circuit). list_all (is_done passed f.versions) c.versions) cs ≡ true → CircuitsDone t.published f.items f.versions keeping_test cs
  done_all [] h d = tt
  done_all (c ∷ cs) h d =
      let at = h 0 c refl in
      let both = and_both (list_all (is_done passed f.versions) c.versions) (list_all (λ (e : tables.Circuit). list_all (is_done passed f.versions) e.versions) cs) d in
      (done_from at.0 c at.1 1 c.versions (λ k v q. (k, q, omega arith)) both.0, done_all cs (λ j e q. h (suc j) e q) both.1)
    where
      and_both : (a b : Bool) → (a && b) ≡ true → (a ≡ true) × (b ≡ true)
      and_both true b e = (refl, e)
      and_both false b e = cc

  -- LAW: where the tables say that all kept versions are settled, they are
  pub kept_settled : all_settled passed f.versions ≡ true → AreSettled t.published (kept_versions t)
  kept_settled d = settled_told keeping_test keeps_kept (done_all f.versions.circuits (λ j c e. (j, e)) d)
