-- What is published for a claim, in the state.
use Rattle.std.proofs.Common.{◌≡◌, ℕ, zero, suc, ◌+◌, ◌<◌, ◌≤◌, List, [], ◌∷◌, length, refl, sym, ap, ap₂, ◌∙◌, subst, arith, Bool, true, false, not, ◌&&◌, eqb}
use Rattle.std.specs.Prelude.{Option, Some, None, IsSome, map, slice_get, slice_set, slice_index_or, is_none, Contains}
use Rattle.std.specs.List.{AllByRecursion}
use Rattle.std.proofs.lemmas.Bool.{eqb-true}
use Rattle.std.specs.declared.sync.Arc.{Arc}
use Rattle.std.specs.declared.alloc.Global.{Global}
use Rattle.seg_tree.specs.Trees.{Tree, leaf, branch, name_of, run}
use Rattle.seg_tree.specs.Table.{tree, root_tree}
use Rattle.qasm_expand.specs.Circuits.{TableOf}
use Rattle.ps_script.specs.declared.name.Place.{Place}
use Rattle.ps_versions.specs.Held as tables
use Rattle.ps_versions.specs.Lives as lives
use Rattle.ps_versions.specs.Lookup as lookup
use Rattle.ps_versions.specs.Lookup.{place_of, circuit_in, version_in, root_of}
use Rattle.ps_versions.specs.Records.{record_at, HasSumIn, HasSumAt, ChildrenHaveSums}
use Rattle.ps_versions.specs.Walks.{has_name}
use Rattle.ps_versions.specs.Questions.{segments_maybe, is_sum, kept_by, has_sum, sides_have_sums}
use Rattle.ps_versions.specs.Reached.{is_segment, is_reached}
use Rattle.ps_versions.proofs.Reaching.{reached_by}
use Rattle.ps_reach.specs.declared.record.Record.{Record}
use Rattle.ps_journal.specs.Mapped.{mapped}
use Rattle.ps_journal.specs.declared.seats.Claim.{Claim}
use Rattle.ps_journal.specs.declared.replies.Reply.{Reply}
use Rattle.ps_journal.specs.declared.replies.Reply.TheVariants as reply
use Rattle.ps_journal.specs.State.{Item, Version, Circuit, State, Finds, claim_of, unclaimed, most_terms}
use Rattle.ps_journal.specs.Segments.{segments_of, published_at}
use Rattle.ps_journal.specs.Publishing.{Claims, IsOpen, IsOf, IsRightRecord, size, published, refused, Publishes}
use Rattle.ps_journal.specs.Publishing.{dropped, already, stands, other_run, no_room, publishes}
use Rattle.ps_journal.proofs.Mapping.{name-mapped, run-mapped}
use Rattle.ps_views.specs.Older.{number_in, number_of, IsOlder}
use Rattle.ps_views.specs.Views.{item_at, run_at, published_of, version_of, circuit_of}
use Rattle.ps_views.specs.Fields.{Fields, IsSound, held_at, claim_at, passed}
use Rattle.ps_views.specs.Stands.{Stands, Leaves}
use Rattle.ps_views.specs.Finds.{IsAt, FindsHeld}
use Rattle.ps_views.specs.Objections.{Objects, IsFree, IsRecordAt}
use Rattle.ps_views.specs.Objections.{ended_by, filed_by}
use Rattle.ps_views.specs.declared.filed.Filed.{Filed}
use Rattle.ps_views.proofs.Lists.{all_at, get_contained, any_passing}
use Rattle.ps_views.proofs.Forests.{older_root, older_segments}
use Rattle.ps_views.proofs.Knowledge.{segments_of_mapped}
use Rattle.ps_views.proofs.Lookups.{finds_held}
use Rattle.ps_views.proofs.ReadyLaws.{rooted_at}
use Rattle.ps_views.proofs.SeatLaws.{with_claims, with_pins, unclaimed_sound, unclaimed_stands, refused_stands}
use Rattle.ps_views.proofs.Storing.{with_filed, filed_stands}

mapped_get : {A B : Type 0} (g : A → B) (xs : List A) (j : ℕ) (x : A) → slice_get xs j ≡ Some x → slice_get (map g xs) j ≡ Some (g x)
mapped_get g [] j x e = cc
mapped_get g (y ∷ xs) zero x e = let same : y ≡ x = cc in ap (λ z. Some (g z)) same
mapped_get g (y ∷ xs) (suc j) x e = mapped_get g xs j x e

name_back : (k : ℕ) (n : Option ℕ) → has_name k n ≡ true → n ≡ Some k
name_back k None e = cc
name_back k (Some m) e = ap Some (eqb-true m k e)

-- ---- a segment of a version of the tables
module _ (f : Fields) (sound : IsSound f) where
  -- the node's tree among the segments of a version
  pub record IsSegmentOf (v : tables.Version) (node : ℕ) : Type 0 where
    pub at : ℕ
    pub within : slice_get (segments_maybe (root_tree f.versions.nodes v.root)) at ≡ Some (tree f.versions.nodes node)
    pub named : name_of (tree f.versions.nodes node) ≡ Some node
    pub there : node < length f.versions.nodes

  pub segment_of : (p : Place) (v : tables.Version) (node : ℕ) → held_at f.versions p ≡ Some v → is_segment f.versions (Some v) node ≡ true → IsSegmentOf v node
  segment_of p v node e seg =
      let ts = segments_maybe (root_tree f.versions.nodes v.root) in
      let hit = any_passing (λ s. has_name node (name_of s)) ts seg in
      let name : name_of hit.item ≡ Some node = name_back node (name_of hit.item) hit.passes in
      let older : IsOlder f.versions.nodes (length f.versions.nodes) hit.item = all_at (IsOlder f.versions.nodes (length f.versions.nodes)) ts hit.at hit.item (older_of v.root (rooted_at f sound p v e)) hit.there in
      let number : number_of hit.item ≡ node = ap number_in name in
      let same : tree f.versions.nodes node ≡ hit.item = ap (tree f.versions.nodes) (sym number) ∙ older.same in
      record { at = hit.at; within = hit.there ∙ ap Some (sym same); named = ap name_of same ∙ name; there = omega (arith, number, older.below) }
    where
      older_of : (root : Option ℕ) → ((k : ℕ) → root ≡ Some k → k < length f.versions.nodes) → AllByRecursion (IsOlder f.versions.nodes (length f.versions.nodes)) (segments_maybe (root_tree f.versions.nodes root))
      older_of None h = tt
      older_of (Some k) h = older_segments f.versions.nodes (length f.versions.nodes) (tree f.versions.nodes k) sound.grown (omega arith) (older_root f.versions.nodes k (length f.versions.nodes) sound.grown (h k refl) (h k refl))

  -- a claim's version is there
  pub claim_there : (o : Option tables.Version) (node : ℕ) → is_segment f.versions o node ≡ true → IsSome o
  claim_there None node e = cc
  claim_there (Some v) node e = refl

  claim_node : (p : Place) (o : Option tables.Version) (node : ℕ) → held_at f.versions p ≡ o → is_segment f.versions o node ≡ true → node < length f.versions.nodes
  claim_node p None node q e = cc
  claim_node p (Some v) node q e = (segment_of p v node q e).there

  -- LAW: a claim's node is a node
  pub claim_within : (p : Place) (node : ℕ) → is_segment f.versions (held_at f.versions p) node ≡ true → node < length f.versions.nodes
  claim_within p node e = claim_node p (held_at f.versions p) node refl e

  sum_in : (o : Option (ℕ × Filed)) → is_sum passed o ≡ true → HasSumIn passed o
  sum_in None e = cc
  sum_in (Some r) e = flip (passed r.1) e
    where
      flip : (b : Bool) → not b ≡ true → b ≡ false
      flip true e = cc
      flip false e = refl

  sum_at : (name : Option ℕ) → is_sum passed (kept_by f.versions.kept name) ≡ true → HasSumAt passed f.versions.kept name
  sum_at None e = cc
  sum_at (Some k) e = sum_in (record_at f.versions.kept k) e

  pub sides_sums : (s : Tree ℕ) → sides_have_sums f.versions.kept passed s ≡ true → ChildrenHaveSums passed f.versions.kept s
  sides_sums (leaf name items) e = tt
  sides_sums (branch name l r) e =
      let both = split (has_sum f.versions.kept passed l) (has_sum f.versions.kept passed r) e in
      (sum_at (name_of l) both.0, sum_at (name_of r) both.1)
    where
      split : (a b : Bool) → (a && b) ≡ true → (a ≡ true) × (b ≡ true)
      split true b e = (refl, e)
      split false b e = cc

  -- a version without an end is kept
  pub kept_where : (p : Place) (v : tables.Version) → held_at f.versions p ≡ Some v → v.ended ≡ None → lives.is_kept v ≡ true
  kept_where p v e ended = by (place_of f.versions.circuits p.name) e
    where
      kept_of : lives.IsLife v → lives.is_kept v ≡ true
      kept_of life = sym life.ended ∙ ap is_none ended

      by_number : (i n : ℕ) (c : tables.Circuit) → slice_get f.versions.circuits i ≡ Some c → version_in (Some c) n ≡ Some v → lives.is_kept v ≡ true
      by_number i zero c q e = absurd (no e)
        where
          no : None ≡ Some v → ⊥
          no q = cc
      by_number i (suc n) c q e = kept_of (sound.lives i n c v q e)

      by_circuit : (i : ℕ) (o : Option tables.Circuit) → slice_get f.versions.circuits i ≡ o → version_in o p.version ≡ Some v → lives.is_kept v ≡ true
      by_circuit i None q e = absurd (no e)
        where
          no : None ≡ Some v → ⊥
          no q = cc
      by_circuit i (Some c) q e = by_number i p.version c q e

      by : (at : Option ℕ) → version_in (circuit_in f.versions.circuits at) p.version ≡ Some v → lives.is_kept v ≡ true
      by None e = absurd (no e)
        where
          no : None ≡ Some v → ⊥
          no q = cc
      by (Some i) e = by_circuit i (slice_get f.versions.circuits i) refl e

  free_kept : (claim : Claim) (free : IsFree f claim) → lives.is_kept free.version ≡ true
  free_kept claim free = kept_where claim.place free.version free.held free.ended

  -- LAW: what storing for a claim asks
  pub record IsStorableFor (claim : Claim) : Type 0 where
    pub there : claim.node < length f.versions.nodes
    pub ready : ChildrenHaveSums passed f.versions.kept (tree f.versions.nodes claim.node)
    pub reached : is_reached f.versions claim.node ≡ true

  pub storable_for : (seat : ℕ) (claim : Claim) → claim_at f seat ≡ Some claim → IsFree f claim → IsStorableFor claim
  storable_for seat claim e free =
      let seg = sound.claimed seat claim e in
      let kept = free_kept claim free in
      record {
        there = claim_within claim.place claim.node seg;
        ready = sides_sums (tree f.versions.nodes claim.node) (sound.ready seat claim free.version e free.held kept);
        reached = reached_by f.versions claim.place.name claim.place.version free.version claim.node free.held kept (ap (λ o. is_segment f.versions o claim.node) (sym free.held) ∙ seg);
      }

-- ---- in the state
module _ (f : Fields) (t : State) (sound : IsSound f) (so : Stands f t) (seat : ℕ) (claim : Claim) (is : claim_at f seat ≡ Some claim) where
  -- the claim, with the circuit that it is on
  pub record ClaimsIn (v : tables.Version) : Type 0 where
    pub gates : TableOf
    pub circuit : tables.Circuit
    pub found : lookup.circuit_at f.versions.circuits claim.place.name ≡ Some circuit
    pub claims : Claims t seat claim (circuit_of f.items f.versions.nodes gates circuit) (version_of f.items f.versions.nodes v) (mapped (item_at f.items) (tree f.versions.nodes claim.node))

  pub claims_in : (v : tables.Version) → held_at f.versions claim.place ≡ Some v → ClaimsIn v
  claims_in v e =
      let found = finds_held f t so sound.tabled claim.place v e in
      let seg = segment_of f sound claim.place v claim.node e (ap (λ o. is_segment f.versions o claim.node) (sym e) ∙ sound.claimed seat claim is) in
      record {
        gates = found.gates;
        circuit = found.held;
        found = ap (circuit_in f.versions.circuits) found.at.place ∙ found.at.circuit;
        claims = record {
          claim_is = ap (λ cs. slice_index_or cs seat None) so.claims ∙ is;
          found = found.finds;
          within = subst (λ ts. Contains ts (mapped (item_at f.items) (tree f.versions.nodes claim.node))) (sym (segments_of_mapped (item_at f.items) (root_tree f.versions.nodes v.root)))
              (get_contained (map (mapped (item_at f.items)) (segments_maybe (root_tree f.versions.nodes v.root))) seg.at (mapped (item_at f.items) (tree f.versions.nodes claim.node))
              (mapped_get (mapped (item_at f.items)) (segments_maybe (root_tree f.versions.nodes v.root)) seg.at (tree f.versions.nodes claim.node) seg.within));
          named = name-mapped (item_at f.items) (tree f.versions.nodes claim.node) ∙ seg.named;
        };
      }

  record_told : (v : tables.Version) → held_at f.versions claim.place ≡ Some v → lives.is_kept v ≡ true → published_at t.published claim.node ≡ published_of claim.node (record_at f.versions.kept claim.node)
  record_told v e kept = so.published claim.node
      (reached_by f.versions claim.place.name claim.place.version v claim.node e kept (ap (λ o. is_segment f.versions o claim.node) (sym e) ∙ sound.claimed seat claim is))

  is_open : (free : IsFree f claim) → IsOpen t claim (version_of f.items f.versions.nodes free.version)
  is_open free = record { kept = free.ended; free = record_told free.version free.held (free_kept f sound claim free) ∙ ap (published_of claim.node) free.lacks }

  -- LAW: what stands against publishing
  pub objected : (i : ℕ) (kept : Option (Arc Record Global)) (r : Reply) → Objects f claim (Some r) → Publishes t i seat kept r (unclaimed seat t)
  objected i kept r (ended_by {v} {j} e ended) = dropped (claims_in v e).claims ended
  objected i kept r (filed_by {v} {e} held ended there) =
      already (claims_in v held).claims ended (record_told v held (kept_where f sound claim.place v held ended) ∙ ap (published_of claim.node) there)

  -- LAW: the claim stands
  pub claim_stands : (i : ℕ) (free : IsFree f claim) → Publishes t i seat None reply.Stands t
  claim_stands i free = stands (claims_in free.version free.held).claims (is_open free)

  of_record : (r : Record) (v : tables.Version) (c : ClaimsIn v) → IsRecordAt f claim r → IsOf (circuit_of f.items f.versions.nodes c.gates c.circuit) (mapped (item_at f.items) (tree f.versions.nodes claim.node)) r
  of_record r v c h = record { qubits = h.qubits c.circuit c.found; items = h.items ∙ sym (run-mapped (item_at f.items) (tree f.versions.nodes claim.node)) }

  no_record : (r : Record) (v : tables.Version) (c : ClaimsIn v) → IsOf (circuit_of f.items f.versions.nodes c.gates c.circuit) (mapped (item_at f.items) (tree f.versions.nodes claim.node)) r → IsRecordAt f claim r
  no_record r v c h = record {
    qubits = λ d e. h.qubits ∙ ap (λ (x : tables.Circuit). x.qubits) (one c.circuit d (sym c.found ∙ e));
    items = h.items ∙ run-mapped (item_at f.items) (tree f.versions.nodes claim.node);
  } where
    one : (a b : tables.Circuit) → Some a ≡ Some b → a ≡ b
    one a b e = cc

  -- LAW: a record of something else
  pub is_other : (i : ℕ) (r : Arc Record Global) → IsFree f claim → (IsRecordAt f claim r.value → ⊥) → Publishes t i seat (Some r) reply.OtherRun (unclaimed seat t)
  is_other i r free h = let c = claims_in free.version free.held in other_run c.claims (is_open free) (λ q. h (no_record r.value free.version c q))

  -- LAW: no room
  pub is_crowded : (i : ℕ) (r : Arc Record Global) → IsFree f claim → IsRecordAt f claim r.value → most_terms < f.terms + size r.value
      → Publishes t i seat (Some r) (reply.NoRoom (f.terms + size r.value)) (refused seat (f.terms + size r.value) (unclaimed seat t))
  is_crowded i r free h more =
      let c = claims_in free.version free.held in
      subst (λ n. Publishes t i seat (Some r) (reply.NoRoom (n + size r.value)) (refused seat (n + size r.value) (unclaimed seat t))) so.terms
      (no_room c.claims (is_open free) (of_record r.value free.version c h) (omega (arith, so.terms, more)))

  -- LAW: it is published
  pub is_published : (i : ℕ) (r : Arc Record Global) → IsFree f claim → IsRecordAt f claim r.value → f.terms + size r.value ≤ most_terms → IsRightRecord r.value
      → Publishes t i seat (Some r) reply.Published (published i claim.node r.value (unclaimed seat t))
  is_published i r free h few right =
      let c = claims_in free.version free.held in
      publishes c.claims (is_open free) (of_record r.value free.version c h) (omega (arith, so.terms, few)) right
