-- The segment that is given to a seat, in the state.
use Rattle.std.proofs.Common.{◌≡◌, ℕ, zero, suc, ◌+◌, ◌<◌, ◌≤◌, List, [], ◌∷◌, ◌++◌, length, refl, sym, ap, ap₂, ◌∙◌, subst, arith, Bool, true, false, cond, ◌&&◌, ◌||◌}
use Rattle.std.specs.Prelude.{Option, Some, None, map, slice_get, slice_set}
use Rattle.std.specs.List.{AllByRecursion, list_all}
use Rattle.seg_tree.specs.Trees.{Tree, leaf, branch, name_of}
use Rattle.seg_tree.specs.Table.{tree, root_tree}
use Rattle.ps_script.specs.declared.name.Place.{Place}
use Rattle.ps_versions.specs.Held as tables
use Rattle.ps_versions.specs.Held.{Held}
use Rattle.ps_versions.specs.Lives as lives
use Rattle.ps_versions.specs.Lookup as lookup
use Rattle.ps_versions.specs.Lookup.{circuit_in, version_in, root_of}
use Rattle.ps_versions.specs.Records.{record_at}
use Rattle.ps_versions.specs.Questions as held
use Rattle.ps_versions.specs.Questions.{segments, settled_in}
use Rattle.ps_versions.specs.Choices.{open_in, open_segments, all_settled, lightest}
use Rattle.ps_versions.specs.declared.data.Ready.{Ready}
use Rattle.ps_reach.specs.declared.record.Record.{Record}
use Rattle.ps_reach.specs.declared.task.Task.{Task as ATask}
use Rattle.ps_reach.specs.declared.task.Work.{Work}
use Rattle.ps_reach.specs.declared.task.Work.TheVariants.{Items, Children}
use Rattle.ps_journal.specs.Mapped.{mapped}
use Rattle.ps_journal.specs.declared.seats.Pin.{Pin}
use Rattle.ps_journal.specs.declared.seats.Claim.{Claim}
use Rattle.ps_journal.specs.declared.replies.Reply.TheVariants as reply
use Rattle.ps_journal.specs.State.{Item, Published, Version, Circuit, State, pin_of, unclaimed}
use Rattle.ps_journal.specs.Segments.{published_for}
use Rattle.ps_journal.specs.Keeping.{same_place, same_place_maybe, pins_place}
use Rattle.ps_journal.specs.Claiming.{Standing, all_versions, Candidate, candidates, AreSettled, IsFirstOfFewest, IsWorkOf, IsPublishedFor, IsTaskOf, LooksAt, Nexts, claimed, kept_versions, pinned_versions, SecondComesTo}
use Rattle.ps_journal.specs.Claiming.{all, own, no_pin, idle, settled, gives}
use Rattle.ps_journal.specs.Summing.{ComesToAt, ComesTo, of_nothing, of_root, of_limit}
use Rattle.ps_views.specs.Older.{number_in}
use Rattle.ps_views.specs.Views.{item_at, version_of, published_of}
use Rattle.ps_views.specs.Fields.{Fields, IsSound, held_at, passed, pin_at}
use Rattle.ps_views.specs.Stands.{Stands}
use Rattle.ps_views.specs.Pinned.{KeptAt, HasPinned}
use Rattle.ps_views.specs.OpenWhere.{open_where_from, open_where, open_pinned, AreSettledAt}
use Rattle.ps_views.specs.Tasks.{IsFiledAt, IsWorkAt, IsTaskAt, claims_with}
use Rattle.ps_views.specs.declared.filed.Filed.{Filed}
use Rattle.ps_views.proofs.Alike.{same_place_parts}
use Rattle.ps_views.proofs.Counting.{set_twice}
use Rattle.ps_views.proofs.Lists.{all_right, all_weaker}
use Rattle.ps_views.proofs.Knowledge.{AllKnown, for_known, root_known, left_known, right_known}
use Rattle.ps_views.proofs.Candidates.{ready_of, opened_from, opened_of, CircuitsDone, DoneFrom}
use Rattle.ps_views.proofs.Fewest.{weight_by, IsNamed, Chosen, chosen}
use Rattle.ps_views.proofs.CandidateLaws.{SeesCandidate, kept_candidates, kept_seen, kept_settled, candidates_told, all_seen, settled_told}
use Rattle.ps_views.proofs.SeatLaws.{claimed_stands}

-- ---- what computes a segment
module _ (f : Fields) (t : State) where
  filed_told : (s : Tree ℕ) (r : Record) → AllKnown t.published f.versions.kept (segments s) → IsFiledAt f s r → IsPublishedFor t.published (mapped (item_at f.items) s) r
  filed_told s r known h =
      let here = root_known t.published f.versions.kept (item_at f.items) s known in
      let number : here.number ≡ h.number = some here.number h.number (sym here.named ∙ h.named) in (
        record { segment = here.number; entry = h.entry.0; kept = h.entry.1.shared.value },
        for_known t.published f.versions.kept (item_at f.items) s here ∙ ap (published_of here.number) (ap (record_at f.versions.kept) number ∙ h.kept),
        h.same,
      )
    where
      some : (a b : ℕ) → Some a ≡ Some b → a ≡ b
      some a b e = cc

  work_told : (s : Tree ℕ) (w : Work) → AllKnown t.published f.versions.kept (segments s) → IsWorkAt f s w → IsWorkOf t.published (mapped (item_at f.items) s) w
  work_told (leaf name items) (Items a) known h = h
  work_told (leaf name items) (Children a b) known h = h
  work_told (branch name l r) (Items a) known h = h
  work_told (branch name l r) (Children a b) known h = (
    filed_told l a.value (left_known t.published f.versions.kept (item_at f.items) name l r known) h.0,
    filed_told r b.value (right_known t.published f.versions.kept (item_at f.items) name l r known) h.1,
  )

  -- LAW: a task of the tables is one of the state
  pub task_told : (i seat : ℕ) (x : Candidate) (r : Ready) (task : ATask) → SeesCandidate f t x → ready_of x ≡ r → IsTaskAt f i seat r task → IsTaskOf t i seat x task
  task_told i seat x r task sees told h =
      let number : r.node ≡ sees.number = ap (λ (y : Ready). y.node) (sym told) ∙ node (name_of x.segment) sees.named in
      let s = tree f.versions.nodes sees.number in
      record {
        seat_is = h.seat_is;
        claim_is = h.claim_is;
        qubits = h.qubits sees.circuit (ap (λ (y : Ready). lookup.circuit_at f.versions.circuits y.place.name) (sym told) ∙ sees.found) ∙ sym sees.qubits;
        work = subst (λ y. IsWorkOf t.published y task.work) (sym sees.same) (work_told s task.work sees.known (subst (λ k. IsWorkAt f (tree f.versions.nodes k) task.work) number h.work));
      }
    where
      node : (n : Option ℕ) → n ≡ Some sees.number → number_in n ≡ sees.number
      node n e = ap number_in e

-- ---- which candidate is picked
pub record Picks (f : Fields) (t : State) (ss : List Standing) (r : Ready) : Type 0 where
  pub candidate : Candidate
  pub told : ready_of candidate ≡ r
  pub first : IsFirstOfFewest t.claims (candidates t.published ss) candidate
  pub sees : SeesCandidate f t candidate

module _ (f : Fields) (t : State) (sound : IsSound f) (so : Stands f t) where
  picks_from : (ss : List Standing) (rs : List Ready) (r : Ready) → map ready_of (candidates t.published ss) ≡ rs → AllByRecursion (SeesCandidate f t) (candidates t.published ss) → lightest (weight_by f.claims) rs ≡ Some r → Picks f t ss r
  picks_from ss rs r same seen e =
      let xs = candidates t.published ss in
      let named : AllByRecursion (IsNamed f.claims) xs = all_weaker (SeesCandidate f t) (IsNamed f.claims) (λ x s. record { number = s.number; named = s.named }) xs seen in
      let c = chosen f.claims xs r named (ap (lightest (weight_by f.claims)) same ∙ e) in
      record {
        candidate = c.candidate;
        told = c.told;
        first = subst (λ cs. IsFirstOfFewest cs xs c.candidate) (sym so.claims) c.first;
        sees = (all_right (SeesCandidate f t) c.first.before (c.candidate ∷ c.first.behind) (subst (AllByRecursion (SeesCandidate f t)) c.first.whole seen)).0;
      }

  -- LAW: of all kept versions
  pub picks_kept : (r : Ready) → lightest (weight_by f.claims) (open_segments passed f.versions) ≡ Some r → Picks f t (kept_versions t) r
  picks_kept r e = picks_from (kept_versions t) (open_segments passed f.versions) r (kept_candidates f t sound so) (kept_seen f t sound so) e

  module _ (pin : Pin) (has : HasPinned f pin) where
    abbrev named_by : Place → Version → Bool
    named_by p v = pins_place p pin

    at_index : (i k : ℕ) (c : tables.Circuit) (v : tables.Version) → slice_get f.versions.circuits i ≡ Some c → slice_get c.versions k ≡ Some v → held_at f.versions (record { name = c.name; version = suc k }) ≡ Some v
    at_index i k c v ci vk = ap (λ o. version_in (circuit_in f.versions.circuits o) (suc k)) (sound.named i c ci) ∙ ap (λ o. version_in o (suc k)) ci ∙ vk

    same_held : (p q : Place) → same_place p q ≡ true → held_at f.versions p ≡ held_at f.versions q
    same_held p q e = let parts = same_place_parts p q e in ap₂ (λ a m. held_at f.versions (record { name = a; version = m })) parts.0 parts.1

    -- what is true of both pinned versions is true of each that the pin names
    by_pin : (Q : tables.Version → Type 0) → ((v : tables.Version) → held_at f.versions pin.first ≡ Some v → Q v) → ((q : Place) (v : tables.Version) → pin.second ≡ Some q → held_at f.versions q ≡ Some v → Q v)
        → (p : Place) (v : tables.Version) → held_at f.versions p ≡ Some v → pins_place p pin ≡ true → Q v
    by_pin Q first second p v at e = by (same_place p pin.first) refl e
      where
        maybe : (o : Option Place) → pin.second ≡ o → same_place_maybe p o ≡ true → Q v
        maybe None q e = absurd (no e)
          where
            no : false ≡ true → ⊥
            no q = cc
        maybe (Some r) q e = second r v q (sym (same_held p r e) ∙ at)

        by : (b : Bool) → same_place p pin.first ≡ b → (b || same_place_maybe p pin.second) ≡ true → Q v
        by true q e = first v (sym (same_held p pin.first q) ∙ at)
        by false q e = maybe pin.second refl e

    one_version : (a b : tables.Version) → Some a ≡ Some b → a ≡ b
    one_version a b e = cc

    kept_one : (v : tables.Version) (p : Place) (k : KeptAt f p) → held_at f.versions p ≡ Some v → lives.is_kept v ≡ true
    kept_one v p k e = ap lives.is_kept (one_version v k.version (sym e ∙ k.version_is)) ∙ k.kept

    keeps_named : (i k : ℕ) (c : tables.Circuit) (v : tables.Version) → slice_get f.versions.circuits i ≡ Some c → slice_get c.versions k ≡ Some v
        → named_by (record { name = c.name; version = suc k }) (version_of f.items f.versions.nodes v) ≡ true → lives.is_kept v ≡ true
    keeps_named i k c v ci vk e = by_pin (λ w. lives.is_kept w ≡ true) (λ w h. kept_one w pin.first has.first h) (λ q w s h. kept_one w q (has.second q s) h)
        (record { name = c.name; version = suc k }) v (at_index i k c v ci vk) e

    -- the segments of the tables
    same_from : (name : List ℕ) (n : ℕ) (vs : List tables.Version) → opened_from t.published f.items f.versions named_by name n vs ≡ open_where_from (λ p. pins_place p pin) f.versions name n vs
    same_from name n [] = refl
    same_from name n (v ∷ vs) = ap (λ rs. cond (pins_place (record { name = name; version = n }) pin) (open_in passed f.versions (record { name = name; version = n }) v.root) [] ++ rs) (same_from name (suc n) vs)

    same_of : (cs : List tables.Circuit) → opened_of t.published f.items f.versions named_by cs ≡ open_where (λ p. pins_place p pin) f.versions cs
    same_of [] = refl
    same_of (c ∷ cs) = ap₂ (λ a b. a ++ b) (same_from c.name 1 c.versions) (same_of cs)

    -- LAW: of the versions that a pin names
    pub picks_pinned : (r : Ready) → lightest (weight_by f.claims) (open_pinned f.versions pin) ≡ Some r → Picks f t (pinned_versions t pin) r
    picks_pinned r e = picks_from (pinned_versions t pin) (open_pinned f.versions pin) r
        (candidates_told f t sound so named_by keeps_named ∙ same_of f.versions.circuits) (all_seen f t sound so named_by keeps_named) e

    -- ---- where they are settled
    settled_one : (v : tables.Version) (p : Place) → held.is_settled passed f.versions (held_at f.versions p) ≡ true → held_at f.versions p ≡ Some v → settled_in f.versions.kept passed (root_tree f.versions.nodes v.root) ≡ true
    settled_one v p s e = ap (λ o. settled_in f.versions.kept passed (root_tree f.versions.nodes (root_of o))) (sym e) ∙ s

    done_from : AreSettledAt f pin → (i : ℕ) (c : tables.Circuit) → slice_get f.versions.circuits i ≡ Some c → (n : ℕ) (vs : List tables.Version)
        → ((k : ℕ) (v : tables.Version) → slice_get vs k ≡ Some v → (m : ℕ) × (slice_get c.versions m ≡ Some v) × (suc m ≡ n + k)) → DoneFrom t.published f.items f.versions named_by c.name n vs
    done_from s i c e n [] h = tt
    done_from s i c e n (v ∷ vs) h = (
      λ q. let at = h 0 v refl in let number : suc at.0 ≡ n = omega (arith, at.2) in
          by_pin (λ w. settled_in f.versions.kept passed (root_tree f.versions.nodes w.root) ≡ true) (λ w g. settled_one w pin.first s.first g) (λ p w two g. settled_one w p (s.second p two) g)
          (record { name = c.name; version = n }) v (ap (λ m. held_at f.versions (record { name = c.name; version = m })) (sym number) ∙ at_index i at.0 c v e at.1) q,
      done_from s i c e (suc n) vs (λ k w q. let at = h (suc k) w q in (at.0, at.1, omega (arith, at.2))),
    )

    done_all : AreSettledAt f pin → (cs : List tables.Circuit) → ((j : ℕ) (c : tables.Circuit) → slice_get cs j ≡ Some c → (i : ℕ) × (slice_get f.versions.circuits i ≡ Some c)) → CircuitsDone t.published f.items f.versions named_by cs
    done_all s [] h = tt
    done_all s (c ∷ cs) h = let at = h 0 c refl in (done_from s at.0 c at.1 1 c.versions (λ k v q. (k, q, omega arith)), done_all s cs (λ j d q. h (suc j) d q))

    -- LAW: the versions that a pin names are settled
    pub pinned_settled : AreSettledAt f pin → AreSettled t.published (pinned_versions t pin)
    pinned_settled s = settled_told f t sound so named_by keeps_named (done_all s f.versions.circuits (λ j c e. (j, e)))

-- ---- what is answered, once the old claim has ended
module _ (f : Fields) (t : State) (i seat : ℕ) (sound : IsSound f) (so : Stands f (unclaimed seat t)) where
  -- LAW: a task is given
  pub given_nexts : (pinned : Bool) (ss : List Standing) (r : Ready) (task : ATask) → LooksAt t seat pinned ss → Picks f (unclaimed seat t) ss r → IsTaskAt f i seat r task
      → Nexts t i seat pinned (reply.Task task) (claimed i seat r.place r.node t)
  given_nexts pinned ss r task looks p h =
      let named : name_of p.candidate.segment ≡ Some r.node = p.sees.named ∙ ap Some (sym (node (name_of p.candidate.segment) p.sees.named) ∙ ap (λ (y : Ready). y.node) p.told) in
      subst (λ (q : Place). Nexts t i seat pinned (reply.Task task) (claimed i seat q r.node t)) (ap (λ (y : Ready). y.place) p.told)
      (gives looks p.first named (task_of (task_told f (unclaimed seat t) i seat p.candidate r task p.sees p.told h)))
    where
      node : (n : Option ℕ) → n ≡ Some p.sees.number → number_in n ≡ p.sees.number
      node n e = ap number_in e

      task_of : IsTaskOf (unclaimed seat t) i seat p.candidate task → IsTaskOf t i seat p.candidate task
      task_of k = record { seat_is = k.seat_is; claim_is = k.claim_is; qubits = k.qubits; work = k.work }

  pub given_stands : (r : Ready) → Stands (claims_with i seat r f) (claimed i seat r.place r.node t)
  given_stands r = subst (λ cs. Stands (claims_with i seat r f) (record t { claims = cs })) (set_twice t.claims seat None (Some (record { place = r.place; node = r.node; entry = i }))) (claimed_stands f (unclaimed seat t) i seat r.node r.place so)

  -- LAW: nothing is left
  pub idle_nexts : all_settled passed f.versions ≡ true → Nexts t i seat false reply.Idle (unclaimed seat t)
  idle_nexts e = idle (kept_settled f (unclaimed seat t) sound so e)

  pub settled_nexts : (pin : Pin) (a : Record) (b : Option Record) → HasPinned f pin → AreSettledAt f pin → pin_of t seat ≡ Some pin → ComesToAt (unclaimed seat t) pin.first a → SecondComesTo (unclaimed seat t) pin.second b
      → Nexts t i seat true (reply.Settled a b) (unclaimed seat t)
  settled_nexts pin a b has s is first second = settled is (pinned_settled f (unclaimed seat t) sound so pin has s) (comes pin.first a first) (second_comes pin.second b second)
    where
      same : (c : Circuit) (v : Version) (r : Record) → ComesTo (unclaimed seat t) c v r → ComesTo t c v r
      same c v r (of_nothing e h) = of_nothing e h
      same c v r (of_root e h p k) = of_root e h p k
      same c v r (of_limit e h g p k) = of_limit e h g p k

      comes : (p : Place) (r : Record) → ComesToAt (unclaimed seat t) p r → ComesToAt t p r
      comes p r h = record { circuit = h.circuit; version = h.version; found = record { circuit = h.found.circuit; version = h.found.version }; comes = same h.circuit h.version r h.comes }

      second_comes : (p : Option Place) (r : Option Record) → SecondComesTo (unclaimed seat t) p r → SecondComesTo t p r
      second_comes None None h = h
      second_comes None (Some b) h = h
      second_comes (Some p) None h = h
      second_comes (Some p) (Some b) h = comes p b h
