-- What a seat has pinned and claimed in later states, and the records that settled versions come to.
use Rattle.std.proofs.Common.{◌≡◌, ◌<◌, ◌≤◌, ◌+◌, ℕ, zero, suc, Bool, true, false, cond, ◌&&◌, ◌||◌, ◌⊎◌, inl, inr, List, [], ◌∷◌, ◌++◌, length, refl, sym, ap, ap₂, ◌∙◌, subst, arith, eqb, bytes_eq, append_assoc}
use Rattle.std.specs.Prelude.{Option, Some, None, slice_index_or, is_none, Contains}
use Rattle.std.specs.List.{list_any}
use Rattle.std.proofs.lemmas.Bool.{eq-eqb, eqb-true}
use Rattle.std.proofs.lemmas.List.Folds.{Any-from_list_any, list_any-from_Any, list_any_at}
use Rattle.seg_tree.specs.Trees.{Tree, name_of, run}
use Rattle.ps_desk.specs.Views.{IsBeginning}
use Rattle.ps_script.specs.declared.name.Place.{Place}
use Rattle.ps_reach.specs.declared.record.Record.{Record}
use Rattle.ps_reach.specs.declared.task.Task.{Task}
use Rattle.ps_journal.specs.declared.seats.Pin.{Pin}
use Rattle.ps_journal.specs.State.{Item, Version, Circuit, State, Published, Finds, version_at, pin_of, claim_of}
use Rattle.ps_journal.specs.Segments.{segments, segments_of, published_named, published_for, lacks, has_sum, has_passed, with_sum, with_limit, missing, is_settled, is_passed}
use Rattle.ps_journal.specs.Keeping.{same_place, same_place_maybe, pins_place, pins_place_maybe, is_pinned}
use Rattle.ps_journal.specs.Judging.{Belongs}
use Rattle.ps_journal.specs.History.{Entry}
use Rattle.ps_history.specs.Bounds.{missing_in, version_of, missing_at, missing_under, PinsMissing}
use Rattle.ps_history.specs.Stages.{Later, KeepsAt, AreAsWide, KeepsPlaces, HoldsPin, HasRoom, HoldsClaim, ComesWith, ComeWith}
use Rattle.ps_history.proofs.Lists.{some_same, count_less}
use Rattle.ps_history.proofs.Lookups.{same_bytes, bytes_same}
use Rattle.ps_history.proofs.Passing.{Passes, Stand, passes_later, later_then}

-- ---- one version is at a place
pub record Same (c d : Circuit) (v w : Version) : Type 0 where
  pub circuits : c ≡ d
  pub versions : v ≡ w

pub finds_same : (t : State) (p : Place) (c d : Circuit) (v w : Version) → Finds t p c v → Finds t p d w → Same c d v w
finds_same t p c d v w f g =
    let e : c ≡ d = some_same c d (sym f.circuit ∙ g.circuit) in
    record { circuits = e; versions = some_same v w (sym f.version ∙ ap (λ x. version_at x p.version) e ∙ g.version) }

-- ---- places
pub place_same : (p q : Place) → same_place p q ≡ true → p ≡ q
place_same p q e =
    let h = parts (bytes_eq p.name q.name) (eqb p.version q.version) e in
    ap₂ (λ (a : List ℕ) (b : ℕ). let r : Place = record { name = a; version = b } in r) (same_bytes p.name q.name h.0) (eqb-true p.version q.version h.1)
  where
    parts : (a b : Bool) → (a && b) ≡ true → (a ≡ true) × (b ≡ true)
    parts true b e = (refl, e)
    parts false b e = absurd (cc)

pub same_itself : (p : Place) → same_place p p ≡ true
same_itself p = ap₂ (λ a b. a && b) (bytes_same p.name) (eq-eqb p.version p.version refl)

or_left : (a b : Bool) → a ≡ true → (a || b) ≡ true
or_left a b e = ap (λ c. c || b) e

or_right : (a b : Bool) → b ≡ true → (a || b) ≡ true
or_right true b e = refl
or_right false b e = e

pub first_pinned : (pin : Pin) (p : Place) → pin.first ≡ p → pins_place p pin ≡ true
first_pinned pin p e = or_left (same_place p pin.first) (same_place_maybe p pin.second) (ap (same_place p) e ∙ same_itself p)

pub second_pinned : (pin : Pin) (p : Place) → pin.second ≡ Some p → pins_place p pin ≡ true
second_pinned pin p e = or_right (same_place p pin.first) (same_place_maybe p pin.second) (ap (same_place_maybe p) e ∙ same_itself p)

-- a place that the pin names is one of its two
pub pinned_which : (pin : Pin) (p : Place) → pins_place p pin ≡ true → (p ≡ pin.first) ⊎ ((q : Place) × (pin.second ≡ Some q) × (p ≡ q))
pinned_which pin p e = by (same_place p pin.first) refl pin.second refl e
  where
    by : (b : Bool) → same_place p pin.first ≡ b → (o : Option Place) → pin.second ≡ o → (b || same_place_maybe p o) ≡ true
        → (p ≡ pin.first) ⊎ ((q : Place) × (pin.second ≡ Some q) × (p ≡ q))
    by true s o r h = inl (place_same p pin.first s)
    by false s None r h = absurd (cc)
    by false s (Some q) r h = inr (q, r, place_same p q h)

index_below : {A : Type 0} (xs : List (Option A)) (n : ℕ) (a : A) → slice_index_or xs n None ≡ Some a → n < length xs
index_below [] n a e = absurd (cc)
index_below (x ∷ xs) zero a e = omega arith
index_below (x ∷ xs) (suc n) a e = let h : n < length xs = index_below xs n a e in omega arith

pub pin_pins : (pins : List (Option Pin)) (seat : ℕ) (pin : Pin) (p : Place) → slice_index_or pins seat None ≡ Some pin → pins_place p pin ≡ true
    → is_pinned pins p ≡ true
pin_pins pins seat pin p e k = list_any_at (pins_place_maybe p) pins seat None (index_below pins seat pin e) (ap (pins_place_maybe p) e ∙ k)

-- ---- pinned versions
keeps_at : (n : ℕ) (t new : State) (p : Place) → Passes n t new → is_pinned new.pins p ≡ true → KeepsAt t p → KeepsAt new p
keeps_at n t new p s e k =
    let a = s.again p k.circuit k.version k.found in
    record { circuit = a.circuit; version = a.version; found = a.found; kept = a.ended e ∙ k.kept }

pub as_wide : (t new : State) (p q : Place) → Later t new → KeepsAt t p → KeepsAt t q → AreAsWide t p q → AreAsWide new p q
as_wide t new p q l a b h c d v w f g =
    let x = l.finds p a.circuit a.version a.found in
    let y = l.finds q b.circuit b.version b.found in
    let i = finds_same new p c x.circuit v x.version f x.found in
    let j = finds_same new q d y.circuit w y.version g y.found in
    ap (λ z. z.qubits) i.circuits ∙ x.qubits ∙ h a.circuit b.circuit a.version b.version a.found b.found ∙ sym y.qubits ∙ sym (ap (λ z. z.qubits) j.circuits)

-- all versions that the pin names are kept where the step leaves them pinned
pub keeps_places : (n : ℕ) (t new : State) (pin : Pin) (first : Place) (second : Option Place) → Passes n t new
    → ((p : Place) → pins_place p pin ≡ true → is_pinned new.pins p ≡ true)
    → pin.first ≡ first → pin.second ≡ second → KeepsPlaces t first second → KeepsPlaces new first second
keeps_places n t new pin first None s h a b k = keeps_at n t new first s (h first (first_pinned pin first a)) k
keeps_places n t new pin first (Some second) s h a b k = (
  keeps_at n t new first s (h first (first_pinned pin first a)) k.0,
  keeps_at n t new second s (h second (second_pinned pin second b)) k.1,
  as_wide t new first second (passes_later n t new s) k.0 k.1 k.2,
)

-- the seat holds what it has pinned where a step leaves its pin, or notes a refusal in it
pub holds_pin : (n : ℕ) (t new : State) (seat : ℕ) (old pin : Pin) (first : Place) (second : Option Place) → Passes n t new
    → pin_of new seat ≡ Some pin → pin.first ≡ old.first → pin.second ≡ old.second
    → HoldsPin t seat old first second → HoldsPin new seat pin first second
holds_pin n t new seat old pin first second s e a b h = record {
  pin_is = e;
  first_is = a ∙ h.first_is;
  second_is = b ∙ h.second_is;
  keeps = keeps_places n t new pin first second s (λ p k. pin_pins new.pins seat pin p e k) (a ∙ h.first_is) (b ∙ h.second_is) h.keeps;
}

-- the version at a pinned place
pub kept_place : (t : State) (seat : ℕ) (pin : Pin) (first : Place) (second : Option Place) (p : Place) → HoldsPin t seat pin first second
    → pins_place p pin ≡ true → KeepsAt t p
kept_place t seat pin first second p h k = by second h.second_is h.keeps (pinned_which pin p k)
  where
    by : (o : Option Place) → pin.second ≡ o → KeepsPlaces t first o → (p ≡ pin.first) ⊎ ((q : Place) × (pin.second ≡ Some q) × (p ≡ q)) → KeepsAt t p
    by None r k (inl e) = subst (KeepsAt t) (sym (e ∙ h.first_is)) k
    by None r k (inr e) = let x : None ≡ Some e.0 = sym r ∙ e.1 in absurd (cc)
    by (Some q) r k (inl e) = subst (KeepsAt t) (sym (e ∙ h.first_is)) k.0
    by (Some q) r k (inr e) = subst (KeepsAt t) (some_same q e.0 (sym r ∙ e.1) ∙ sym e.2) k.1

-- ---- segments without a record
module _ (old new : List Published) (stand : Stand old new) where
  stands_named : (name : Option ℕ) (p : Published) → published_named old name ≡ Some p → published_named new name ≡ Some p
  stands_named None p e = absurd (cc)
  stands_named (Some k) p e = stand k p e

  none_or : (o : Option Published) → (o ≡ None) ⊎ ((p : Published) × (o ≡ Some p))
  none_or None = inl refl
  none_or (Some p) = inr (p, refl)

  pub lacks_before : (s : Tree Item) → lacks new s ≡ true → lacks old s ≡ true
  lacks_before s e = elim (none_or (published_for old s)) [
    | inl h ↦ ap is_none h
    | inr h ↦ let f : false ≡ true = sym (ap is_none (stands_named (name_of s) h.0 h.1)) ∙ e in absurd (cc)
  ]

  pub missing_fewer : (tree : Option (Tree Item)) → missing new tree ≤ missing old tree
  missing_fewer tree = count_less (lacks old) (lacks new) (segments_of tree) lacks_before

  -- the value of a test on what was published for a name stays, where it says that something was
  stays : (test : Option Published → Bool) → test None ≡ false → (name : Option ℕ) → test (published_named old name) ≡ true
      → test (published_named new name) ≡ true
  stays test none name e = elim (none_or (published_named old name)) [
    | inl h ↦ let f : false ≡ true = sym none ∙ sym (ap test h) ∙ e in absurd (cc)
    | inr h ↦ ap test (stands_named name h.0 h.1) ∙ sym (ap test h.1) ∙ e
  ]

  any_more : (xs : List (Tree Item)) → list_any (has_passed old) xs ≡ true → list_any (has_passed new) xs ≡ true
  any_more xs e =
      let a = Any-from_list_any (has_passed old) xs e in
      list_any-from_Any (has_passed new) xs (a.0, a.1, a.2, a.3, stays with_limit refl (name_of a.1) a.4)

  pub settled_still : (tree : Option (Tree Item)) → is_settled old tree ≡ true → is_settled new tree ≡ true
  settled_still None e = refl
  settled_still (Some s) e = by (has_sum old s) refl e
    where
      by : (b : Bool) → has_sum old s ≡ b → (b || list_any (has_passed old) (segments s)) ≡ true
          → (has_sum new s || list_any (has_passed new) (segments s)) ≡ true
      by true r h = or_left (has_sum new s) (list_any (has_passed new) (segments s)) (stays with_sum refl (name_of s) r)
      by false r h = or_right (has_sum new s) (list_any (has_passed new) (segments s)) (any_more (segments s) h)

pub missing_found : (t : State) (p : Place) (c : Circuit) (v : Version) → Finds t p c v → missing_at t p ≡ missing t.published v.tree
missing_found t p c v f = ap (λ o. missing_in t (version_of o p.version)) f.circuit ∙ ap (missing_in t) f.version

pub missing_at_fewer : (t new : State) (p : Place) → Later t new → KeepsAt t p → missing_at new p ≤ missing_at t p
missing_at_fewer t new p l k =
    let x = l.finds p k.circuit k.version k.found in
    let a : missing_at new p ≡ missing new.published k.version.tree = missing_found new p x.circuit x.version x.found ∙ ap (missing new.published) x.tree in
    let b : missing_at t p ≡ missing t.published k.version.tree = missing_found t p k.circuit k.version k.found in
    let c : missing new.published k.version.tree ≤ missing t.published k.version.tree = missing_fewer t.published new.published l.stands k.version.tree in
    omega (arith, a, b, c)

either_fewer : (b : Bool) (m n k l : ℕ) → m ≤ n → k ≤ l → cond b m (m + k) ≤ cond b n (n + l)
either_fewer true m n k l h g = h
either_fewer false m n k l h g = omega (arith, h, g)

-- the number of missing segments never rises
pub missing_under_fewer : (t new : State) (first : Place) (second : Option Place) → Later t new → KeepsPlaces t first second
    → missing_under new first second ≤ missing_under t first second
missing_under_fewer t new first None l k = missing_at_fewer t new first l k
missing_under_fewer t new first (Some second) l k =
    either_fewer (same_place first second) (missing_at new first) (missing_at t first) (missing_at new second) (missing_at t second)
    (missing_at_fewer t new first l k.0) (missing_at_fewer t new second l k.1)

-- ---- longer journals
pub begins_longer : {A : Type 0} (xs ys more : List A) → IsBeginning xs ys → IsBeginning xs (ys ++ more)
begins_longer xs ys more b = (b.0 ++ more, ap (λ zs. zs ++ more) b.1 ∙ append_assoc xs b.0 more)

pub pins_longer : (seat : ℕ) (own journal more : List Entry) (first : Place) (second : Option Place) (m : ℕ)
    → PinsMissing seat own journal first second m → PinsMissing seat own (journal ++ more) first second m
pins_longer seat own journal more first second m h =
    record { before = h.before; state = h.state; within = begins_longer _ journal more h.within; entries = h.entries; leads = h.leads; count = h.count }

pub room_later : (t new : State) (seat : ℕ) (own journal more : List Entry) (first : Place) (second : Option Place) (rounds : ℕ)
    → missing_under new first second ≤ missing_under t first second
    → HasRoom t seat own journal first second rounds → HasRoom new seat own (journal ++ more) first second rounds
room_later t new seat own journal more first second rounds f h =
    record { m = h.m; pins = pins_longer seat own journal more first second h.m h.pins; room = let r = h.room in omega (arith, f, r) }

-- ---- claims
pub holds_claim : (t new : State) (seat : ℕ) (old pin : Pin) (task : Task) (given : State) → Later t new → claim_of new seat ≡ claim_of t seat
    → pin.first ≡ old.first → pin.second ≡ old.second → HoldsClaim t seat old task given → HoldsClaim new seat pin task given
holds_claim t new seat old pin task given l e a b h = record {
  claim = h.claim;
  claim_is = e ∙ h.claim_is;
  pinned = ap₂ (λ x y. same_place h.claim.place x || same_place_maybe h.claim.place y) a b ∙ h.pinned;
  later = later_then given t new h.later l;
  free = h.free;
  circuit = h.circuit;
  version = h.version;
  segment = h.segment;
  found = h.found;
  within = h.within;
  named = h.named;
  alike = h.alike;
  qubits = h.qubits;
  items = h.items;
}

-- ---- records of settled versions
belongs_still : (c d : Circuit) (v w : Version) (r : Record) → d.qubits ≡ c.qubits → w.items ≡ v.items → w.tree ≡ v.tree → Belongs c v r → Belongs d w r
belongs_still c d v w r q i t b = record { qubits = b.qubits ∙ sym q; items = by b.items }
  where
    by : (r.items.value ≡ v.items) ⊎ ((is_passed r ≡ true) × ((s : Tree Item) × (Contains (segments_of v.tree) s × (r.items.value ≡ run s))))
        → (r.items.value ≡ w.items) ⊎ ((is_passed r ≡ true) × ((s : Tree Item) × (Contains (segments_of w.tree) s × (r.items.value ≡ run s))))
    by (inl e) = inl (e ∙ sym i)
    by (inr e) = inr (e.0, (e.1.0, (subst (λ x. Contains (segments_of x) e.1.0) (sym t) e.1.1.0, e.1.1.1)))

comes_with_still : (t new : State) (p : Place) (r : Record) → Later t new → ComesWith t p r → ComesWith new p r
comes_with_still t new p r l h =
    let x = l.finds p h.circuit h.version h.found in
    record {
      circuit = x.circuit;
      version = x.version;
      found = x.found;
      settled = ap (is_settled new.published) x.tree ∙ settled_still t.published new.published l.stands h.version.tree h.settled;
      belongs = belongs_still h.circuit x.circuit h.version x.version r x.qubits x.items x.tree h.belongs;
    }

pub come_with_still : (t new : State) (first : Place) (second : Option Place) (a : Record) (b : Option Record) → Later t new
    → ComeWith t first second a b → ComeWith new first second a b
come_with_still t new first None a None l h = comes_with_still t new first a l h
come_with_still t new first None a (Some b) l h = h
come_with_still t new first (Some second) a None l h = h
come_with_still t new first (Some second) a (Some b) l h = (comes_with_still t new first a l h.0, comes_with_still t new second b l h.1, h.2)
