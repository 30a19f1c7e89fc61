-- The publish that ends a round.
use Rattle.std.proofs.Common.{◌≡◌, ◌<◌, ◌≤◌, ◌+◌, ◌*◌, ℕ, Bool, true, false, cond, ◌⊎◌, inl, inr, List, [], ◌∷◌, ◌++◌, length, refl, sym, ap, ap₂, ◌∙◌, subst, arith}
use Rattle.std.specs.Prelude.{Option, Some, None, Contains, count_by, is_none}
use Rattle.std.specs.declared.sync.Arc.{Arc}
use Rattle.std.specs.declared.alloc.Global.{Global}
use Rattle.std.proofs.Props.{props}
use Rattle.std.proofs.lemmas.Bool.{eq-eqb}
use mathlib.Core.Logic.{∥∥₁_elim}
use Rattle.seg_tree.specs.Trees.{Tree, run}
use Rattle.ps_desk.specs.Views.{entry}
use Rattle.ps_script.specs.declared.name.Place.{Place}
use Rattle.ps_reach.specs.declared.record.Record.{Record}
use Rattle.ps_reach.specs.declared.task.Task.{Task as ATask}
use Rattle.ps_reach.specs.declared.task.Work.{Work}
use Rattle.ps_reach.specs.declared.task.Work.TheVariants.{Items, Children}
use Rattle.ps_normal.specs.Fillings.{IsRecordFor}
use Rattle.ps_journal.specs.declared.seats.Pin.{Pin}
use Rattle.ps_journal.specs.declared.seats.Claim.{Claim}
use Rattle.ps_journal.specs.declared.commands.Cmd.TheVariants as cmd
use Rattle.ps_journal.specs.declared.replies.Reply.{Reply}
use Rattle.ps_journal.specs.declared.replies.Reply.TheVariants.{Published, Already, NoRoom, Memory}
use Rattle.ps_journal.specs.State.{Item, Version, Circuit, State, Finds, pin_of, unclaimed}
use Rattle.ps_journal.specs.State.{Published as Publication}
use Rattle.ps_journal.specs.Segments.{segments_of, published_at, published_named, lacks, missing}
use Rattle.ps_journal.specs.Keeping.{same_place}
use Rattle.ps_journal.specs.Publishing as publishing
use Rattle.ps_journal.specs.Publishing.{Publishes, Claims, IsOf, refused_pin}
use Rattle.ps_journal.specs.Step.{Step, serves, wants}
use Rattle.ps_journal.specs.History.{Entry, LeadsTo, own_entries}
use Rattle.ps_history.specs.Lasts.{HasPinned, WasRefused, newest}
use Rattle.ps_history.specs.Inner.{Idles, more}
use Rattle.ps_history.specs.Bounds.{missing_at, missing_under, published_count, PinsMissing, IsWithin}
use Rattle.ps_history.specs.Taken.{IsTurn}
use Rattle.ps_history.specs.Stages.{Later, KeepsAt, KeepsPlaces, HoldsPin, HoldsClaim, Asks, AsksWith, GaveUp, items_of}
use Rattle.ps_history.specs.After.{AfterPublish}
use Rattle.ps_history.proofs.Lists.{some_same, written, count_less, count_step}
use Rattle.ps_history.proofs.Passing.{later_then}
use Rattle.ps_history.proofs.Holding.{finds_same, place_same, pinned_which, holds_pin, kept_place, missing_found, missing_at_fewer, lacks_before, pins_longer}
use Rattle.ps_history.proofs.Giving.{in_step, none_in}
use Rattle.ps_history.proofs.Standing.{WithState, with_survives, Turning, turning, pinned_more, published_last, one_longer}

-- ---- one segment fewer
count_fewer : {A : Type 0} (p q : A → Bool) (xs : List A) (y : A) → ((x : A) → q x ≡ true → p x ≡ true) → Contains xs y → p y ≡ true → q y ≡ false
    → count_by q xs + 1 ≤ count_by p xs
count_fewer p q [] y h c a b = absurd (none_in y c)
count_fewer p q (x ∷ xs) y h c a b =
    let m : count_by p (x ∷ xs) ≡ cond (p x) 1 0 + count_by p xs = count_step p x xs in
    let n : count_by q (x ∷ xs) ≡ cond (q x) 1 0 + count_by q xs = count_step q x xs in
    let k : cond (q x) 1 0 + count_by q xs + 1 ≤ cond (p x) 1 0 + count_by p xs =
    by (p x) (q x) refl refl (h x) (in_step x y xs c) (λ d. count_fewer p q xs y h d a b) (count_less p q xs h) in
    omega (arith, m, n, k)
  where
    by : (s t : Bool) → p x ≡ s → q x ≡ t → (t ≡ true → s ≡ true) → (x ≡ y) ⊎ Contains xs y → (Contains xs y → count_by q xs + 1 ≤ count_by p xs)
        → count_by q xs ≤ count_by p xs → cond t 1 0 + count_by q xs + 1 ≤ cond s 1 0 + count_by p xs
    by true true d e f (inl g) k l = let z : false ≡ true = sym b ∙ ap q (sym g) ∙ e in absurd (cc)
    by true true d e f (inr g) k l = let z = k g in omega (arith, z)
    by true false d e f (inl g) k l = omega (arith, l)
    by true false d e f (inr g) k l = omega (arith, l)
    by false true d e f g k l = let z : false ≡ true = f refl in absurd (cc)
    by false false d e f (inl g) k l = let z : false ≡ true = sym d ∙ ap p g ∙ a in absurd (cc)
    by false false d e f (inr g) k l = let z = k g in omega (arith, z)

module _ (given u t : State) (later : Later given t) (seat : ℕ) (pin : Pin) (task : ATask) where
  -- the claimed segment has got a record
  place_fewer : (h : HoldsClaim u seat pin task given) (p : Publication) → published_at t.published h.claim.node ≡ Some p
      → missing_at t h.claim.place + 1 ≤ missing_at given h.claim.place
  place_fewer h p e =
      let x = later.finds h.claim.place h.circuit h.version h.found in
      let a : missing_at t h.claim.place ≡ missing t.published h.version.tree =
      missing_found t h.claim.place x.circuit x.version x.found ∙ ap (missing t.published) x.tree in
      let b : missing_at given h.claim.place ≡ missing given.published h.version.tree = missing_found given h.claim.place h.circuit h.version h.found in
      let lacking : lacks given.published h.segment ≡ true = ap (λ n. is_none (published_named given.published n)) h.named ∙ ap is_none h.free in
      let there : lacks t.published h.segment ≡ false = ap (λ n. is_none (published_named t.published n)) h.named ∙ ap is_none e in
      let c : missing t.published h.version.tree + 1 ≤ missing given.published h.version.tree =
      count_fewer (lacks given.published) (lacks t.published) (segments_of h.version.tree) h.segment
      (lacks_before given.published t.published later.stands) h.within lacking there in
      omega (arith, a, b, c)

  pub under_fewer : (first : Place) (second : Option Place) (h : HoldsClaim u seat pin task given) (p : Publication) → pin.first ≡ first
      → pin.second ≡ second → KeepsPlaces given first second → published_at t.published h.claim.node ≡ Some p
      → missing_under t first second + 1 ≤ missing_under given first second
  under_fewer first None h p a b k e = elim (pinned_which pin h.claim.place h.pinned) [
    | inl s ↦ subst (λ q. missing_at t q + 1 ≤ missing_at given q) (s ∙ a) (place_fewer h p e)
    | inr s ↦ let z : None ≡ Some s.0 = sym b ∙ s.1 in absurd (cc)
  ]
  under_fewer first (Some second) h p a b k e = by (same_place first second) refl (pinned_which pin h.claim.place h.pinned)
    where
      le : (q : Place) → KeepsAt given q → missing_at t q ≤ missing_at given q
      le q kept = missing_at_fewer given t q later kept

      here : (q : Place) → h.claim.place ≡ q → missing_at t q + 1 ≤ missing_at given q
      here q s = subst (λ z. missing_at t z + 1 ≤ missing_at given z) s (place_fewer h p e)

      by : (c : Bool) → same_place first second ≡ c → (h.claim.place ≡ pin.first) ⊎ ((q : Place) × (pin.second ≡ Some q) × (h.claim.place ≡ q))
          → cond c (missing_at t first) (missing_at t first + missing_at t second) + 1 ≤ cond c (missing_at given first)
          (missing_at given first + missing_at given second)
      by true r (inl s) = here first (s ∙ a)
      by true r (inr s) = here first (s.2 ∙ some_same s.0 second (sym s.1 ∙ b) ∙ sym (place_same first second r))
      by false r (inl s) = let x = here first (s ∙ a) in let y = le second k.1 in omega (arith, x, y)
      by false r (inr s) = let x = here second (s.2 ∙ some_same s.0 second (sym s.1 ∙ b)) in let y = le first k.0 in omega (arith, x, y)

  -- at least the claimed segment was missing
  place_some : (h : HoldsClaim u seat pin task given) → 1 ≤ missing_at given h.claim.place
  place_some h =
      let b : missing_at given h.claim.place ≡ missing given.published h.version.tree = missing_found given h.claim.place h.circuit h.version h.found in
      let lacking : lacks given.published h.segment ≡ true = ap (λ n. is_none (published_named given.published n)) h.named ∙ ap is_none h.free in
      let c : count_by (λ (x : Tree Item). false) (segments_of h.version.tree) + 1 ≤ missing given.published h.version.tree =
      count_fewer (lacks given.published) (λ x. false) (segments_of h.version.tree) h.segment (λ x f. absurd (not_so f)) h.within lacking refl in
      omega (arith, b, c)
    where
      not_so : false ≡ true → ⊥
      not_so e = cc

  pub under_some : (first : Place) (second : Option Place) (h : HoldsClaim u seat pin task given) → pin.first ≡ first → pin.second ≡ second
      → 1 ≤ missing_under given first second
  under_some first None h a b = elim (pinned_which pin h.claim.place h.pinned) [
    | inl s ↦ subst (λ q. 1 ≤ missing_at given q) (s ∙ a) (place_some h)
    | inr s ↦ let z : None ≡ Some s.0 = sym b ∙ s.1 in absurd (cc)
  ]
  under_some first (Some second) h a b = by (same_place first second) refl (pinned_which pin h.claim.place h.pinned)
    where
      here : (q : Place) → h.claim.place ≡ q → 1 ≤ missing_at given q
      here q s = subst (λ z. 1 ≤ missing_at given z) s (place_some h)

      by : (c : Bool) → same_place first second ≡ c → (h.claim.place ≡ pin.first) ⊎ ((q : Place) × (pin.second ≡ Some q) × (h.claim.place ≡ q))
          → 1 ≤ cond c (missing_at given first) (missing_at given first + missing_at given second)
      by true r (inl s) = here first (s ∙ a)
      by true r (inr s) = here first (s.2 ∙ some_same s.0 second (sym s.1 ∙ b) ∙ sym (place_same first second r))
      by false r (inl s) = let x = here first (s ∙ a) in omega (arith, x)
      by false r (inr s) = let x = here second (s.2 ∙ some_same s.0 second (sym s.1 ∙ b)) in omega (arith, x)

-- ---- what a Publish does
abbrev is_publish_reply : Reply → Bool
is_publish_reply Published = true
is_publish_reply (Already entry) = true
is_publish_reply (NoRoom total) = true
is_publish_reply Memory = true
is_publish_reply r = false

-- the segment has a record then
abbrev is_done : Reply → Bool
is_done Published = true
is_done (Already entry) = true
is_done r = false

abbrev is_no_room : Reply → Bool
is_no_room (NoRoom total) = true
is_no_room r = false

record_items : (n : ℕ) (work : Work) (r : Record) → IsRecordFor n work r → (r.n ≡ n) × (r.items.value ≡ items_of work)
record_items n (Items a) r h = (h.n_is, h.items_are)
record_items n (Children a b) r h = (h.n_is, h.items_are)

module _ (u : State) (i seat : ℕ) (first : Place) (second : Option Place) (pin : Pin) (task : ATask) (given : State)
    (held : HoldsPin u seat pin first second) (h : HoldsClaim u seat pin task given) where
  claim_same : (claim : Claim) (c : Circuit) (v : Version) (s : Tree Item) → Claims u seat claim c v s → claim ≡ h.claim
  claim_same claim c v s k = some_same claim h.claim (sym k.claim_is ∙ h.claim_is)

  -- the version of the claim is kept
  not_dropped : (claim : Claim) (c : Circuit) (v : Version) (s : Tree Item) (j : ℕ) → Claims u seat claim c v s → v.ended ≡ Some j → ⊥
  not_dropped claim c v s j k e =
      let place : claim.place ≡ h.claim.place = ap (λ x. x.place) (claim_same claim c v s k) in
      let kept = kept_place u seat pin first second h.claim.place held h.pinned in
      let same = finds_same u h.claim.place c kept.circuit v kept.version (subst (λ p. Finds u p c v) place k.found) kept.found in
      let none : None ≡ Some j = sym kept.kept ∙ ap (λ x. x.ended) (sym same.versions) ∙ e in
      cc

  -- the record of the task is of the claimed segment
  is_of : (r : Record) (claim : Claim) (c : Circuit) (v : Version) (s : Tree Item) → IsRecordFor task.n task.work r → Claims u seat claim c v s → IsOf c s r
  is_of r claim c v s f k =
      let place : claim.place ≡ h.claim.place = ap (λ x. x.place) (claim_same claim c v s k) in
      let name : claim.node ≡ h.claim.node = ap (λ x. x.node) (claim_same claim c v s k) in
      let x = h.later.finds h.claim.place h.circuit h.version h.found in
      let same = finds_same u h.claim.place c x.circuit v x.version (subst (λ p. Finds u p c v) place k.found) x.found in
      let tree : v.tree ≡ h.version.tree = ap (λ y. y.tree) same.versions ∙ x.tree in
      let runs : run s ≡ run h.segment = h.alike s (subst (λ o. Contains (segments_of o) s) tree k.within) (k.named ∙ ap Some name) in
      let r' = record_items task.n task.work r f in
      record { qubits = r'.0 ∙ h.qubits ∙ sym x.qubits ∙ sym (ap (λ y. y.qubits) same.circuits); items = r'.1 ∙ h.items ∙ sym runs }

  publishes_told : (kept : Option (Arc Record Global)) (a : Arc Record Global) (r : Reply) (t : State) → IsRecordFor task.n task.work a.value
      → Publishes u i seat kept r t → kept ≡ Some a → is_publish_reply r ≡ true
  publishes_told kept a r t f (publishing.no_claim e) q = let z : None ≡ Some h.claim = sym e ∙ h.claim_is in absurd (cc)
  publishes_told kept a r t f (publishing.dropped {claim = claim} {c = c} {v = v} {s = s} {j = j} k e) q = absurd (not_dropped claim c v s j k e)
  publishes_told kept a r t f (publishing.already k e g) q = refl
  publishes_told kept a r t f (publishing.stands k e) q = absurd (cc)
  publishes_told kept a r t f (publishing.other_run {r = b} {claim = claim} {c = c} {v = v} {s = s} k e g) q =
      let same : b ≡ a = some_same b a q in
      absurd (g (is_of b.value claim c v s (subst (λ x. IsRecordFor task.n task.work x.value) (sym same) f) k))
  publishes_told kept a r t f (publishing.no_room k e g l) q = refl
  publishes_told kept a r t f (publishing.publishes k e g l m) q = refl

  publish_told : (a : Arc Record Global) (r : Reply) (t : State) → IsRecordFor task.n task.work a.value → Step u i seat (cmd.Publish (Some a)) r t
      → is_publish_reply r ≡ true
  publish_told a r t f (serves s) = publishes_told (Some a) a r t f s refl
  publish_told a r t f (wants e) = refl

  publishes_there : (kept : Option (Arc Record Global)) (r : Reply) (t : State) → Publishes u i seat kept r t → is_done r ≡ true
      → (p : Publication) × (published_at t.published h.claim.node ≡ Some p)
  publishes_there kept r t (publishing.no_claim e) q = absurd (cc)
  publishes_there kept r t (publishing.dropped k e) q = absurd (cc)
  publishes_there kept r t (publishing.already {claim = claim} {c = c} {v = v} {s = s} {p = p} k e g) q =
      (p, ap (published_at u.published) (ap (λ x. x.node) (sym (claim_same claim c v s k))) ∙ g)
  publishes_there kept r t (publishing.stands k e) q = absurd (cc)
  publishes_there kept r t (publishing.other_run k e g) q = absurd (cc)
  publishes_there kept r t (publishing.no_room k e g l) q = absurd (cc)
  publishes_there kept r t (publishing.publishes {r = b} {claim = claim} {c = c} {v = v} {s = s} k e g l m) q =
      let new : Publication = record { segment = claim.node; entry = i; kept = b.value } in
      (new, ap (λ x. cond x (Some new) (published_at u.published h.claim.node)) (eq-eqb claim.node h.claim.node (ap (λ x. x.node) (claim_same claim c v s k))))

  publish_there : (a : Arc Record Global) (r : Reply) (t : State) → Step u i seat (cmd.Publish (Some a)) r t → is_done r ≡ true
      → (p : Publication) × (published_at t.published h.claim.node ≡ Some p)
  publish_there a r t (serves s) q = publishes_there (Some a) r t s q
  publish_there a r t (wants e) q = absurd (cc)

  publishes_pin : (kept : Option (Arc Record Global)) (r : Reply) (t : State) → Publishes u i seat kept r t → is_no_room r ≡ false
      → pin_of t seat ≡ pin_of u seat
  publishes_pin kept r t (publishing.no_claim e) q = refl
  publishes_pin kept r t (publishing.dropped k e) q = refl
  publishes_pin kept r t (publishing.already k e g) q = refl
  publishes_pin kept r t (publishing.stands k e) q = refl
  publishes_pin kept r t (publishing.other_run k e g) q = refl
  publishes_pin kept r t (publishing.no_room k e g l) q = absurd (cc)
  publishes_pin kept r t (publishing.publishes k e g l m) q = refl

  publish_pin : (a : Arc Record Global) (r : Reply) (t : State) → Step u i seat (cmd.Publish (Some a)) r t → is_no_room r ≡ false
      → pin_of t seat ≡ pin_of u seat
  publish_pin a r t (serves s) q = publishes_pin (Some a) r t s q
  publish_pin a r t (wants e) q = sym (ap (λ x. pin_of x seat) (some_same (unclaimed seat u) t e))

  publishes_refused : seat < length u.pins → (kept : Option (Arc Record Global)) (r : Reply) (t : State) (total : ℕ) → Publishes u i seat kept r t
      → r ≡ NoRoom total → pin_of t seat ≡ Some (record pin { refused = Some total })
  publishes_refused below kept r t total (publishing.no_claim e) q = absurd (cc)
  publishes_refused below kept r t total (publishing.dropped k e) q = absurd (cc)
  publishes_refused below kept r t total (publishing.already k e g) q = absurd (cc)
  publishes_refused below kept r t total (publishing.stands k e) q = absurd (cc)
  publishes_refused below kept r t total (publishing.other_run k e g) q = absurd (cc)
  publishes_refused below kept r t total (publishing.no_room {r = b} k e g l) q =
      let same : u.terms + publishing.size b.value ≡ total = cc in
      written u.pins seat (refused_pin (u.terms + publishing.size b.value) (pin_of u seat)) below ∙ ap₂ refused_pin same held.pin_is
  publishes_refused below kept r t total (publishing.publishes k e g l m) q = absurd (cc)

  publish_refused : seat < length u.pins → (a : Arc Record Global) (r : Reply) (t : State) (total : ℕ) → Step u i seat (cmd.Publish (Some a)) r t
      → r ≡ NoRoom total → pin_of t seat ≡ Some (record pin { refused = Some total })
  publish_refused below a r t total (serves s) q = publishes_refused below (Some a) r t total s q
  publish_refused below a r t total (wants e) q = absurd (cc)

-- ---- the turn
module _ (seat : ℕ) (own seen new : List Entry) (first : Place) (second : Option Place) (rounds : ℕ) (task : ATask) (a : Arc Record Global)
    (with' : AsksWith seat own seen first second rounds task)
    (filled : IsRecordFor task.n task.work a.value) where
  abbrev last : Reply → Entry
  last r = entry seat (cmd.Publish (Some a)) r

  abbrev Publish : Reply → Type 0
  Publish r = IsTurn seat seen new (cmd.Publish (Some a)) r

  publish_idles : (r : Reply) → Publish r → Idles own (own_entries seat new)
  publish_idles r h =
      subst (Idles own) (sym h.own) (more (last r) with'.idles (record { inner = refl; filled = record { task = task; given = with'.given; filled = filled } }))

  publish_pinned : (r : Reply) → Publish r → HasPinned (own_entries seat new) first second
  publish_pinned r h = subst (λ es. HasPinned es first second) (sym h.own) (pinned_more (own_entries seat seen) (last r) first second refl with'.pin)

  publish_count : (r : Reply) → Publish r → length (own_entries seat new) ≡ length own + (3 + 2 * rounds)
  publish_count r h = let x = ap length h.own ∙ one_longer (own_entries seat seen) (last r) in let c = with'.count in omega (arith, x, c)

  publish_published : (r : Reply) → Publish r → published_count (own_entries seat new) ≤ published_count own + (rounds + 1)
  publish_published r h =
      let x : published_count (own_entries seat new) ≡ published_count (own_entries seat seen ++ last r ∷ []) = ap published_count h.own in
      let y = published_last (own_entries seat seen) (last r) in
      let c = with'.published in
      omega (arith, x, y, c)

  publish_turning : (r : Reply) (h : Publish r) (t : State) → LeadsTo new t
      → Turning (WithState seat own first second rounds task) h.before seat (cmd.Publish (Some a)) r t
  publish_turning r h t l =
      turning seat (WithState seat own first second rounds task) (with_survives seat own first second rounds task) seen new (cmd.Publish (Some a)) r h
      with'.states t l

  publish_done : (r : Reply) → Publish r → is_done r ≡ true → is_no_room r ≡ false → Asks seat own new first second (rounds + 1)
  publish_done r h d n = record {
    legal = h.lawful;
    idles = publish_idles r h;
    pin = publish_pinned r h;
    count = let c = publish_count r h in omega (arith, c);
    published = publish_published r h;
    states = λ t l.
        let s = publish_turning r h t l in
        let pin : Pin = s.held.0 in
        let held = s.held.1 in
        let given : State = s.held.2.0 in
        let claim = s.held.2.1 in
        let room = s.held.2.3 in
        let same = publish_pin s.old (length h.before) seat first second pin task given held claim a r t s.step n in
        let there = publish_there s.old (length h.before) seat first second pin task given held claim a r t s.step d in
        let later : Later given t = later_then given s.old t claim.later s.later in
        let fewer : missing_under t first second + 1 ≤ missing_under given first second =
        under_fewer given s.old t later seat pin task first second claim there.0 held.first_is held.second_is s.held.2.2 there.1 in
        let fits : missing_under given first second + rounds ≤ room.m = room.room in (
          pin,
          holds_pin seat s.old t seat pin pin first second s.passes (same ∙ held.pin_is) refl refl held,
          record {
            m = room.m;
            pins = subst (λ es. PinsMissing seat own es first second room.m) (sym h.whole)
                (pins_longer seat own h.before (last r ∷ []) first second room.m room.pins);
            room = omega (arith, fewer, fits);
          },
        );
  }

  publish_within : (r : Reply) (h : Publish r) (t : State)
      (s : Turning (WithState seat own first second rounds task) h.before seat (cmd.Publish (Some a)) r t)
      → IsWithin seat own (own_entries seat new) new first second 1
  publish_within r h t s =
      let held = s.held.1 in
      let room = s.held.2.3 in
      let one : 1 ≤ missing_under s.held.2.0 first second =
      under_some s.held.2.0 s.old s.old s.held.2.1.later seat s.held.0 task first second s.held.2.1 held.first_is held.second_is in
      let fits : missing_under s.held.2.0 first second + rounds ≤ room.m = room.room in
      let c = publish_count r h in
      let p = publish_published r h in
      record {
        m = room.m;
        pins =
            subst (λ es. PinsMissing seat own es first second room.m) (sym h.whole) (pins_longer seat own h.before (last r ∷ []) first second room.m room.pins);
        few = omega (arith, c, one, fits);
        few_published = omega (arith, p, one, fits);
      }

  publish_crowded : (total : ℕ) → Publish (NoRoom total) → GaveUp seat own new first second (Some total)
  publish_crowded total h = record {
    legal = h.lawful;
    idles = publish_idles (NoRoom total) h;
    pin = publish_pinned (NoRoom total) h;
    refused = λ other e. let same : total ≡ other = some_same total other e in
        subst (λ es. WasRefused es other) (sym h.own)
        (record { entry = last (NoRoom total); last = newest (own_entries seat seen) refl; told = ap NoRoom same });
    states = λ t l.
        let s = publish_turning (NoRoom total) h t l in
        let pin : Pin = s.held.0 in
        let held = s.held.1 in
        let noted =
        publish_refused s.old (length h.before) seat first second pin task s.held.2.0 held s.held.2.1
        (subst (λ n. seat < n) (sym s.well.pins) h.below) a (NoRoom total) t total s.step refl in (
          record pin { refused = Some total },
          holds_pin seat s.old t seat pin (record pin { refused = Some total }) first second s.passes noted refl refl held,
          publish_within (NoRoom total) h t s,
          λ other e. e,
        );
  }

  publish_starved : Publish Memory → GaveUp seat own new first second None
  publish_starved h = record {
    legal = h.lawful;
    idles = publish_idles Memory h;
    pin = publish_pinned Memory h;
    refused = λ total e. absurd (cc);
    states = λ t l.
        let s = publish_turning Memory h t l in
        let pin : Pin = s.held.0 in
        let held = s.held.1 in
        let same = publish_pin s.old (length h.before) seat first second pin task s.held.2.0 held s.held.2.1 a Memory t s.step refl in (
          pin,
          holds_pin seat s.old t seat pin pin first second s.passes (same ∙ held.pin_is) refl refl held,
          publish_within Memory h t s,
          λ total e. absurd (cc),
        );
  }

  publish_no_other : (r : Reply) → Publish r → is_publish_reply r ≡ true
  publish_no_other r h = ∥∥₁_elim h.lawful (hlevel props) (λ p.
      let s = publish_turning r h p.0 p.1 in
      publish_told s.old (length h.before) seat first second s.held.0 task s.held.2.0 s.held.1 s.held.2.1 a r p.0 filled s.step)

not_so : false ≡ true → ⊥
not_so e = cc

pub publish-after : (seat : ℕ) (own seen new : List Entry) (first : Place) (second : Option Place) (rounds : ℕ) (task : ATask) (r : Arc Record Global)
    (reply : Reply) → AsksWith seat own seen first second rounds task → IsRecordFor task.n task.work r.value
    → IsTurn seat seen new (cmd.Publish (Some r)) reply → AfterPublish seat own new first second rounds reply
publish-after seat own seen new first second rounds task r Published a f h = publish_done seat own seen new first second rounds task r a f Published h refl refl
publish-after seat own seen new first second rounds task r (Already e) a f h =
    publish_done seat own seen new first second rounds task r a f (Already e) h refl refl
publish-after seat own seen new first second rounds task r (NoRoom total) a f h = publish_crowded seat own seen new first second rounds task r a f total h
publish-after seat own seen new first second rounds task r Memory a f h = publish_starved seat own seen new first second rounds task r a f h
publish-after seat own seen new first second rounds task r reply a f h =
    absurd (not_so (publish_no_other seat own seen new first second rounds task r a f reply h))
