-- Tables of which only versions have changed: what is sound of them, and what they stand for.
use Rattle.std.proofs.Common.{◌≡◌, ◌<◌, ◌≤◌, ◌+◌, ℕ, zero, suc, Bool, true, false, ◌&&◌, ◌||◌, List, [], ◌∷◌, map, length, refl, sym, ap, ap₂, ◌∙◌, subst, arith, ◌⊎◌, inl, inr}
use Rattle.std.specs.Prelude.{Option, Some, None, slice_get, is_none, is_some, nat_lt}
use Rattle.std.specs.List.{list_any}
use Rattle.std.proofs.lemmas.Bool.{and_parts, or_cases}
use Rattle.seg_tree.specs.Trees.{Tree, run, run_maybe}
use Rattle.seg_tree.specs.Table.{tree, root_tree}
use Rattle.qasm_expand.specs.Circuits.{TableOf}
use Rattle.ps_script.specs.declared.name.Place.{Place}
use Rattle.ps_versions.specs.Held.{Held, Version, Circuit}
use Rattle.ps_versions.specs.Lookup.{place_of, circuit_in, version_in, version_at, root_of}
use Rattle.ps_versions.specs.Lives.{IsLife, is_kept}
use Rattle.ps_versions.specs.Reached.{stands, is_segment, is_reached}
use Rattle.ps_versions.specs.Records.{record_at}
use Rattle.ps_versions.specs.Questions.{sides_have_sums}
use Rattle.ps_versions.proofs.Reaching.{reached_by}
use Rattle.ps_journal.specs.declared.seats.Pin.{Pin}
use Rattle.ps_journal.specs.declared.seats.Claim.{Claim}
use Rattle.ps_journal.specs.State.{Item, State, Published}
use Rattle.ps_journal.specs.State as model
use Rattle.ps_journal.specs.Segments.{published_at}
use Rattle.ps_journal.specs.Keeping.{is_pinned, noted, noted_version, noted_circuit, ended_by}
use Rattle.ps_journal.specs.Keeping as keeping
use Rattle.ps_views.specs.Counts.{pins_on}
use Rattle.ps_views.specs.Older.{IsForest}
use Rattle.ps_views.specs.Views.{version_of, circuits_of, tree_of, published_of}
use Rattle.ps_views.specs.Fields.{Fields, IsSound, held_at, are_below, passed, claim_at}
use Rattle.ps_views.specs.Stands.{Stands}
use Rattle.ps_views.specs.Changes.{IsLike, Alike, Becomes, Keeps, IsNotedBy}
use Rattle.ps_views.specs.declared.filed.Filed.{Filed}
use Rattle.ps_views.proofs.Alike.{alike-refl, alike-trans, alike-length, alike-place, alike_back, alike_version, alike_version_back, version_there, version_whole}
use Rattle.ps_views.proofs.Noting.{IsNoted, noted_seen, pinned_counted}

-- ---- one change after the other
module _ (D E F : Place → Version → Version → Type 0) where
  pub becomes_map : (a b : Held Filed) → Becomes D a b → ((q : Place) (x y : Version) → held_at a q ≡ Some x → D q x y → E q x y) → Becomes E a b
  becomes_map a b d f = record { nodes = d.nodes; kept = d.kept; alike = d.alike; each = λ q x y g h. f q x y g (d.each q x y g h) }

  pub becomes_then : (a b c : Held Filed) → Becomes D a b → Becomes E b c → ((q : Place) (x y z : Version) → held_at a q ≡ Some x → D q x y → E q y z → F q x z) → Becomes F a c
  becomes_then a b c d e f = record {
    nodes = e.nodes ∙ d.nodes;
    kept = e.kept ∙ d.kept;
    alike = alike-trans a.circuits b.circuits c.circuits d.alike e.alike;
    each = λ q x z g h. let y = alike_version a.circuits b.circuits q.name q.version x d.alike g in f q x y.0 z g (d.each q x y.0 g y.1) (e.each q y.0 z y.1 h);
  }

pub becomes_same : (D : Place → Version → Version → Type 0) (a : Held Filed) → ((q : Place) (x : Version) → held_at a q ≡ Some x → D q x x) → Becomes D a a
becomes_same D a f = record { nodes = refl; kept = refl; alike = alike-refl a.circuits; each = λ q x y g h. let same : x ≡ y = cc in subst (λ z. D q x z) same (f q x g) }

-- ---- versions where they lie
in_version : (c : Circuit) (k : ℕ) → version_in (Some c) (suc k) ≡ slice_get c.versions k
in_version c k = refl

-- a version of the tables is held at its place
pub held_by_index : (f : Fields) → IsSound f → (i k : ℕ) (c : Circuit) (v : Version) → slice_get f.versions.circuits i ≡ Some c → slice_get c.versions k ≡ Some v
    → held_at f.versions (record { name = c.name; version = suc k }) ≡ Some v
held_by_index f s i k c v e g = version_whole f.versions.circuits c.name (suc k) i c (s.named i c e) e ∙ g

-- the version at a place lies in the tables, and a version that lies there has a life
pub held_life : (f : Fields) → IsSound f → (p : Place) (v : Version) → held_at f.versions p ≡ Some v → IsLife v
held_life f s p v e = by (place_of f.versions.circuits p.name) e
  where
    by_number : (i : ℕ) (c : Circuit) (n : ℕ) → slice_get f.versions.circuits i ≡ Some c → version_in (Some c) n ≡ Some v → IsLife v
    by_number i c zero q e = cc
    by_number i c (suc k) q e = s.lives i k c v q e

    by_circuit : (i : ℕ) (o : Option Circuit) → slice_get f.versions.circuits i ≡ o → version_in o p.version ≡ Some v → IsLife v
    by_circuit i None q e = cc
    by_circuit i (Some c) q e = by_number i c p.version q e

    by : (o : Option ℕ) → version_in (circuit_in f.versions.circuits o) p.version ≡ Some v → IsLife v
    by None e = cc
    by (Some i) e = by_circuit i (slice_get f.versions.circuits i) refl e

-- ---- soundness
pub some_is : {A : Type 0} (o : Option A) → is_some o ≡ true → (x : A) × (o ≡ Some x)
some_is None e = cc
some_is (Some x) e = (x, refl)

some_from : {A : Type 0} (o : Option A) (x : A) → o ≡ Some x → is_some o ≡ true
some_from o x e = ap is_some e

module _ (f : Fields) (sound : IsSound f) (new : Held Filed) (pins : List (Option Pin))
    (becomes : Becomes (λ q x y. Keeps x y) f.versions new)
    (counted : (q : Place) (y : Version) → held_at new q ≡ Some y → y.pins ≡ pins_on q pins)
    (pinned : (q : Place) → 0 < pins_on q pins → is_some (held_at f.versions q) ≡ true)
    (seats : length pins ≡ 64) where
  names_new : (i : ℕ) (d : Circuit) → slice_get new.circuits i ≡ Some d → place_of new.circuits d.name ≡ Some i
  names_new i d e =
      let c = alike_back f.versions.circuits new.circuits i d becomes.alike e in
      alike-place f.versions.circuits new.circuits d.name becomes.alike ∙ ap (place_of f.versions.circuits) c.2.name ∙ sound.named i c.0 c.1

  -- a version of the new tables, against that of the old ones
  from_old : (i k : ℕ) (d : Circuit) (y : Version) → slice_get new.circuits i ≡ Some d → slice_get d.versions k ≡ Some y
      → (c : Circuit) × (x : Version) × (slice_get f.versions.circuits i ≡ Some c) × (slice_get c.versions k ≡ Some x) × Keeps x y
  from_old i k d y e g =
      let c = alike_back f.versions.circuits new.circuits i d becomes.alike e in
      let x = version_there d c.0 (suc k) y (sym c.2.count) g in
      let place : Place = record { name = d.name; version = suc k } in
      let old : held_at f.versions place ≡ Some x.0 = version_whole f.versions.circuits d.name (suc k) i c.0 (ap (place_of f.versions.circuits) c.2.name ∙ sound.named i c.0 c.1) c.1 ∙ x.1 in
      let now : held_at new place ≡ Some y = version_whole new.circuits d.name (suc k) i d (names_new i d e) e ∙ g in
      (c.0, x.0, c.1, x.1, becomes.each place x.0 y old now)

  root_held : (p : Place) → root_of (held_at new p) ≡ root_of (held_at f.versions p)
  root_held p = by (held_at f.versions p) (held_at new p) refl refl
    where
      none_some : (y : Version) → None ≡ Some y → ⊥
      none_some y e = cc

      by : (o u : Option Version) → held_at f.versions p ≡ o → held_at new p ≡ u → root_of u ≡ root_of o
      by None None e g = refl
      by None (Some y) e g = let x = alike_version_back f.versions.circuits new.circuits p.name p.version y becomes.alike g in absurd (none_some x.0 (sym e ∙ x.1))
      by (Some x) None e g = let y = alike_version f.versions.circuits new.circuits p.name p.version x becomes.alike e in absurd (none_some y.0 (sym g ∙ y.1))
      by (Some x) (Some y) e g = (becomes.each p x y e g).root

  segment_held : (o u : Option Version) (k : ℕ) → root_of u ≡ root_of o → is_segment new u k ≡ is_segment f.versions o k
  segment_held o u k e = ap₂ (λ ns r. stands k (root_tree ns r)) becomes.nodes e

  pub sound_after : IsSound (record f { versions = new; pins = pins })
  sound_after = record {
    tabled = omega (arith, sound.tabled, alike-length f.versions.circuits new.circuits becomes.alike);
    named = names_new;
    wide = λ i d e. let c = alike_back f.versions.circuits new.circuits i d becomes.alike e in
        subst (λ q. (1 ≤ q) × (q ≤ 64)) (sym c.2.qubits) (sound.wide i c.0 c.1);
    lives = λ i k d y e g. (from_old i k d y e g).4.life;
    grown = subst (λ ns. IsForest ns) (sym becomes.nodes) sound.grown;
    rooted = λ i k r d y e g h. let x = from_old i k d y e g in
        subst (λ ns. r < length ns) (sym becomes.nodes) (sound.rooted i k r x.0 x.1 x.2 x.3 (sym x.4.root ∙ h));
    numbered = λ k h. subst (λ ns. k < length ns → are_below (length f.items) (run (tree ns k)) ≡ true) (sym becomes.nodes) (sound.numbered k) h;
    recorded = ap length becomes.kept ∙ sound.recorded ∙ sym (ap length becomes.nodes);
    seats = (seats, sound.seats.1);
    pinned = λ p h. let x = some_is (held_at f.versions p) (pinned p h) in
        let y = alike_version f.versions.circuits new.circuits p.name p.version x.0 becomes.alike x.1 in some_from (held_at new p) y.0 y.1;
    counted = counted;
    claimed = λ seat c e. segment_held (held_at f.versions c.place) (held_at new c.place) c.node (root_held c.place) ∙ sound.claimed seat c e;
    ready = λ seat c y e g k. let x = alike_version_back f.versions.circuits new.circuits c.place.name c.place.version y becomes.alike g in
        let keeps = becomes.each c.place x.0 y x.1 g in
        ap₂ (λ rs ns. sides_have_sums rs passed (tree ns c.node)) becomes.kept becomes.nodes ∙ sound.ready seat c x.0 e x.1 (keeps.kept k);
    room = sound.room;
  }

  -- what is reached was reached
  pub reached_before : (k : ℕ) → is_reached new k ≡ true → is_reached f.versions k ≡ true
  reached_before k e =
      let d = any_back (λ (c : Circuit). list_any (λ (v : Version). is_kept v && is_segment new (Some v) k) c.versions) new.circuits e in
      let y = any_back (λ (v : Version). is_kept v && is_segment new (Some v) k) d.1.versions d.3 in
      let both = and_parts (is_kept y.1) (is_segment new (Some y.1) k) y.3 in
      let x = from_old d.0 y.0 d.1 y.1 d.2 y.2 in
      reached_by f.versions x.0.name (suc y.0) x.1 k (held_by_index f sound d.0 y.0 x.0 x.1 x.2 x.3) (x.4.kept both.0) (sym (segment_held (Some x.1) (Some y.1) k x.4.root) ∙ both.1)
    where
      any_back : {A : Type 0} (p : A → Bool) (xs : List A) → list_any p xs ≡ true → (i : ℕ) × (x : A) × (slice_get xs i ≡ Some x) × (p x ≡ true)
      any_back p [] e = cc
      any_back {A = A} p (x ∷ xs) e = by (or_cases (p x) (list_any p xs) e) (any_back p xs)
        where
          by : (p x ≡ true) ⊎ (list_any p xs ≡ true) → (list_any p xs ≡ true → (i : ℕ) × (y : A) × (slice_get xs i ≡ Some y) × (p y ≡ true)) → (i : ℕ) × (y : A) × (slice_get (x ∷ xs) i ≡ Some y) × (p y ≡ true)
          by (inl h) ih = (0, x, refl, h)
          by (inr h) ih = let r = ih h in (suc r.0, r.1, r.2, r.3)

  -- a state that has such circuits, and differs from the old one in pins at most
  pub stands_after : (t u : State) → Stands f t → u.circuits ≡ circuits_of f.items f.versions.nodes f.tables new.circuits → u.published ≡ t.published → u.pins ≡ pins → u.claims ≡ t.claims → u.terms ≡ t.terms → u.names ≡ t.names
      → Stands (record f { versions = new; pins = pins }) u
  stands_after t u s circuits published pinned claims terms names = record {
    circuits = circuits ∙ ap (λ ns. circuits_of f.items ns f.tables new.circuits) (sym becomes.nodes);
    published = λ k r. ap (λ ps. published_at ps k) published ∙ s.published k (reached_before k r) ∙ ap (λ rs. published_of k (record_at rs k)) (sym becomes.kept);
    unnamed = λ k h. ap (λ ps. published_at ps k) published ∙ s.unnamed k (subst (λ ns. length ns ≤ k) becomes.nodes h);
    pins = pinned;
    claims = claims ∙ s.claims;
    terms = terms ∙ s.terms;
    names = names ∙ s.names ∙ ap length (sym becomes.nodes);
  }

-- ---- what is noted
noted_one : (entry : ℕ) (pins : List (Option Pin)) (items : List Item) (nodes : List (Tree ℕ)) (q : Place) (x y : Version) → y.pins ≡ pins_on q pins → IsNotedBy entry x y → IsNoted entry pins items nodes q x y
noted_one entry pins items nodes q x y count n =
    whole (run_maybe (tree_of items nodes x.root)) (run_maybe (tree_of items nodes y.root)) (tree_of items nodes x.root) (tree_of items nodes y.root) x.retired y.retired
    (ended_by entry (keeping.is_kept pins q (version_of items nodes x)) x.ended) y.ended
    (ap (λ r. run_maybe (tree_of items nodes r)) (sym n.root)) (ap (tree_of items nodes) (sym n.root)) (sym n.retired) (ap (λ k. ended_by entry k x.ended) kept ∙ sym n.ended)
  where
    whole : (a b : List Item) (s t : Option (Tree Item)) (r u e g : Option ℕ) → a ≡ b → s ≡ t → r ≡ u → e ≡ g
        → ◌≡◌ {A = model.Version} (record { items = a; tree = s; retired = r; ended = e }) (record { items = b; tree = t; retired = u; ended = g })
    whole a b s t r u e g h i j k = cc

    kept : keeping.is_kept pins q (version_of items nodes x) ≡ is_kept y
    kept = ap₂ (λ r b. is_none r || b) (sym n.retired) (pinned_counted q pins ∙ ap (nat_lt 0) (sym count))

pub noted_after : (entry : ℕ) (pins : List (Option Pin)) (items : List Item) (tables : List TableOf) (a b : Held Filed) → ((j : ℕ) (c : Circuit) → slice_get a.circuits j ≡ Some c → place_of a.circuits c.name ≡ Some j)
    → Becomes (λ q x y. IsNotedBy entry x y) a b → ((q : Place) (y : Version) → held_at b q ≡ Some y → y.pins ≡ pins_on q pins)
    → map (noted_circuit entry pins) (circuits_of items a.nodes tables a.circuits) ≡ circuits_of items a.nodes tables b.circuits
noted_after entry pins items tables a b named becomes counted =
    noted_seen entry pins items a.nodes tables a.circuits b.circuits becomes.alike named (λ q x y e g. noted_one entry pins items a.nodes q x y (counted q y g) (becomes.each q x y e g))
