-- What is given to a seat, or told to it where nothing is left.
use Rattle.std.proofs.Common.{◌≡◌, ◌<◌, ℕ, zero, suc, List, [], ◌∷◌, length, refl, sym, ap, ◌∙◌, subst, arith, Bool, true, false, ◌&&◌, inl, inr}
use Rattle.std.specs.Prelude.{Option, Some, None, is_none, is_some, IsSome, IfSome, count_by, slice_index_or}
use Rattle.std.specs.declared.sync.Arc.{Arc}
use Rattle.std.specs.declared.alloc.Global.{Global}
use Rattle.seg_tree.specs.Trees.{Tree, leaf, branch, name_of, run}
use Rattle.seg_tree.specs.Table.{tree}
use Rattle.seg_tree.specs.declared.node.Seen.TheVariants as seen
use Rattle.seg_tree.specs.Seen.{Shows}
use Rattle.ps_script.specs.declared.name.Place.{Place}
use Rattle.ps_versions.specs.Lookup.{circuit_at}
use Rattle.ps_versions.specs.Records.{record_at}
use Rattle.ps_versions.specs.Reached.{is_segment}
use Rattle.ps_versions.specs.Questions.{kept_by, is_sum, has_sum, sides_have_sums, lacks, is_ready, is_settled}
use Rattle.ps_versions.specs.Choices.{lightest, lighter_of, open_at, open_segments, all_settled}
use Rattle.ps_versions.specs.declared.data.Ready.{Ready}
use Rattle.ps_reach.specs.declared.record.Record.{Record}
use Rattle.ps_reach.specs.declared.task.Work.TheVariants.{Items, Children}
use Rattle.ps_journal.specs.declared.seats.Pin.{Pin}
use Rattle.ps_journal.specs.declared.replies.Reply.{Reply}
use Rattle.ps_journal.specs.declared.replies.Reply.TheVariants.{Idle, NoPin}
use Rattle.ps_journal.specs.State.{Item, State, pin_of, unclaimed}
use Rattle.ps_journal.specs.Claiming.{Standing, claims_node, LooksAt, all, own, Nexts, no_pin, claimed, kept_versions, pinned_versions}
use Rattle.ps_views.specs.Views.{run_of_leaf, run_at}
use Rattle.ps_views.specs.Fields.{Fields, IsSound, held_at, pin_at, passed}
use Rattle.ps_views.specs.Stands.{Stands, Leaves}
use Rattle.ps_views.specs.Pinned.{KeptAt}
use Rattle.ps_views.specs.OpenWhere.{open_pinned, AreSettledAt}
use Rattle.ps_views.specs.Readiness.{IsReadyAt}
use Rattle.ps_views.specs.Tasks.{Gives, given, starved, IsFiledAt, IsWorkAt, SettlesIn}
use Rattle.ps_views.specs.declared.filed.Filed.{Filed}
use Rattle.ps_views.proofs.Fewest.{weight_by, lightest_all, lighter_all}
use Rattle.ps_views.proofs.ReadyLaws.{all_ready_at, all_ready}
use Rattle.ps_views.proofs.Pinned.{has_pinned}
use Rattle.ps_views.proofs.TaskLaws.{Picks, picks_kept, picks_pinned, given_nexts, given_stands, idle_nexts, settled_nexts}
use Rattle.ps_book.specs.Wanting.{NextsOr}
use Rattle.ps_book.specs.Counts.{claims_of}
use Rattle.ps_book.specs.declared.claims.Claims.{Claims}
use Rattle.std.proofs.lemmas.List.{take_all}

-- ---- what is answered, once the old claim has ended
module _ (f : Fields) (t : State) (i seat : ℕ) (sound : IsSound f) (so : Stands f (unclaimed seat t)) where
  pub idle_leaves : (r : Reply) → r ≡ Idle → all_settled passed f.versions ≡ true → Leaves (λ new. NextsOr t i seat false r new) f
  idle_leaves r e s = record {
    state = unclaimed seat t;
    does_so = inl
        (subst (λ x. Nexts t i seat false x (unclaimed seat t)) (sym e) (idle_nexts f t i seat sound so s));
    stands = so;
  }

  pin_told : pin_of t seat ≡ pin_at f seat
  pin_told = ap (λ ps. slice_index_or ps seat None) so.pins

  pub no_pin_leaves : (r : Reply) → r ≡ NoPin → pin_at f seat ≡ None → Leaves (λ new. NextsOr t i seat true r new) f
  no_pin_leaves r e none = record {
    state = unclaimed seat t;
    does_so = inl
        (subst (λ x. Nexts t i seat true x (unclaimed seat t)) (sym e) (no_pin (pin_told ∙ none)));
    stands = so;
  }

  pub settled_leaves : (pin : Pin) (r : Reply) → pin_at f seat ≡ Some pin → AreSettledAt f pin → SettlesIn f pin r
      → Leaves (λ new. NextsOr t i seat true r new) f
  settled_leaves pin r e s (inl h) = record {
    state = unclaimed seat t;
    does_so = inl (subst (λ x. Nexts t i seat true x (unclaimed seat t)) (sym h.reply)
        (settled_nexts f t i seat sound so pin h.first h.second (has_pinned f seat pin sound e) s (pin_told ∙ e) (h.first_comes (unclaimed seat t) so)
        (h.second_comes (unclaimed seat t) so)));
    stands = so;
  }
  settled_leaves pin r e s (inr m) = record { state = unclaimed seat t; does_so = inr (record { reply = m; state = refl }); stands = so }

  gives_leaves : (pinned : Bool) (ss : List Standing) (r : Ready) (told : Reply) (g : Fields) → LooksAt t seat pinned ss
      → Picks f (unclaimed seat t) ss r → Gives f i seat r told g
      → Leaves (λ new. NextsOr t i seat pinned told new) g
  gives_leaves pinned ss r told g looks p (given {task = task} h e) = record {
    state = claimed i seat r.place r.node t;
    does_so = inl (given_nexts f t i seat sound so pinned ss r task looks p h);
    stands = subst (λ h. Stands h (claimed i seat r.place r.node t)) (sym e) (given_stands f t i seat sound so r);
  }
  gives_leaves pinned ss r told g looks p (starved e) = record {
    state = unclaimed seat t;
    does_so = inr (record { reply = refl; state = refl });
    stands = subst (λ h. Stands h (unclaimed seat t)) (sym e) so;
  }

  -- of all versions that are kept
  pub given_leaves : (r : Ready) (told : Reply) (g : Fields) → lightest (weight_by f.claims) (open_segments passed f.versions) ≡ Some r
      → Gives f i seat r told g
      → Leaves (λ new. NextsOr t i seat false told new) g
  given_leaves r told g e h = gives_leaves false (kept_versions t) r told g all (picks_kept f (unclaimed seat t) sound so r e) h

  -- of those that the seat has pinned
  pub given_pinned_leaves : (pin : Pin) (r : Ready) (told : Reply) (g : Fields) → pin_at f seat ≡ Some pin
      → lightest (weight_by f.claims) (open_pinned f.versions pin) ≡ Some r → Gives f i seat r told g
      → Leaves (λ new. NextsOr t i seat true told new) g
  given_pinned_leaves pin r told g p e h =
      gives_leaves true (pinned_versions t pin) r told g (own (pin_told ∙ p))
      (picks_pinned f (unclaimed seat t) sound so pin (has_pinned f seat pin sound p) r e) h

-- ---- which segments are ready
module _ (f : Fields) (sound : IsSound f) (w : ℕ → ℕ) where
  ready_at : (p : Place) → KeptAt f p → (r : Ready) → lightest w (open_at passed f.versions p) ≡ Some r → IsReadyAt f r
  ready_at p k r e = lightest_all w (IsReadyAt f) (open_at passed f.versions p) r (all_ready_at f sound p k.version k.version_is k.kept) e

  pub ready_all : (r : Ready) → lightest w (open_segments passed f.versions) ≡ Some r → IsReadyAt f r
  ready_all r e = lightest_all w (IsReadyAt f) (open_segments passed f.versions) r (all_ready f sound) e

  pub ready_one : (p : Place) → KeptAt f p → (o : Option Ready) → o ≡ lightest w (open_at passed f.versions p) → IfSome o (IsReadyAt f)
  ready_one p k None e = tt
  ready_one p k (Some r) e = ready_at p k r (sym e)

  pub ready_two : (p q : Place) → KeptAt f p → KeptAt f q → (o : Option Ready)
      → o ≡ lighter_of w (lightest w (open_at passed f.versions p)) (lightest w (open_at passed f.versions q)) → IfSome o (IsReadyAt f)
  ready_two p q k l None e = tt
  ready_two p q k l (Some r) e =
      lighter_all w (IsReadyAt f) (lightest w (open_at passed f.versions p)) (lightest w (open_at passed f.versions q)) r (ready_at p k) (ready_at q l) (sym e)

module _ (f : Fields) (pin : Pin) where
  pub settled_one : (o : Option Ready) → pin.second ≡ None → is_none o ≡ is_settled passed f.versions (held_at f.versions pin.first) → o ≡ None
      → AreSettledAt f pin
  settled_one o none s e = record { first = sym s ∙ ap is_none e; second = λ p h. absurd (no p (sym none ∙ h)) }
    where
      no : (p : Place) → None ≡ Some p → ⊥
      no p q = cc

  both : (a b : Bool) → (a && b) ≡ true → (a ≡ true) × (b ≡ true)
  both true b e = (refl, e)
  both false b e = cc

  -- the second version is looked at behind the first, or before it
  pub settled_behind : (q : Place) (o : Option Ready) → pin.second ≡ Some q
      → is_none o ≡ (is_settled passed f.versions (held_at f.versions pin.first) && is_settled passed f.versions (held_at f.versions q)) → o ≡ None
      → AreSettledAt f pin
  settled_behind q o second s e =
      let parts = both (is_settled passed f.versions (held_at f.versions pin.first)) (is_settled passed f.versions (held_at f.versions q))
      (sym s ∙ ap is_none e) in
      record { first = parts.0; second = λ p h. subst (λ x. is_settled passed f.versions (held_at f.versions x) ≡ true) (same p (sym second ∙ h)) parts.1 }
    where
      same : (p : Place) → Some q ≡ Some p → q ≡ p
      same p e = cc

  pub settled_before : (q : Place) (o : Option Ready) → pin.second ≡ Some q
      → is_none o ≡ (is_settled passed f.versions (held_at f.versions q) && is_settled passed f.versions (held_at f.versions pin.first)) → o ≡ None
      → AreSettledAt f pin
  settled_before q o second s e = settled_behind q o second (s ∙ swap (is_settled passed f.versions (held_at f.versions q))
      (is_settled passed f.versions (held_at f.versions pin.first))) e
    where
      swap : (a b : Bool) → (a && b) ≡ (b && a)
      swap true true = refl
      swap true false = refl
      swap false true = refl
      swap false false = refl

-- what is kept is there
pub kept_there : (f : Fields) (p : Place) → KeptAt f p → IsSome (held_at f.versions p)
kept_there f p k = ap is_some k.version_is

pub kept_circuit : (f : Fields) (p : Place) → KeptAt f p → IsSome (circuit_at f.versions.circuits p.name)
kept_circuit f p k = ap is_some k.circuit_is

-- ---- a ready segment
module _ (f : Fields) (r : Ready) (h : IsReadyAt f r) where
  pub ready_segment : is_segment f.versions (held_at f.versions r.place) r.node ≡ true
  ready_segment = ap (λ o. is_segment f.versions o r.node) h.held ∙ h.segment

  pub ready_sides : sides_have_sums f.versions.kept passed (tree f.versions.nodes r.node) ≡ true
  ready_sides = second (lacks f.versions.kept (tree f.versions.nodes r.node)) (sides_have_sums f.versions.kept passed (tree f.versions.nodes r.node)) h.ready
    where
      second : (a b : Bool) → (a && b) ≡ true → b ≡ true
      second true b e = e
      second false b e = cc

-- a node that keeps something has a place for it
pub record_within : (kept : List (Option (ℕ × Filed))) (k : ℕ) → IsSome (record_at kept k) → k < length kept
record_within [] k h = cc
record_within (x ∷ xs) zero h = omega arith
record_within (x ∷ xs) (suc k) h = omega (arith, record_within xs k h)

-- ---- the work at a segment
module _ (f : Fields) where
  pub leaf_work : (k : ℕ) (numbers : List ℕ) (a : Arc (List Item) Global) → tree f.versions.nodes k ≡ leaf (Some k) numbers
      → a.value ≡ run_at f.items f.versions.nodes k → IsWorkAt f (tree f.versions.nodes k) (Items a)
  leaf_work k numbers a e h = subst (λ s. IsWorkAt f s (Items a)) (sym e) (h ∙ ap (λ s. run_of_leaf f.items (run s)) e)

  sum_some : (o : Option (ℕ × Filed)) → is_sum passed o ≡ true → IsSome o
  sum_some None e = cc
  sum_some (Some r) e = refl

  side_some : (k : ℕ) → name_of (tree f.versions.nodes k) ≡ Some k → has_sum f.versions.kept passed (tree f.versions.nodes k) ≡ true
      → IsSome (record_at f.versions.kept k)
  side_some k named e = sum_some (record_at f.versions.kept k) (ap (λ n. is_sum passed (kept_by f.versions.kept n)) (sym named) ∙ e)

  -- a branch and its two sides
  pub record IsBranch (k left right : ℕ) : Type 0 where
    pub same : tree f.versions.nodes k ≡ branch (Some k) (tree f.versions.nodes left) (tree f.versions.nodes right)
    pub left_named : name_of (tree f.versions.nodes left) ≡ Some left
    pub right_named : name_of (tree f.versions.nodes right) ≡ Some right

  pub branch_of : (ns : List (Tree ℕ)) (k left right : ℕ) → ns ≡ f.versions.nodes → Shows ns k (seen.Branch left right) → IsBranch k left right
  branch_of ns k left right e h = let s = subst (λ ms. Shows ms k (seen.Branch left right)) e h in record { same = s.0; left_named = s.3; right_named = s.4 }

  module _ (k left right : ℕ) (b : IsBranch k left right) (ready : is_ready f.versions.kept passed (tree f.versions.nodes k) ≡ true) where
    sides : (has_sum f.versions.kept passed (tree f.versions.nodes left) ≡ true) × (has_sum f.versions.kept passed (tree f.versions.nodes right) ≡ true)
    sides = parts (lacks f.versions.kept (branch (Some k) (tree f.versions.nodes left) (tree f.versions.nodes right)))
        (has_sum f.versions.kept passed (tree f.versions.nodes left)) (has_sum f.versions.kept passed (tree f.versions.nodes right))
        (ap (is_ready f.versions.kept passed) (sym b.same) ∙ ready)
      where
        parts : (a b c : Bool) → (a && (b && c)) ≡ true → (b ≡ true) × (c ≡ true)
        parts true true c e = (refl, e)
        parts true false c e = cc
        parts false b c e = cc

    pub left_some : IsSome (record_at f.versions.kept left)
    left_some = side_some left b.left_named sides.0

    pub right_some : IsSome (record_at f.versions.kept right)
    right_some = side_some right b.right_named sides.1

    filed_at : (n : ℕ) → name_of (tree f.versions.nodes n) ≡ Some n → IsSome (record_at f.versions.kept n) → (r : Record)
        → ((e : ℕ × Filed) → record_at f.versions.kept n ≡ Some e → r ≡ e.1.shared.value)
        → IsFiledAt f (tree f.versions.nodes n) r
    filed_at n named there r h = by (record_at f.versions.kept n) refl there
      where
        by : (o : Option (ℕ × Filed)) → record_at f.versions.kept n ≡ o → IsSome o → IsFiledAt f (tree f.versions.nodes n) r
        by None q s = cc
        by (Some e) q s = record { number = n; named = named; entry = e; kept = q; same = sym (h e q) }

    pub branch_work : (x y : Arc Record Global) → ((e : ℕ × Filed) → record_at f.versions.kept left ≡ Some e → x.value ≡ e.1.shared.value)
        → ((e : ℕ × Filed) → record_at f.versions.kept right ≡ Some e → y.value ≡ e.1.shared.value) → IsWorkAt f (tree f.versions.nodes k) (Children x y)
    branch_work x y g h = subst (λ s. IsWorkAt f s (Children x y)) (sym b.same)
        (filed_at left b.left_named left_some x.value g, filed_at right b.right_named right_some y.value h)

-- the weights that claims give are those of all seats
pub claims_weigh : (c : Claims) → length c.seats ≡ 64 → claims_of c ≡ weight_by c.seats
claims_weigh c e = ap (λ seats k. count_by (claims_node (Some k)) seats) (take_all 64 c.seats (omega (arith, e)))
