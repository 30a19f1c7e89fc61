-- What a settled version comes to, as the tables tell it.
use Rattle.std.proofs.Common.{◌≡◌, ◌<◌, ◌≤◌, ℕ, length, refl, sym, ap, ◌∙◌, subst, Bool, true, false, ◌||◌, inl, inr}
use Rattle.std.specs.Prelude.{Option, Some, None, is_some, IsSome, MatchOption}
use Rattle.std.specs.List.{list_any}
use Rattle.seg_tree.specs.Trees.{name_of}
use Rattle.seg_tree.specs.Table.{tree, root_tree}
use Rattle.ps_script.specs.declared.name.Place.{Place}
use Rattle.ps_versions.specs.Lookup.{place_of, circuit_in, root_of}
use Rattle.ps_versions.specs.Records.{record_at, IsPassedIn}
use Rattle.ps_versions.specs.Questions as questions
use Rattle.ps_versions.specs.Questions.{segments, segments_maybe, kept_by, is_sum, has_sum, has_passed, below_have_sums, settled_in, first_named}
use Rattle.ps_versions.proofs.Pruning.{any_first}
use Rattle.ps_reach.specs.declared.record.Record.{Record}
use Rattle.ps_journal.specs.declared.seats.Pin.{Pin}
use Rattle.ps_journal.specs.declared.commands.Outcome.{Outcome}
use Rattle.ps_journal.specs.declared.commands.Outcome.TheVariants.{Done}
use Rattle.ps_journal.specs.declared.replies.Reply.{Reply}
use Rattle.ps_journal.specs.declared.replies.Reply.TheVariants.{Unsettled, Memory}
use Rattle.ps_journal.specs.State.{State, Version, Circuit, Finds}
use Rattle.ps_journal.specs.Segments as model
use Rattle.ps_journal.specs.Keeping.{unpinned}
use Rattle.ps_journal.specs.Summing.{IsIdentity, ComesTo, ComesToAt, Sums}
use Rattle.ps_journal.specs.Summing as summing
use Rattle.ps_views.specs.Views.{version_of, circuit_of}
use Rattle.ps_views.specs.Fields.{Fields, IsSound, held_at, passed}
use Rattle.ps_views.specs.Stands.{Stands}
use Rattle.ps_views.specs.Pinned.{KeptAt}
use Rattle.ps_views.specs.declared.filed.Filed.{Filed}
use Rattle.ps_views.proofs.Growth.{Stood, stood_at}
use Rattle.ps_views.proofs.Knowledge.{AllKnown, version_known, settled_kept}
use Rattle.ps_views.proofs.Missing.{missing_told}
use Rattle.ps_views.proofs.ReadyLaws.{rooted_at}
use Rattle.ps_views.proofs.Replies.{finds_at, finds_same}
use Rattle.ps_views.proofs.Settlements.{comes_to_nothing, comes_to_root, comes_to_limit}
use Rattle.ps_book.specs.Conclusions.{TellsSum, IsDeciding, ConcludesSum, ConcludesDone}

or_first : (a b : Bool) → (a || b) ≡ true → b ≡ false → a ≡ true
or_first true b e g = refl
or_first false true e g = cc
or_first false false e g = cc

sum_some : (o : Option (ℕ × Filed)) → is_sum passed o ≡ true → (e : ℕ × Filed) × (o ≡ Some e)
sum_some None e = cc
sum_some (Some r) e = (r, refl)

passed_some : (o : Option (ℕ × Filed)) → IsPassedIn passed o → (e : ℕ × Filed) × (o ≡ Some e)
passed_some None h = absurd h
passed_some (Some r) h = (r, refl)

module _ (f : Fields) (sound : IsSound f) (p : Place) (k : KeptAt f p) where
  -- a circuit is on 1 to 64 qubits
  pub wide_at : (1 ≤ k.circuit.qubits) × (k.circuit.qubits ≤ 64)
  wide_at = by (place_of f.versions.circuits p.name) k.circuit_is
    where
      by : (o : Option ℕ) → circuit_in f.versions.circuits o ≡ Some k.circuit → (1 ≤ k.circuit.qubits) × (k.circuit.qubits ≤ 64)
      by None e = cc
      by (Some i) e = sound.wide i k.circuit e

  root_is : (r : Option ℕ) → root_of (held_at f.versions p) ≡ r → k.version.root ≡ r
  root_is r e = sym (ap root_of k.version_is) ∙ e

  stood : Stood f.versions.circuits k.version
  stood = stood_at f.versions.circuits p.name p.version k.version k.version_is

  -- ---- in a state that the fields stand for
  module _ (t : State) (so : Stands f t) where
    known : AllKnown t.published f.versions.kept (segments_maybe (root_tree f.versions.nodes k.version.root))
    known = let s = stood in version_known f t sound so s.index s.number s.circuit k.version s.at s.there k.kept

    comes : (r : Record) → ((c : Circuit) → c.qubits ≡ k.circuit.qubits → ComesTo t c (version_of f.items f.versions.nodes k.version) r) → ComesToAt t p r
    comes r h =
        let x = finds_at f t so sound.tabled p k.circuit k.version k.circuit_is k.version_is in
        record {
          circuit = circuit_of f.items f.versions.nodes x.0 k.circuit;
          version = version_of f.items f.versions.nodes k.version;
          found = x.1;
          comes = h (circuit_of f.items f.versions.nodes x.0 k.circuit) refl;
        }

    -- what is found there is what the tables keep
    pub seen_at : (c : Circuit) (v : Version) → Finds t p c v → (c.qubits ≡ k.circuit.qubits) × (v ≡ version_of f.items f.versions.nodes k.version)
    seen_at c v h =
        let x = finds_at f t so sound.tabled p k.circuit k.version k.circuit_is k.version_is in
        let s = finds_same t p c (circuit_of f.items f.versions.nodes x.0 k.circuit) v (version_of f.items f.versions.nodes k.version) h x.1 in
        (ap (λ (d : Circuit). d.qubits) s.0, s.1)

    settled_is : model.is_settled t.published (version_of f.items f.versions.nodes k.version).tree ≡ questions.is_settled passed f.versions
        (held_at f.versions p)
    settled_is =
        let s = stood in
        settled_kept f t sound so s.index s.number s.circuit k.version s.at s.there k.kept
        ∙ ap (λ o. settled_in f.versions.kept passed (root_tree f.versions.nodes (root_of o))) (sym k.version_is)

  -- ---- where there is no item
  pub comes_to_identity : (n : ℕ) (r : Record) → root_of (held_at f.versions p) ≡ None → n ≡ k.circuit.qubits → IsIdentity n r → (t : State)
      → Stands f t → ComesToAt t p r
  comes_to_identity n r none e h t so =
      comes t so r (λ c q. comes_to_nothing f t c k.version r (root_is None none) (subst (λ m. IsIdentity m r) (e ∙ sym q) h))

  -- ---- where there is a root
  module _ (root : ℕ) (at : root_of (held_at f.versions p) ≡ Some root) (settled : questions.is_settled passed f.versions (held_at f.versions p) ≡ true) where
    pub root_there : root < length f.versions.nodes
    root_there = rooted_at f sound p k.version k.version_is root (root_is (Some root) at)

    named : name_of (tree f.versions.nodes root) ≡ Some root
    named = sound.grown.named root root_there

    settled_here : settled_in f.versions.kept passed (root_tree f.versions.nodes k.version.root) ≡ true
    settled_here = ap (λ o. settled_in f.versions.kept passed (root_tree f.versions.nodes (root_of o))) (sym k.version_is) ∙ settled

    first_is : (o : Option ℕ) → o ≡ questions.first_passed passed f.versions (held_at f.versions p)
        → first_named (has_passed f.versions.kept passed) (segments_maybe (root_tree f.versions.nodes k.version.root)) ≡ o
    first_is o e = ap (λ v. questions.first_passed passed f.versions v) (sym k.version_is) ∙ sym e

    -- the root's sum
    pub root_decides : None ≡ questions.first_passed passed f.versions (held_at f.versions p) → IsDeciding f p root
    root_decides none =
        let kept = f.versions.kept in
        let s = tree f.versions.nodes root in
        let here : k.version.root ≡ Some root = root_is (Some root) at in
        let no_any : list_any (has_passed kept passed) (segments s) ≡ false =
        sym (any_first kept passed (segments s)) ∙ ap is_some (ap (λ r. first_named (has_passed kept passed)
        (segments_maybe (root_tree f.versions.nodes r))) (sym here) ∙ first_is None none) in
        let sum : has_sum kept passed s ≡ true = or_first (has_sum kept passed s) (list_any (has_passed kept passed) (segments s))
        (ap (λ r. settled_in kept passed (root_tree f.versions.nodes r)) (sym here) ∙ settled_here) no_any in
        let e = sum_some (record_at kept root) (ap (λ n. is_sum passed (kept_by kept n)) (sym named) ∙ sum) in
        record {
          entry = e.0;
          kept = e.1;
          comes = λ t so. comes t so e.0.1.shared.value (λ c q. comes_to_root f t c k.version root e.0 here (known t so) settled_here
              (first_is None none) named e.1);
        }

    -- the first limit
    pub limit_decides : (m : ℕ) → Some m ≡ questions.first_passed passed f.versions (held_at f.versions p) → IsPassedIn passed (record_at f.versions.kept m)
        → (is_some (record_at f.versions.kept root) ≡ true → below_have_sums f.versions.kept passed (tree f.versions.nodes root) ≡ true) → IsDeciding f p m
    limit_decides m some h below =
        let e = passed_some (record_at f.versions.kept m) h in
        record {
          entry = e.0;
          kept = e.1;
          comes = λ t so. comes t so e.0.1.shared.value (λ c q. comes_to_limit f t c k.version root m e.0 (root_is (Some root) at) (known t so)
              (first_is (Some m) some) named below e.1);
        }

  -- ---- how a question ends
  pub done_unsettled : (m : ℕ) (r : Reply) → r ≡ Unsettled m → questions.is_settled passed f.versions (held_at f.versions p) ≡ false
      → Some m ≡ questions.missing f.versions (held_at f.versions p) → ConcludesDone f p r
  done_unsettled m r is off told pin first t i seat so pinned =
      let x = finds_at f t so sound.tabled p k.circuit k.version k.circuit_is k.version_is in
      let v = version_of f.items f.versions.nodes k.version in
      let found : Finds t pin.first (circuit_of f.items f.versions.nodes x.0 k.circuit) v = subst
      (λ q. Finds t q (circuit_of f.items f.versions.nodes x.0 k.circuit) v) (sym first) x.1 in
      let number : m ≡ model.missing t.published v.tree = missing_told f t sound so p k.version m k.version_is k.kept told in
      inl (subst (λ y. Sums t i seat Done y (unpinned i seat t)) (ap Unsettled (sym number) ∙ sym is) (summing.unsettled pinned found (settled_is t so ∙ off)))

  pub done_settled : (r : Reply) → questions.is_settled passed f.versions (held_at f.versions p) ≡ true → TellsSum f p r → ConcludesDone f p r
  done_settled r on told pin first t i seat so pinned =
      let h = told.comes t so in
      let s = seen_at t so h.circuit h.version h.found in
      let found : Finds t pin.first h.circuit h.version = subst (λ q. Finds t q h.circuit h.version) (sym first) h.found in
      inl (subst (λ y. Sums t i seat Done y (unpinned i seat t)) (sym told.reply)
      (summing.sums pinned found (ap (λ (w : Version). model.is_settled t.published w.tree) s.1 ∙ settled_is t so ∙ on) h.comes))

pub sum_starved : (f : Fields) (pin : Pin) (o : Outcome) (r : Reply) → r ≡ Memory → ConcludesSum f pin o r
sum_starved f pin o r e t i seat so pinned = inr (record { reply = e; state = refl })

-- what a look-up found is there
pub found_some : {X : Type 0} (o : Option X) (r : Option (ℕ × Filed)) (P : X → Type 0) → MatchOption o (r ≡ None) P → is_some r ≡ true → IsSome o
found_some None r P h e = sym (ap is_some h) ∙ e
found_some (Some x) r P h e = refl
