-- What each step keeps: the versions, what was published, and what other seats have pinned and claimed.
use Rattle.std.proofs.Common.{◌≡◌, ◌+◌, ℕ, zero, suc, Bool, true, false, cond, ◌||◌, inl, inr, List, length, refl, ap, ◌∙◌, subst, eqb}
use Rattle.std.specs.Prelude.{Option, Some, None, slice_index_or, slice_set, is_none}
use Rattle.std.specs.declared.sync.Arc.{Arc}
use Rattle.std.specs.declared.alloc.Global.{Global}
use Rattle.std.proofs.lemmas.List.{length-set}
use Rattle.std.proofs.lemmas.Bool.{eqb-true}
use Rattle.ps_script.specs.declared.name.Place.{Place}
use Rattle.ps_reach.specs.declared.record.Record.{Record}
use Rattle.ps_journal.specs.declared.seats.Pin.{Pin}
use Rattle.ps_journal.specs.declared.commands.Cmd.{Cmd}
use Rattle.ps_journal.specs.declared.commands.Cmd.TheVariants as cmd
use Rattle.ps_journal.specs.declared.commands.Outcome.{Outcome}
use Rattle.ps_journal.specs.declared.replies.Reply.{Reply}
use Rattle.ps_journal.specs.State.{Version, Circuit, State, Published, Finds, circuit_at, version_at, with_circuit, with_next, with_terms, released, unclaimed}
use Rattle.ps_journal.specs.Segments.{published_at}
use Rattle.ps_journal.specs.Keeping.{is_kept, is_pinned, ended_by, noted_version, noted_circuit, noted, unpinned}
use Rattle.ps_journal.specs.Opening as opening
use Rattle.ps_journal.specs.Opening.{Opens, opened}
use Rattle.ps_journal.specs.Splicing as splicing
use Rattle.ps_journal.specs.Splicing.{Splices, next_version, committed}
use Rattle.ps_journal.specs.Retiring as retiring
use Rattle.ps_journal.specs.Retiring.{Retires, retired_version, retired_in, retired}
use Rattle.ps_journal.specs.Pinning as pinning
use Rattle.ps_journal.specs.Pinning.{Pins, pinned}
use Rattle.ps_journal.specs.Claiming as claiming
use Rattle.ps_journal.specs.Claiming.{Nexts, claimed}
use Rattle.ps_journal.specs.Publishing as publishing
use Rattle.ps_journal.specs.Publishing.{Publishes, IsOpen, published, refused}
use Rattle.ps_journal.specs.Judging as judging
use Rattle.ps_journal.specs.Judging.{Answers}
use Rattle.ps_journal.specs.Summing as summing
use Rattle.ps_journal.specs.Summing.{Sums}
use Rattle.ps_journal.specs.Showing as showing
use Rattle.ps_journal.specs.Showing.{Reads}
use Rattle.ps_journal.specs.Step.{Step, Serves, starved, serves, wants}
use Rattle.ps_history.specs.Stages.{Later}
use Rattle.ps_history.proofs.Lists.{some_same, unwritten}
use Rattle.ps_history.proofs.Lookups.{circuit_front, circuit_changed, version_more, version_changed, finds_noted}

-- ---- the parts
-- the version at the place is found again, and it has not ended where the place is pinned
pub record Again (new : State) (p : Place) (c : Circuit) (v : Version) : Type 0 where
  pub circuit : Circuit
  pub version : Version
  pub found : Finds new p circuit version
  pub qubits : circuit.qubits ≡ c.qubits
  pub items : version.items ≡ v.items
  pub tree : version.tree ≡ v.tree
  pub ended : is_pinned new.pins p ≡ true → version.ended ≡ v.ended

-- what is kept by seat is that of before, but for this one
pub record Others {A : Type 0} (seat : ℕ) (old new : List (Option A)) : Type 0 where
  pub others : (n : ℕ) → eqb seat n ≡ false → slice_index_or new n None ≡ slice_index_or old n None
  pub count : length new ≡ length old

abbrev pub Stand : List Published → List Published → Type 0
Stand old new = (k : ℕ) (p : Published) → published_at old k ≡ Some p → published_at new k ≡ Some p

pub record Passes (seat : ℕ) (t new : State) : Type 0 where
  pub again : (p : Place) (c : Circuit) (v : Version) → Finds t p c v → Again new p c v
  pub stands : Stand t.published new.published
  pub pins : Others seat t.pins new.pins
  pub claims : Others seat t.claims new.claims

module _ {A : Type 0} (seat : ℕ) (xs : List (Option A)) where
  pub others_same : Others seat xs xs
  others_same = record { others = λ n e. refl; count = refl }

  pub others_set : (a : Option A) → Others seat xs (slice_set xs seat a)
  others_set a = record { others = λ n e. unwritten xs seat n a e; count = length-set xs seat a }

or_true : (b : Bool) → (b || true) ≡ true
or_true true = refl
or_true false = refl

kept_pinned : (i : ℕ) (pins : List (Option Pin)) (p : Place) (v : Version) → is_pinned pins p ≡ true → ended_by i (is_kept pins p v) v.ended ≡ v.ended
kept_pinned i pins p v e = ap (λ b. ended_by i (is_none v.retired || b) v.ended) e ∙ ap (λ b. ended_by i b v.ended) (or_true (is_none v.retired))

-- the version with a retirement, or without
pub record Alike (v w : Version) : Type 0 where
  pub items : w.items ≡ v.items
  pub tree : w.tree ≡ v.tree
  pub ended : w.ended ≡ v.ended

pub note : (i : ℕ) (u : State) (p : Place) (c d : Circuit) (v w : Version) → Finds u p d w → d.qubits ≡ c.qubits → Alike v w → Again (noted i u) p c v
note i u p c d v w f q a = record {
  circuit = noted_circuit i u.pins d;
  version = noted_version i (is_kept u.pins p w) w;
  found = finds_noted i u p d w f;
  qubits = q;
  items = a.items;
  tree = a.tree;
  ended = λ e. kept_pinned i u.pins p w e ∙ a.ended;
}

module _ (seat : ℕ) (t : State) where
  pub passes_same : (new : State) → new.circuits ≡ t.circuits → Stand t.published new.published → Others seat t.pins new.pins
      → Others seat t.claims new.claims → Passes seat t new
  passes_same new same s a b = record {
    again = λ p c v f. record {
      circuit = c;
      version = v;
      found = record { circuit = ap (λ cs. circuit_at cs p.name) same ∙ f.circuit; version = f.version };
      qubits = refl;
      items = refl;
      tree = refl;
      ended = λ e. refl;
    };
    stands = s;
    pins = a;
    claims = b;
  }

  pub passes_noted : (i : ℕ) (u : State) → u.circuits ≡ t.circuits → Stand t.published u.published → Others seat t.pins u.pins
      → Others seat t.claims u.claims → Passes seat t (noted i u)
  passes_noted i u same s a b = record {
    again =
        λ p c v f. note i u p c c v v (record { circuit = ap (λ cs. circuit_at cs p.name) same ∙ f.circuit; version = f.version }) refl
        (record { items = refl; tree = refl; ended = refl });
    stands = s;
    pins = a;
    claims = b;
  }

  same_published : Stand t.published t.published
  same_published k p e = e

  same_pins : Others seat t.pins t.pins
  same_pins = others_same seat t.pins

  same_claims : Others seat t.claims t.claims
  same_claims = others_same seat t.claims

  pub passes_nothing : Passes seat t t
  passes_nothing = passes_same t refl same_published same_pins same_claims

  pub passes_terms : (n : ℕ) → Passes seat t (with_terms n t)
  passes_terms n = passes_same (with_terms n t) refl same_published same_pins same_claims

  pub passes_unclaimed : Passes seat t (unclaimed seat t)
  passes_unclaimed = passes_same (unclaimed seat t) refl same_published same_pins (others_set seat t.claims None)

  pub passes_unpinned : (i : ℕ) → Passes seat t (unpinned i seat t)
  passes_unpinned i = passes_noted i (released seat t) refl same_published (others_set seat t.pins None) same_claims

  -- ---- each command
  opens_passes : (i : ℕ) (name text : List ℕ) (r : Reply) (new : State) → Opens t i name text r new → Passes seat t new
  opens_passes i name text r new (opening.name_taken e) = passes_nothing
  opens_passes i name text r new (opening.circuits_full e f) = passes_nothing
  opens_passes i name text r new (opening.bad e f g h) = passes_nothing
  opens_passes i name text r new (opening.opens {c = d} e f g) = record {
    again = λ p c v h. record {
      circuit = c;
      version = v;
      found = record { circuit = circuit_front t.circuits _ p.name c h.circuit; version = h.version };
      qubits = refl;
      items = refl;
      tree = refl;
      ended = λ e. refl;
    };
    stands = same_published;
    pins = same_pins;
    claims = same_claims;
  }

  commits_again : (name : List ℕ) (w : Version) (from to : ℕ) (xs : _) (p : Place) (c : Circuit) (v : Version) → Finds t p c v
      → Again (committed name w from to xs t) p c v
  commits_again name w from to xs p c v f =
      elim (circuit_changed (with_next (next_version t.names w from to xs)) (λ d. refl) t.circuits name p.name c f.circuit) [
        | inl e ↦
            record { circuit = c; version = v; found = record { circuit = e; version = f.version }; qubits = refl; items = refl; tree = refl; ended = λ _. refl }
        | inr e ↦ record {
          circuit = with_next (next_version t.names w from to xs) c;
          version = v;
          found = record { circuit = e.0; version = version_more c v (next_version t.names w from to xs) p.version f.version };
          qubits = refl;
          items = refl;
          tree = refl;
          ended = λ _. refl;
        }
      ]

  splices_passes : (name : List ℕ) (base from to : ℕ) (block : List ℕ) (r : Reply) (new : State) → Splices t name base from to block r new → Passes seat t new
  splices_passes name base from to block r new (splicing.no_circuit e) = passes_nothing
  splices_passes name base from to block r new (splicing.stale e f) = passes_nothing
  splices_passes name base from to block r new (splicing.span e f g h) = passes_nothing
  splices_passes name base from to block r new (splicing.bad e f g) = passes_nothing
  splices_passes name base from to block r new (splicing.too_long e f g) = passes_nothing
  splices_passes name base from to block r new (splicing.nothing e f g h) = passes_nothing
  splices_passes name base from to block r new (splicing.commits {v = w} {items = xs} e f g h) = record {
    again = commits_again name w from to xs;
    stands = same_published;
    pins = same_pins;
    claims = same_claims;
  }

  retired_version_found : (i k n : ℕ) (c : Circuit) (v : Version) → version_at c n ≡ Some v
      → (w : Version) × (version_at (retired_in i k c) n ≡ Some w) × Alike v w
  retired_version_found i k zero c v e = absurd (cc)
  retired_version_found i k (suc n) c v e = elim (version_changed (retired_version i) c.versions k n v e) [
    | inl h ↦ (v, h, record { items = refl; tree = refl; ended = refl })
    | inr h ↦ (retired_version i v, h, record { items = refl; tree = refl; ended = refl })
  ]

  retires_again : (i : ℕ) (q p : Place) (c : Circuit) (v : Version) → Finds t p c v → Again (retired i q t) p c v
  retires_again i q p c v f =
      let u : State = record t { circuits = with_circuit (retired_in i q.version) q.name t.circuits } in
      elim (circuit_changed (retired_in i q.version) (λ d. refl) t.circuits q.name p.name c f.circuit) [
        | inl e ↦ note i u p c c v v (record { circuit = e; version = f.version }) refl (record { items = refl; tree = refl; ended = refl })
        | inr e ↦
            let w = retired_version_found i q.version p.version c v f.version in
            note i u p c (retired_in i q.version c) v w.0 (record { circuit = e.0; version = w.1 }) refl w.2
      ]

  retires_passes : (i : ℕ) (p : Place) (r : Reply) (new : State) → Retires t i p r new → Passes seat t new
  retires_passes i p r new (retiring.no_circuit e) = passes_nothing
  retires_passes i p r new (retiring.no_version e f) = passes_nothing
  retires_passes i p r new (retiring.is_latest e f) = passes_nothing
  retires_passes i p r new (retiring.was_retired e f g) = passes_nothing
  retires_passes i p r new (retiring.retires e f g) = record {
    again = retires_again i p;
    stands = same_published;
    pins = same_pins;
    claims = same_claims;
  }

  pin_passes : (i : ℕ) (first : Place) (second : Option Place) → Passes seat t (pinned i seat first second t)
  pin_passes i first second =
      passes_noted i (record t { pins = slice_set t.pins seat (Some (pinning.new_pin first second)) }) refl same_published
      (others_set seat t.pins (Some (pinning.new_pin first second))) same_claims

  pins_passes : (i : ℕ) (first : Place) (second : Option Place) (r : Reply) (new : State) → Pins t i seat first second r new → Passes seat t new
  pins_passes i first second r new (pinning.first_refused e) = passes_nothing
  pins_passes i first second r new (pinning.second_refused e f) = passes_nothing
  pins_passes i first second r new (pinning.widths e f g) = passes_nothing
  pins_passes i first second r new (pinning.pins_one e) = pin_passes i first None
  pins_passes i first second r new (pinning.pins_two {second = q} e f g) = pin_passes i first (Some q)

  nexts_passes : (i : ℕ) (own : Bool) (r : Reply) (new : State) → Nexts t i seat own r new → Passes seat t new
  nexts_passes i own r new (claiming.no_pin e) = passes_unclaimed
  nexts_passes i own r new (claiming.idle e) = passes_unclaimed
  nexts_passes i own r new (claiming.settled e f g h) = passes_unclaimed
  nexts_passes i own r new (claiming.gives {x = x} {node = k} e f g h) =
      passes_same (claimed i seat x.of.place k t) refl same_published same_pins (others_set seat t.claims _)

  one_more : (i k : ℕ) (r : Record) → published_at t.published k ≡ None → Stand t.published (published i k r t).published
  one_more i k r free n p e = by (eqb k n) refl
    where
      by : (b : Bool) → eqb k n ≡ b → cond b (Some (record { segment = k; entry = i; kept = r })) (published_at t.published n) ≡ Some p
      by true s =
          let same : k ≡ n = eqb-true k n s in let none : published_at t.published n ≡ None = subst (λ m. published_at t.published m ≡ None) same free
          in absurd (cc)
      by false s = e

  publishes_passes : (i : ℕ) (kept : Option (Arc Record Global)) (r : Reply) (new : State) → Publishes t i seat kept r new → Passes seat t new
  publishes_passes i kept r new (publishing.no_claim e) = passes_nothing
  publishes_passes i kept r new (publishing.dropped e f) = passes_unclaimed
  publishes_passes i kept r new (publishing.already e f g) = passes_unclaimed
  publishes_passes i kept r new (publishing.stands e f) = passes_nothing
  publishes_passes i kept r new (publishing.other_run e f g) = passes_unclaimed
  publishes_passes i kept r new (publishing.no_room {r = a} e f g h) =
      passes_same (refused seat (t.terms + publishing.size a.value) (unclaimed seat t)) refl same_published (others_set seat t.pins _)
      (others_set seat t.claims None)
  publishes_passes i kept r new (publishing.publishes {r = a} {claim = claim} e f g h k) =
      passes_same (published i claim.node a.value (unclaimed seat t)) refl (one_more i claim.node a.value f.free) same_pins (others_set seat t.claims None)

  answers_passes : (i : ℕ) (o : Outcome) (r : Reply) (new : State) → Answers t i seat o r new → Passes seat t new
  answers_passes i o r new (judging.no_pin e) = passes_nothing
  answers_passes i o r new (judging.gives_up e f) = passes_unpinned i
  answers_passes i o r new (judging.done e) = passes_unpinned i
  answers_passes i o r new (judging.one_alone e f) = passes_unpinned i
  answers_passes i o r new (judging.other_run e f) = passes_unpinned i
  answers_passes i o r new (judging.no_room e f g) = passes_unpinned i
  answers_passes i o r new (judging.answers {j = j} e f g h) = let q = passes_unpinned i in record {
    again = λ p c v f. let a = q.again p c v f in record {
      circuit = a.circuit;
      version = a.version;
      found = record { circuit = a.found.circuit; version = a.found.version };
      qubits = a.qubits;
      items = a.items;
      tree = a.tree;
      ended = a.ended;
    };
    stands = q.stands;
    pins = q.pins;
    claims = q.claims;
  }

  sums_passes : (i : ℕ) (o : Outcome) (r : Reply) (new : State) → Sums t i seat o r new → Passes seat t new
  sums_passes i o r new (summing.no_pin e) = passes_nothing
  sums_passes i o r new (summing.gives_up e f) = passes_unpinned i
  sums_passes i o r new (summing.judged e) = passes_unpinned i
  sums_passes i o r new (summing.unsettled e f g) = passes_unpinned i
  sums_passes i o r new (summing.sums e f g h) = passes_unpinned i

  reads_passes : (p : Place) (r : Reply) (new : State) → Reads t p r new → Passes seat t new
  reads_passes p r new (showing.refused e) = passes_nothing
  reads_passes p r new (showing.no_room e f) = passes_nothing
  reads_passes p r new (showing.shows {v = v} e f) = passes_terms (length v.items)

  serves_passes : (i : ℕ) (c : Cmd) (r : Reply) (new : State) → Serves t i seat c r new → Passes seat t new
  serves_passes i (cmd.Open name text) r new s = opens_passes i name text.value r new s
  serves_passes i (cmd.Splice name base from to block) r new s = splices_passes name base from to block.value r new s
  serves_passes i (cmd.Retire name version) r new s = retires_passes i (record { name = name; version = version }) r new s
  serves_passes i (cmd.Pin first second) r new s = pins_passes i first second r new s
  serves_passes i (cmd.Next own) r new s = nexts_passes i own r new s
  serves_passes i (cmd.Publish kept) r new s = publishes_passes i kept r new s
  serves_passes i (cmd.Answer o) r new s = answers_passes i o r new s
  serves_passes i (cmd.Read p) r new s = reads_passes p r new s
  serves_passes i (cmd.Sum o) r new s = sums_passes i o r new s

  here : (u new : State) → Some u ≡ Some new → Passes seat t u → Passes seat t new
  here u new e p = subst (Passes seat t) (some_same u new e) p

  starved_passes : (i : ℕ) (c : Cmd) (new : State) → starved i seat c t ≡ Some new → Passes seat t new
  starved_passes i (cmd.Open name text) new e = here t new e passes_nothing
  starved_passes i (cmd.Splice name base from to block) new e = here t new e passes_nothing
  starved_passes i (cmd.Retire name version) new e = absurd (cc)
  starved_passes i (cmd.Pin first second) new e = absurd (cc)
  starved_passes i (cmd.Next own) new e = here (unclaimed seat t) new e passes_unclaimed
  starved_passes i (cmd.Publish kept) new e = here (unclaimed seat t) new e passes_unclaimed
  starved_passes i (cmd.Answer o) new e = here (unpinned i seat t) new e (passes_unpinned i)
  starved_passes i (cmd.Read p) new e = here t new e passes_nothing
  starved_passes i (cmd.Sum o) new e = here (unpinned i seat t) new e (passes_unpinned i)

-- each step keeps these
pub step_passes : (seat : ℕ) (t : State) (i : ℕ) (c : Cmd) (r : Reply) (new : State) → Step t i seat c r new → Passes seat t new
step_passes seat t i c r new (serves s) = serves_passes seat t i c r new s
step_passes seat t i c r new (wants e) = starved_passes seat t i c new e

-- ---- later states
pub passes_later : (seat : ℕ) (t new : State) → Passes seat t new → Later t new
passes_later seat t new s = record {
  finds =
      λ p c v f. let a = s.again p c v f in
      record { circuit = a.circuit; version = a.version; found = a.found; qubits = a.qubits; items = a.items; tree = a.tree };
  stands = s.stands;
}

-- every version is still there behind a step, and what was published stands
pub step_later : (seat : ℕ) (t : State) (i : ℕ) (c : Cmd) (r : Reply) (new : State) → Step t i seat c r new → Later t new
step_later seat t i c r new s = passes_later seat t new (step_passes seat t i c r new s)

pub later_same : (t : State) → Later t t
later_same t = record { finds = λ p c v f. record { circuit = c; version = v; found = f; qubits = refl; items = refl; tree = refl }; stands = λ k p e. e }

pub later_then : (t u new : State) → Later t u → Later u new → Later t new
later_then t u new a b = record {
  finds = λ p c v f. let x = a.finds p c v f in let y = b.finds p x.circuit x.version x.found in
      record { circuit = y.circuit; version = y.version; found = y.found; qubits = y.qubits ∙ x.qubits; items = y.items ∙ x.items; tree = y.tree ∙ x.tree };
  stands = λ k p e. b.stands k p (a.stands k p e);
}
