-- How questions end, and what is left of a question that is cut short.
use Rattle.std.proofs.Common.{◌≡◌, ◌≤◌, ◌+◌, ◌*◌, ℕ, Bool, true, false, List, [], ◌∷◌, length, refl, sym, ap, ◌∙◌, subst, arith}
use Rattle.std.specs.Prelude.{Option, Some, None}
use Rattle.std.specs.declared.sync.Arc.{Arc}
use Rattle.std.specs.declared.alloc.Global.{Global}
use Rattle.std.proofs.Props.{props}
use mathlib.Core.Logic.{∥∥₁_elim, ∥∥₁_map}
use Rattle.ps_desk.specs.Views.{entry}
use Rattle.ps_script.specs.declared.name.Place.{Place}
use Rattle.ps_reach.specs.declared.mode.Mode.{Mode}
use Rattle.ps_reach.specs.declared.record.Record.{Record}
use Rattle.ps_reach.specs.declared.judged.Judged.{Judged as AJudged}
use Rattle.ps_reach.specs.declared.task.Task.{Task as ATask}
use Rattle.ps_journal.specs.declared.seats.Pin.{Pin}
use Rattle.ps_journal.specs.declared.commands.Cmd.{Cmd}
use Rattle.ps_journal.specs.declared.commands.Cmd.TheVariants as cmd
use Rattle.ps_journal.specs.declared.commands.Outcome.{Outcome}
use Rattle.ps_journal.specs.declared.commands.Outcome.TheVariants.{Judged, Done, Starved, Crowded}
use Rattle.ps_journal.specs.declared.replies.Reply.{Reply}
use Rattle.ps_journal.specs.declared.replies.Reply.TheVariants.{Answered}
use Rattle.ps_journal.specs.State.{Version, Circuit, State, Finds, pin_of}
use Rattle.ps_journal.specs.Segments.{is_settled}
use Rattle.ps_journal.specs.Judging as judging
use Rattle.ps_journal.specs.Judging.{Belongs, FindsBoth, BelongBoth, Answers}
use Rattle.ps_journal.specs.Summing as summing
use Rattle.ps_journal.specs.Summing.{GivesUp}
use Rattle.ps_journal.specs.Step.{Step, serves, wants}
use Rattle.ps_journal.specs.History.{Entry, LeadsTo, own_entries}
use Rattle.ps_history.specs.Lasts.{WasTold, WasRefused}
use Rattle.ps_history.specs.Questions as questions
use Rattle.ps_history.specs.Questions.{IsComparison, Judges, Sums}
use Rattle.ps_history.specs.Matching.{is_misuse}
use Rattle.ps_history.specs.Bounds.{missing_under, is_published, published_count, PinsMissing, IsWithin}
use Rattle.ps_history.specs.Taken.{IsTurn}
use Rattle.ps_history.specs.Stages.{HoldsPin, HasRoom, ComesWith, ComeWith, Asks, AsksWith, AsksNoMore, GaveUp}
use Rattle.ps_history.specs.After.{EndsWith}
use Rattle.ps_history.proofs.Lists.{some_same}
use Rattle.ps_history.proofs.Holding.{finds_same, pins_longer}
use Rattle.ps_history.proofs.Standing.{NoMoreState, GaveState, no_more_survives, gave_survives, Turning, turning, unpublished_last, one_longer}

-- ---- what the replies of an end are
record Fair (r : Reply) : Type 0 where
  pub proper : is_misuse r ≡ false
  pub unpublished : is_published r ≡ false

judges_fair : (es : List Entry) (mode : Mode) (proof : Bool) (o : Outcome) (r : Reply) → Judges es mode proof o r → Fair r
judges_fair es mode proof o r (questions.answered e) = record { proper = refl; unpublished = refl }
judges_fair es mode proof o r (questions.judged_no_room e) = record { proper = refl; unpublished = refl }
judges_fair es mode proof o r (questions.judged_no_memory e) = record { proper = refl; unpublished = refl }
judges_fair es mode proof o r questions.gave_up = record { proper = refl; unpublished = refl }
judges_fair es mode proof o r (questions.crowded e) = record { proper = refl; unpublished = refl }
judges_fair es mode proof o r (questions.crowded_no_memory e) = record { proper = refl; unpublished = refl }

sums_fair : (es : List Entry) (o : Outcome) (r : Reply) → Sums es o r → Fair r
sums_fair es o r (questions.sum_is e) = record { proper = refl; unpublished = refl }
sums_fair es o r (questions.sum_no_memory e) = record { proper = refl; unpublished = refl }
sums_fair es o r questions.sum_gave_up = record { proper = refl; unpublished = refl }
sums_fair es o r (questions.sum_crowded e) = record { proper = refl; unpublished = refl }
sums_fair es o r (questions.sum_crowded_no_memory e) = record { proper = refl; unpublished = refl }

-- ---- the steps that end a question
module _ (u : State) (i seat : ℕ) (es : List Entry) (pin : Pin) (held : pin_of u seat ≡ Some pin) where
  -- two versions were compared that come to these records
  module _ (mode : Mode) (proof : Bool) (j : Arc AJudged Global) (first second : Place) (a b : Record) (is : HoldsPin u seat pin first (Some second))
      (comes : ComeWith u first (Some second) a (Some b)) (first_is : j.value.first.value ≡ a)
      (second_is : j.value.second.value ≡ b) (compared : IsComparison es mode j.value) where
    both_belong : (c d : Circuit) (v w : Version) → FindsBoth u seat c d v w → BelongBoth c d v w j.value
    both_belong c d v w f =
        let same : f.pin ≡ pin = some_same f.pin pin (sym f.pin_is ∙ held) in
        let one : f.pin.first ≡ first = ap (λ x. x.first) same ∙ is.first_is in
        let two : f.second ≡ second = some_same f.second second (sym f.second_is ∙ ap (λ x. x.second) same ∙ is.second_is) in
        let x = finds_same u first comes.0.circuit c comes.0.version v comes.0.found (subst (λ p. Finds u p c v) one f.first_found) in
        let y = finds_same u second comes.1.circuit d comes.1.version w comes.1.found (subst (λ p. Finds u p d w) two f.second_found) in
        record {
          first =
              subst (λ r. Belongs c v r) (sym first_is)
              (subst (λ z. Belongs c z a) x.versions (subst (λ z. Belongs z comes.0.version a) x.circuits comes.0.belongs));
          second =
              subst (λ r. Belongs d w r) (sym second_is)
              (subst (λ z. Belongs d z b) y.versions (subst (λ z. Belongs z comes.1.version b) y.circuits comes.1.belongs));
        }

    gives_no_verdict : (o : Outcome) (r : Reply) (p : Pin) → GivesUp p o r → o ≡ Judged j proof → ⊥
    gives_no_verdict o r p summing.starved e = cc
    gives_no_verdict o r p (summing.crowded q) e = cc
    gives_no_verdict o r p (summing.not_crowded q) e = cc

    judged_ends : (o : Outcome) (r : Reply) (t : State) → Answers u i seat o r t → o ≡ Judged j proof → Judges es mode proof (Judged j proof) r
    judged_ends o r t (judging.no_pin e) q = let z : None ≡ Some pin = sym e ∙ held in absurd (cc)
    judged_ends o r t (judging.gives_up {pin = p} e g) q = absurd (gives_no_verdict o r p g q)
    judged_ends o r t (judging.done e) q = absurd (cc)
    judged_ends o r t (judging.one_alone {pin = p} e g) q =
        let same : p ≡ pin = some_same p pin (sym e ∙ held) in
        let z : None ≡ Some second = sym g ∙ ap (λ x. x.second) same ∙ is.second_is in
        absurd (cc)
    judged_ends o r t (judging.other_run {c = c} {d = d} {v = v} {w = w} {j = k} e g) q =
        let same : k ≡ j = cc in
        absurd (g (subst (λ x. BelongBoth c d v w x.value) (sym same) (both_belong c d v w e)))
    judged_ends o r t (judging.no_room e g l) q = questions.judged_no_room compared
    judged_ends o r t (judging.answers {j = k} {proof = p} e g l m) q =
        let same : j ≡ k = cc in
        let told : proof ≡ p = cc in
        subst (λ (x : Arc AJudged Global). Judges es mode proof (Judged j proof) (Answered x.value p)) same
        (subst (λ (x : Bool). Judges es mode proof (Judged j proof) (Answered j.value x)) told (questions.answered compared))

    judged_step : (r : Reply) (t : State) → Step u i seat (cmd.Answer (Judged j proof)) r t → Judges es mode proof (Judged j proof) r
    judged_step r t (serves s) = judged_ends (Judged j proof) r t s refl
    judged_step r t (wants e) = questions.judged_no_memory compared

  -- memory was wanting before
  starved_gives : (mode : Mode) (proof : Bool) (o : Outcome) (r : Reply) (p : Pin) → GivesUp p o r → o ≡ Starved → Judges es mode proof Starved r
  starved_gives mode proof o r p summing.starved e = questions.gave_up
  starved_gives mode proof o r p (summing.crowded q) e = absurd (cc)
  starved_gives mode proof o r p (summing.not_crowded q) e = absurd (cc)

  starved_answers : (mode : Mode) (proof : Bool) (o : Outcome) (r : Reply) (t : State) → Answers u i seat o r t → o ≡ Starved → Judges es mode proof Starved r
  starved_answers mode proof o r t (judging.no_pin e) q = let z : None ≡ Some pin = sym e ∙ held in absurd (cc)
  starved_answers mode proof o r t (judging.gives_up {pin = p} e g) q = starved_gives mode proof o r p g q
  starved_answers mode proof o r t (judging.done e) q = absurd (cc)
  starved_answers mode proof o r t (judging.one_alone e g) q = absurd (cc)
  starved_answers mode proof o r t (judging.other_run e g) q = absurd (cc)
  starved_answers mode proof o r t (judging.no_room e g l) q = absurd (cc)
  starved_answers mode proof o r t (judging.answers e g l m) q = absurd (cc)

  starved_step : (mode : Mode) (proof : Bool) (r : Reply) (t : State) → Step u i seat (cmd.Answer Starved) r t → Judges es mode proof Starved r
  starved_step mode proof r t (serves s) = starved_answers mode proof Starved r t s refl
  starved_step mode proof r t (wants e) = questions.gave_up

  starved_sum_gives : (o : Outcome) (r : Reply) (p : Pin) → GivesUp p o r → o ≡ Starved → Sums es Starved r
  starved_sum_gives o r p summing.starved e = questions.sum_gave_up
  starved_sum_gives o r p (summing.crowded q) e = absurd (cc)
  starved_sum_gives o r p (summing.not_crowded q) e = absurd (cc)

  starved_sums : (o : Outcome) (r : Reply) (t : State) → summing.Sums u i seat o r t → o ≡ Starved → Sums es Starved r
  starved_sums o r t (summing.no_pin e) q = let z : None ≡ Some pin = sym e ∙ held in absurd (cc)
  starved_sums o r t (summing.gives_up {pin = p} e g) q = starved_sum_gives o r p g q
  starved_sums o r t (summing.judged e) q = absurd (cc)
  starved_sums o r t (summing.unsettled e f g) q = absurd (cc)
  starved_sums o r t (summing.sums e f g h) q = absurd (cc)

  starved_sum_step : (r : Reply) (t : State) → Step u i seat (cmd.Sum Starved) r t → Sums es Starved r
  starved_sum_step r t (serves s) = starved_sums Starved r t s refl
  starved_sum_step r t (wants e) = questions.sum_gave_up

  -- room was wanting before
  module _ (total : ℕ) (noted : pin.refused ≡ Some total) (refused : WasRefused es total) where
    refused_total : (p : Pin) (other : ℕ) → pin_of u seat ≡ Some p → p.refused ≡ Some other → WasRefused es other
    refused_total p other e q = subst (WasRefused es) (some_same total other (sym noted ∙ ap (λ x. x.refused) (some_same pin p (sym held ∙ e)) ∙ q)) refused

    noted_not : (p : Pin) → pin_of u seat ≡ Some p → p.refused ≡ None → ⊥
    noted_not p e q = let z : None ≡ Some total = sym q ∙ ap (λ x. x.refused) (some_same p pin (sym e ∙ held)) ∙ noted in cc

    crowded_gives : (mode : Mode) (proof : Bool) (o : Outcome) (r : Reply) (p : Pin) → pin_of u seat ≡ Some p → GivesUp p o r → o ≡ Crowded
        → Judges es mode proof Crowded r
    crowded_gives mode proof o r p h summing.starved e = absurd (cc)
    crowded_gives mode proof o r p h (summing.crowded {total = n} q) e = questions.crowded (refused_total p n h q)
    crowded_gives mode proof o r p h (summing.not_crowded q) e = absurd (noted_not p h q)

    crowded_answers : (mode : Mode) (proof : Bool) (o : Outcome) (r : Reply) (t : State) → Answers u i seat o r t → o ≡ Crowded → Judges es mode proof Crowded r
    crowded_answers mode proof o r t (judging.no_pin e) q = let z : None ≡ Some pin = sym e ∙ held in absurd (cc)
    crowded_answers mode proof o r t (judging.gives_up {pin = p} e g) q = crowded_gives mode proof o r p e g q
    crowded_answers mode proof o r t (judging.done e) q = absurd (cc)
    crowded_answers mode proof o r t (judging.one_alone e g) q = absurd (cc)
    crowded_answers mode proof o r t (judging.other_run e g) q = absurd (cc)
    crowded_answers mode proof o r t (judging.no_room e g l) q = absurd (cc)
    crowded_answers mode proof o r t (judging.answers e g l m) q = absurd (cc)

    crowded_step : (mode : Mode) (proof : Bool) (r : Reply) (t : State) → Step u i seat (cmd.Answer Crowded) r t → Judges es mode proof Crowded r
    crowded_step mode proof r t (serves s) = crowded_answers mode proof Crowded r t s refl
    crowded_step mode proof r t (wants e) = questions.crowded_no_memory refused

    crowded_sum_gives : (o : Outcome) (r : Reply) (p : Pin) → pin_of u seat ≡ Some p → GivesUp p o r → o ≡ Crowded → Sums es Crowded r
    crowded_sum_gives o r p h summing.starved e = absurd (cc)
    crowded_sum_gives o r p h (summing.crowded {total = n} q) e = questions.sum_crowded (refused_total p n h q)
    crowded_sum_gives o r p h (summing.not_crowded q) e = absurd (noted_not p h q)

    crowded_sums : (o : Outcome) (r : Reply) (t : State) → summing.Sums u i seat o r t → o ≡ Crowded → Sums es Crowded r
    crowded_sums o r t (summing.no_pin e) q = let z : None ≡ Some pin = sym e ∙ held in absurd (cc)
    crowded_sums o r t (summing.gives_up {pin = p} e g) q = crowded_sum_gives o r p e g q
    crowded_sums o r t (summing.judged e) q = absurd (cc)
    crowded_sums o r t (summing.unsettled e f g) q = absurd (cc)
    crowded_sums o r t (summing.sums e f g h) q = absurd (cc)

    crowded_sum_step : (r : Reply) (t : State) → Step u i seat (cmd.Sum Crowded) r t → Sums es Crowded r
    crowded_sum_step r t (serves s) = crowded_sums Crowded r t s refl
    crowded_sum_step r t (wants e) = questions.sum_crowded_no_memory refused

  -- one version is settled
  module _ (place : Place) (a : Record) (is : HoldsPin u seat pin place None) (comes : ComesWith u place a) (told : WasTold es a None) where
    done_not : (o : Outcome) (r : Reply) (p : Pin) → GivesUp p o r → o ≡ Done → ⊥
    done_not o r p summing.starved e = cc
    done_not o r p (summing.crowded q) e = cc
    done_not o r p (summing.not_crowded q) e = cc

    unsettled_not : (p : Pin) (c : Circuit) (v : Version) → pin_of u seat ≡ Some p → Finds u p.first c v → is_settled u.published v.tree ≡ false → ⊥
    unsettled_not p c v e f g =
        let one : p.first ≡ place = ap (λ x. x.first) (some_same p pin (sym e ∙ held)) ∙ is.first_is in
        let same = finds_same u place comes.circuit c comes.version v comes.found (subst (λ q. Finds u q c v) one f) in
        let z : false ≡ true = sym g ∙ ap (λ x. is_settled u.published x.tree) (sym same.versions) ∙ comes.settled in
        cc

    summed_ends : (o : Outcome) (r : Reply) (t : State) → summing.Sums u i seat o r t → o ≡ Done → Sums es Done r
    summed_ends o r t (summing.no_pin e) q = let z : None ≡ Some pin = sym e ∙ held in absurd (cc)
    summed_ends o r t (summing.gives_up {pin = p} e g) q = absurd (done_not o r p g q)
    summed_ends o r t (summing.judged e) q = absurd (cc)
    summed_ends o r t (summing.unsettled {pin = p} {c = c} {v = v} e f g) q = absurd (unsettled_not p c v e f g)
    summed_ends o r t (summing.sums e f g h) q = questions.sum_is told

    summed_step : (r : Reply) (t : State) → Step u i seat (cmd.Sum Done) r t → Sums es Done r
    summed_step r t (serves s) = summed_ends Done r t s refl
    summed_step r t (wants e) = questions.sum_no_memory told

-- ---- the turns that end a question
module _ (seat : ℕ) (own seen new : List Entry) (first : Place) (second : Option Place) (c : Cmd) (r : Reply) (Ends : List Entry → Type 0)
    (fair : Ends (own_entries seat seen) → Fair r) (h : IsTurn seat seen new c r) where
  abbrev end : Entry
  end = entry seat c r

  settled_within : (rounds : ℕ) (a : Record) (b : Option Record) → AsksNoMore seat own seen first second rounds a b → Fair r → (t : State)
      → NoMoreState seat own first second rounds a b h.before t → IsWithin seat own (own_entries seat new) new first second 0
  settled_within rounds a b n f t s =
      let room = s.2 in
      let x = ap length h.own ∙ one_longer (own_entries seat seen) end in
      let y = ap published_count h.own ∙ unpublished_last (own_entries seat seen) end f.unpublished in
      let c = n.count in
      let p = n.published in
      let fits : missing_under t first second + rounds ≤ room.m = room.room in
      record {
        m = room.m;
        pins = subst (λ es. PinsMissing seat own es first second room.m) (sym h.whole) (pins_longer seat own h.before (end ∷ []) first second room.m room.pins);
        few = omega (arith, x, c, fits);
        few_published = omega (arith, y, p, fits);
      }

  -- from what the step gives
  settled_end : (rounds : ℕ) (a : Record) (b : Option Record) → AsksNoMore seat own seen first second rounds a b
      → ((t : State) → Turning (NoMoreState seat own first second rounds a b) h.before seat c r t → Ends (own_entries seat seen))
      → EndsWith seat own seen new first second Ends r
  settled_end rounds a b n step =
      let turn =
      λ (t : State) (l : LeadsTo new t). turning seat (NoMoreState seat own first second rounds a b)
      (no_more_survives seat own first second rounds a b) seen new c r h n.states t l in
      record {
        ends = ∥∥₁_map h.lawful (λ p. step p.0 (turn p.0 p.1));
        proper = ∥∥₁_elim h.lawful (hlevel props) (λ p. (fair (step p.0 (turn p.0 p.1))).proper);
        within = ∥∥₁_map h.lawful (λ p. let s = turn p.0 p.1 in settled_within rounds a b n (fair (step p.0 s)) s.old s.held);
      }

  gave_within : (crowded : Option ℕ) → Fair r → (t : State) → GaveState seat own first second crowded (own_entries seat seen) h.before t
      → IsWithin seat own (own_entries seat new) new first second 0
  gave_within crowded f t s =
      let w = s.2 in
      let x = ap length h.own ∙ one_longer (own_entries seat seen) end in
      let y = ap published_count h.own ∙ unpublished_last (own_entries seat seen) end f.unpublished in
      let few = w.few in
      let p = w.few_published in
      record {
        m = w.m;
        pins = subst (λ es. PinsMissing seat own es first second w.m) (sym h.whole) (pins_longer seat own h.before (end ∷ []) first second w.m w.pins);
        few = omega (arith, x, few);
        few_published = omega (arith, y, p);
      }

  gave_end : (crowded : Option ℕ) → GaveUp seat own seen first second crowded
      → ((t : State) → Turning (GaveState seat own first second crowded (own_entries seat seen)) h.before seat c r t → Ends (own_entries seat seen))
      → EndsWith seat own seen new first second Ends r
  gave_end crowded n step =
      let turn =
      λ (t : State) (l : LeadsTo new t). turning seat (GaveState seat own first second crowded (own_entries seat seen))
      (gave_survives seat own first second crowded (own_entries seat seen)) seen new c r h n.states t l in
      record {
        ends = ∥∥₁_map h.lawful (λ p. step p.0 (turn p.0 p.1));
        proper = ∥∥₁_elim h.lawful (hlevel props) (λ p. (fair (step p.0 (turn p.0 p.1))).proper);
        within = ∥∥₁_map h.lawful (λ p. let s = turn p.0 p.1 in gave_within crowded (fair (step p.0 s)) s.old s.held);
      }

-- ---- questions about two versions
module _ (seat : ℕ) (own seen new : List Entry) (first second : Place) where
  abbrev Judging : Mode → Bool → Outcome → Reply → Type 0
  Judging mode proof o r = EndsWith seat own seen new first (Some second) (λ es. Judges es mode proof o r) r

  pub judged-ends : (rounds : ℕ) (a b : Record) (mode : Mode) (proof : Bool) (j : Arc AJudged Global) (reply : Reply)
      → AsksNoMore seat own seen first (Some second) rounds a (Some b) → j.value.first.value ≡ a → j.value.second.value ≡ b
      → IsComparison (own_entries seat seen) mode j.value → IsTurn seat seen new (cmd.Answer (Judged j proof)) reply
      → EndsWith seat own seen new first (Some second) (λ es. Judges es mode proof (Judged j proof) reply) reply
  judged-ends rounds a b mode proof j reply n e f k h =
      settled_end seat own seen new first (Some second) (cmd.Answer (Judged j proof)) reply (λ es. Judges es mode proof (Judged j proof) reply)
      (judges_fair (own_entries seat seen) mode proof (Judged j proof) reply) h rounds a (Some b) n
      (λ t s. judged_step s.old (length h.before) seat (own_entries seat seen) s.held.0 s.held.1.pin_is mode proof j first second a b s.held.1
      s.held.3 e f k reply t s.step)

  pub settled-starved-ends : (rounds : ℕ) (a : Record) (b : Option Record) (mode : Mode) (proof : Bool) (reply : Reply)
      → AsksNoMore seat own seen first (Some second) rounds a b → IsTurn seat seen new (cmd.Answer Starved) reply
      → EndsWith seat own seen new first (Some second) (λ es. Judges es mode proof Starved reply) reply
  settled-starved-ends rounds a b mode proof reply n h =
      settled_end seat own seen new first (Some second) (cmd.Answer Starved) reply (λ es. Judges es mode proof Starved reply)
      (judges_fair (own_entries seat seen) mode proof Starved reply) h rounds a b n
      (λ t s. starved_step s.old (length h.before) seat (own_entries seat seen) s.held.0 s.held.1.pin_is mode proof reply t s.step)

  pub starved-ends : (mode : Mode) (proof : Bool) (reply : Reply) → GaveUp seat own seen first (Some second) None
      → IsTurn seat seen new (cmd.Answer Starved) reply
      → EndsWith seat own seen new first (Some second) (λ es. Judges es mode proof Starved reply) reply
  starved-ends mode proof reply n h =
      gave_end seat own seen new first (Some second) (cmd.Answer Starved) reply (λ es. Judges es mode proof Starved reply)
      (judges_fair (own_entries seat seen) mode proof Starved reply) h None n
      (λ t s. starved_step s.old (length h.before) seat (own_entries seat seen) s.held.0 s.held.1.pin_is mode proof reply t s.step)

  pub crowded-ends : (total : ℕ) (mode : Mode) (proof : Bool) (reply : Reply) → GaveUp seat own seen first (Some second) (Some total)
      → IsTurn seat seen new (cmd.Answer Crowded) reply
      → EndsWith seat own seen new first (Some second) (λ es. Judges es mode proof Crowded reply) reply
  crowded-ends total mode proof reply n h =
      gave_end seat own seen new first (Some second) (cmd.Answer Crowded) reply (λ es. Judges es mode proof Crowded reply)
      (judges_fair (own_entries seat seen) mode proof Crowded reply) h (Some total) n
      (λ t s. crowded_step s.old (length h.before) seat (own_entries seat seen) s.held.0 s.held.1.pin_is total (s.held.3 total refl)
      (n.refused total refl) mode proof reply t s.step)

-- ---- questions about a sum
module _ (seat : ℕ) (own seen new : List Entry) (place : Place) where
  none_second : (t : State) (a : Record) (b : Option Record) → ComeWith t place None a b → (b ≡ None) × ComesWith t place a
  none_second t a None h = (refl, h)
  none_second t a (Some b) h = absurd h

  pub summed-ends : (rounds : ℕ) (a : Record) (b : Option Record) (reply : Reply) → AsksNoMore seat own seen place None rounds a b
      → IsTurn seat seen new (cmd.Sum Done) reply → EndsWith seat own seen new place None (λ es. Sums es Done reply) reply
  summed-ends rounds a b reply n h =
      settled_end seat own seen new place None (cmd.Sum Done) reply (λ es. Sums es Done reply) (sums_fair (own_entries seat seen) Done reply) h rounds a b n
      (λ t s. let one = none_second s.old a b s.held.3 in
      summed_step s.old (length h.before) seat (own_entries seat seen) s.held.0 s.held.1.pin_is place a s.held.1 one.1
      (subst (WasTold (own_entries seat seen) a) one.0 n.told) reply t s.step)

  pub starved-sum-ends : (reply : Reply) → GaveUp seat own seen place None None → IsTurn seat seen new (cmd.Sum Starved) reply
      → EndsWith seat own seen new place None (λ es. Sums es Starved reply) reply
  starved-sum-ends reply n h =
      gave_end seat own seen new place None (cmd.Sum Starved) reply (λ es. Sums es Starved reply) (sums_fair (own_entries seat seen) Starved reply) h None n
      (λ t s. starved_sum_step s.old (length h.before) seat (own_entries seat seen) s.held.0 s.held.1.pin_is reply t s.step)

  pub crowded-sum-ends : (total : ℕ) (reply : Reply) → GaveUp seat own seen place None (Some total) → IsTurn seat seen new (cmd.Sum Crowded) reply
      → EndsWith seat own seen new place None (λ es. Sums es Crowded reply) reply
  crowded-sum-ends total reply n h =
      gave_end seat own seen new place None (cmd.Sum Crowded) reply (λ es. Sums es Crowded reply) (sums_fair (own_entries seat seen) Crowded reply) h
      (Some total) n
      (λ t s. crowded_sum_step s.old (length h.before) seat (own_entries seat seen) s.held.0 s.held.1.pin_is total (s.held.3 total refl)
      (n.refused total refl) reply t s.step)

-- ---- between turns
module _ (seat : ℕ) (own seen : List Entry) (first : Place) (second : Option Place) where
  room_within : (t : State) (rounds n : ℕ) → n ≤ 2 → HasRoom t seat own seen first second rounds
      → length (own_entries seat seen) ≡ length own + (n + 2 * rounds) → published_count (own_entries seat seen) ≤ published_count own + rounds
      → IsWithin seat own (own_entries seat seen) seen first second 1
  room_within t rounds n k room c p =
      let fits : missing_under t first second + rounds ≤ room.m = room.room in
      record { m = room.m; pins = room.pins; few = omega (arith, c, fits, k); few_published = omega (arith, p, fits) }

  with_room : (rounds : ℕ) (task : ATask) → AsksWith seat own seen first second rounds task → (t : State) → LeadsTo seen t
      → IsWithin seat own (own_entries seat seen) seen first second 1
  with_room rounds task a t l = let s = a.states t l in room_within s.2.0 rounds 2 (omega arith) s.2.3 a.count a.published

  pub starved-after : (rounds : ℕ) (task : ATask) → AsksWith seat own seen first second rounds task → GaveUp seat own seen first second None
  starved-after rounds task a = record {
    legal = a.legal;
    idles = a.idles;
    pin = a.pin;
    refused = λ total e. absurd (cc);
    states = λ t l. let s = a.states t l in (s.0, s.1, with_room rounds task a t l, λ total e. absurd (cc));
  }

  pub asks-within : (rounds : ℕ) → Asks seat own seen first second rounds → ∥ IsWithin seat own (own_entries seat seen) seen first second 1 ∥₁
  asks-within rounds a = ∥∥₁_map a.legal (λ p. let s = a.states p.0 p.1 in room_within p.0 rounds 1 (omega arith) s.2 a.count a.published)

  pub with-within : (rounds : ℕ) (task : ATask) → AsksWith seat own seen first second rounds task
      → ∥ IsWithin seat own (own_entries seat seen) seen first second 1 ∥₁
  with-within rounds task a = ∥∥₁_map a.legal (λ p. with_room rounds task a p.0 p.1)

  pub no_more-within : (rounds : ℕ) (x : Record) (y : Option Record) → AsksNoMore seat own seen first second rounds x y
      → ∥ IsWithin seat own (own_entries seat seen) seen first second 1 ∥₁
  no_more-within rounds x y a = ∥∥₁_map a.legal (λ p. let s = a.states p.0 p.1 in room_within p.0 rounds 2 (omega arith) s.2 a.count a.published)

  pub gave_up-within : (crowded : Option ℕ) → GaveUp seat own seen first second crowded → ∥ IsWithin seat own (own_entries seat seen) seen first second 1 ∥₁
  gave_up-within crowded a = ∥∥₁_map a.legal (λ p. (a.states p.0 p.1).2)

-- two records that settled versions come to are on as many qubits
pub one-width : (seat : ℕ) (own seen : List Entry) (first second : Place) (rounds : ℕ) (a b : Record)
    → AsksNoMore seat own seen first (Some second) rounds a (Some b) → a.n ≡ b.n
one-width seat own seen first second rounds a b n = ∥∥₁_elim n.legal (hlevel props) (λ p. (n.states p.0 p.1).3.2)
