-- How questions about two versions conclude.
use Rattle.std.proofs.Common.{◌≡◌, ◌<◌, ◌≤◌, ◌+◌, ℕ, refl, sym, ap, ap₂, ◌∙◌, subst, Bool, true, false, inl, inr}
use Rattle.std.specs.Prelude.{Option, Some, None, slice_index_or}
use Rattle.std.specs.declared.sync.Arc.{Arc}
use Rattle.std.specs.declared.alloc.Global.{Global}
use Rattle.seg_tree.specs.Trees.{run_maybe}
use Rattle.ps_script.specs.declared.name.Place.{Place}
use Rattle.ps_reach.specs.declared.judged.Judged.{Judged as AJudged}
use Rattle.ps_journal.specs.declared.seats.Pin.{Pin}
use Rattle.ps_journal.specs.declared.commands.Outcome.{Outcome}
use Rattle.ps_journal.specs.declared.commands.Outcome.TheVariants.{Judged, Done}
use Rattle.ps_journal.specs.declared.replies.Reply.{Reply}
use Rattle.ps_journal.specs.declared.replies.Reply.TheVariants.{Answered, NoPin, NoRoom, OtherRun, Memory}
use Rattle.ps_journal.specs.State.{State, Version, Circuit, Finds, pin_of, most_terms}
use Rattle.ps_journal.specs.Keeping.{unpinned}
use Rattle.ps_journal.specs.Judging.{Belongs, BelongBoth, FindsBoth, size, Answers}
use Rattle.ps_journal.specs.Judging as judging
use Rattle.ps_journal.specs.Summing.{GivesUp, Sums}
use Rattle.ps_journal.specs.Summing as summing
use Rattle.ps_views.specs.Views.{version_of, circuit_of}
use Rattle.ps_views.specs.Fields.{Fields, IsSound, pin_at}
use Rattle.ps_views.specs.Stands.{Stands, Leaves}
use Rattle.ps_views.specs.Pinned.{HasPinned}
use Rattle.ps_views.proofs.Replies.{finds_at}
use Rattle.ps_views.proofs.Justified.{justified}
use Rattle.ps_book.specs.Wanting.{AnswersOr, SumsOr}
use Rattle.ps_book.specs.Conclusions.{counted, Concludes, TellsPair, ConcludesSum}

-- ---- a question that is given up, or is ended by what ends none
module _ (f : Fields) (pin : Pin) where
  pub gives_up : (o : Outcome) (r : Reply) → GivesUp pin o r → Concludes f pin o r
  gives_up o r summing.starved = record { fits = tt; answers = λ t i seat so is. inl (judging.gives_up is summing.starved) }
  gives_up o r (summing.crowded e) = record { fits = tt; answers = λ t i seat so is. inl (judging.gives_up is (summing.crowded e)) }
  gives_up o r (summing.not_crowded e) = record { fits = tt; answers = λ t i seat so is. inl (judging.gives_up is (summing.not_crowded e)) }

  pub ends_none : (r : Reply) → r ≡ OtherRun → Concludes f pin Done r
  ends_none r e = subst (Concludes f pin Done) (sym e) (record { fits = tt; answers = λ t i seat so is. inl (judging.done is) })

  pub wants_memory : (o : Outcome) (r : Reply) → r ≡ Memory → Concludes f pin o r
  wants_memory o r e = subst (Concludes f pin o) (sym e) (record { fits = tt; answers = λ t i seat so is. inr (record { reply = refl; state = refl }) })

  -- the same of a question about one version
  pub sum_gives_up : (o : Outcome) (r : Reply) → GivesUp pin o r → ConcludesSum f pin o r
  sum_gives_up o r h t i seat so is = inl (summing.gives_up is h)

  pub sum_judged : (j : Arc AJudged Global) (proof : Bool) (r : Reply) → r ≡ OtherRun → ConcludesSum f pin (Judged j proof) r
  sum_judged j proof r e t i seat so is = inl (subst (λ y. Sums t i seat (Judged j proof) y (unpinned i seat t)) (sym e) (summing.judged is))

-- ---- two records under a pin
-- the versions that a pin names, in the state
record Both (t : State) (seat : ℕ) (pin : Pin) (q : Place) : Type 0 where
  first_circuit : Circuit
  other_circuit : Circuit
  first : Version
  other : Version
  found : FindsBoth t seat first_circuit other_circuit first other
  first_found : Finds t pin.first first_circuit first
  other_found : Finds t q other_circuit other
  first_whole : first.items ≡ run_maybe first.tree
  other_whole : other.items ≡ run_maybe other.tree

module _ (f : Fields) (sound : IsSound f) (pin : Pin) (has : HasPinned f pin) where
  both : (t : State) (seat : ℕ) (q : Place) → Stands f t → pin_of t seat ≡ Some pin → pin.second ≡ Some q → Both t seat pin q
  both t seat q so is second =
      let k = has.first in
      let l = has.second q second in
      let x = finds_at f t so sound.tabled pin.first k.circuit k.version k.circuit_is k.version_is in
      let y = finds_at f t so sound.tabled q l.circuit l.version l.circuit_is l.version_is in
      record {
        first_circuit = circuit_of f.items f.versions.nodes x.0 k.circuit;
        other_circuit = circuit_of f.items f.versions.nodes y.0 l.circuit;
        first = version_of f.items f.versions.nodes k.version;
        other = version_of f.items f.versions.nodes l.version;
        found = record { pin = pin; second = q; pin_is = is; second_is = second; first_found = x.1; second_found = y.1 };
        first_found = x.1;
        other_found = y.1;
        first_whole = refl;
        other_whole = refl;
      }

  module _ (j : Arc AJudged Global) (proof : Bool) where
    other_run : TellsPair f pin j.value false → (t : State) (i seat : ℕ) → Stands f t → pin_of t seat ≡ Some pin
        → Answers t i seat (Judged j proof) OtherRun (unpinned i seat t)
    other_run tells t i seat so is = by pin.second refl
      where
        by : (o : Option Place) → pin.second ≡ o → Answers t i seat (Judged j proof) OtherRun (unpinned i seat t)
        by None e = judging.one_alone is e
        by (Some q) e =
            let b = both t seat q so is e in
            judging.other_run b.found (λ h. no ((tells t q b.first_circuit b.other_circuit b.first b.other so e b.first_found b.other_found).1 h))
          where
            no : false ≡ true → ⊥
            no e = cc

    pub concludes_other : (b : Bool) (r : Reply) → b ≡ false → TellsPair f pin j.value b → r ≡ OtherRun → Concludes f pin (Judged j proof) r
    concludes_other b r off tells e = subst (Concludes f pin (Judged j proof)) (sym e)
        (record { fits = tt; answers = λ t i seat so is. inl (other_run (subst (TellsPair f pin j.value) off tells) t i seat so is) })

    -- where both records belong
    module _ (b : Bool) (on : b ≡ true) (tells : TellsPair f pin j.value b) (alone : pin.second ≡ None → b ≡ false) where
      second : (o : Option Place) → pin.second ≡ o → (q : Place) × (pin.second ≡ Some q)
      second None e = absurd (no (sym on ∙ alone e))
        where
          no : true ≡ false → ⊥
          no e = cc
      second (Some q) e = (q, e)

      record Told (t : State) (seat : ℕ) : Type 0 where
        place : Place
        pair : Both t seat pin place
        belong : BelongBoth pair.first_circuit pair.other_circuit pair.first pair.other j.value

      told : (t : State) (seat : ℕ) → Stands f t → pin_of t seat ≡ Some pin → Told t seat
      told t seat so is =
          let s = second pin.second refl in
          let p = both t seat s.0 so is s.1 in
          record { place = s.0; pair = p; belong = (tells t s.0 p.first_circuit p.other_circuit p.first p.other so s.1 p.first_found p.other_found).0 on }

      pub concludes_full : (n : ℕ) (r : Reply) → n ≡ size j.value → most_terms < f.terms + n → r ≡ NoRoom (f.terms + n) → Concludes f pin (Judged j proof) r
      concludes_full n r same more e = subst (Concludes f pin (Judged j proof)) (sym e) (record {
        fits = tt;
        answers = λ t i seat so is.
            let h = told t seat so is in
            let total : t.terms + size j.value ≡ f.terms + n = ap₂ (λ a b. a + b) so.terms (sym same) in
            inl (subst (λ m. Answers t i seat (Judged j proof) (NoRoom m) (unpinned i seat t)) total
            (judging.no_room h.pair.found h.belong (subst (λ m. most_terms < m) (sym total) more)));
      })

      pub concludes_told : (n : ℕ) (r : Reply) → n ≡ size j.value → f.terms + n ≤ most_terms → r ≡ Answered j.value proof → Concludes f pin (Judged j proof) r
      concludes_told n r same room e = subst (Concludes f pin (Judged j proof)) (sym e) (record {
        fits = subst (λ m. f.terms + m ≤ most_terms) same room;
        answers = λ t i seat so is.
            let h = told t seat so is in
            let total : t.terms + size j.value ≡ f.terms + n = ap₂ (λ a b. a + b) so.terms (sym same) in
            inl (judging.answers h.pair.found h.belong (subst (λ m. m ≤ most_terms) (sym total) room)
            (justified h.pair.first_circuit h.pair.other_circuit h.pair.first h.pair.other j.value h.pair.first_whole h.pair.other_whole h.belong));
      })

-- ---- what the seat is answered
module _ (f : Fields) (i seat : ℕ) (t : State) (so : Stands f t) where
  pin_told : pin_of t seat ≡ pin_at f seat
  pin_told = ap (λ ps. slice_index_or ps seat None) so.pins

  pub answers_no_pin : (o : Outcome) (r : Reply) → r ≡ NoPin → pin_at f seat ≡ None → Leaves (λ new. AnswersOr t i seat o r new) f
  answers_no_pin o r e none = record { state = t; does_so = inl (subst (λ y. Answers t i seat o y t) (sym e) (judging.no_pin (pin_told ∙ none))); stands = so }

  pub sums_no_pin : (o : Outcome) (r : Reply) → r ≡ NoPin → pin_at f seat ≡ None → Leaves (λ new. SumsOr t i seat o r new) f
  sums_no_pin o r e none = record { state = t; does_so = inl (subst (λ y. Sums t i seat o y t) (sym e) (summing.no_pin (pin_told ∙ none))); stands = so }

  module _ (pin : Pin) (at : pin_at f seat ≡ Some pin) (o : Outcome) (r : Reply) (new : Fields) where
    pub answers_leaves : Concludes f pin o r → Stands new (counted r (unpinned i seat t)) → Leaves (λ left. AnswersOr t i seat o r left) new
    answers_leaves h s = record { state = counted r (unpinned i seat t); does_so = h.answers t i seat so (pin_told ∙ at); stands = s }

    pub sums_leaves : ConcludesSum f pin o r → Stands new (unpinned i seat t) → Leaves (λ left. SumsOr t i seat o r left) new
    sums_leaves h s = record { state = unpinned i seat t; does_so = h t i seat so (pin_told ∙ at); stands = s }

-- ---- the terms of a verdict that was told
-- of a reply that is no verdict, none are
pub counted_other : (r : Reply) → ((j : AJudged) (proof : Bool) → r ≡ Answered j proof → ⊥) → (t : State) → counted r t ≡ t
counted_other (Answered j proof) off t = absurd (off j proof refl)
counted_other _ off t = refl
