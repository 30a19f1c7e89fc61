-- How a run ends.
use Rattle.std.proofs.Common.{ℕ, ◌≡◌, Bool, true, false, List, [], ◌∷◌, ◌++◌, refl, sym, ap, ◌∙◌, subst, append-nil}
use Rattle.std.specs.Prelude.{eqb, map}
use Rattle.std.proofs.lemmas.Bool.{eqb-true}
use Rattle.ps_script.specs.declared.script.Line.{Line}
use Rattle.ps_journal.specs.History.{Entry, IsLegal, own_entries, session_entries}
use Rattle.ps_history.specs.Matching.{Matched}
use Rattle.ps_sessions.specs.declared.runs.Response.{Response}
use Rattle.ps_sessions.specs.declared.runs.Ending.{Ending}
use Rattle.ps_sessions.specs.declared.runs.Ending.TheVariants.{Done, Full}
use Rattle.ps_sessions.specs.declared.runs.Run.{Run}
use Rattle.ps_sessions.specs.Lines.{seat_of, commands_of, BreaksOff}
use Rattle.ps_sessions.specs.Runs.{IsRunOf}
use Rattle.ps_sessions.proofs.Owners.{grows_own, grows_other}
use Rattle.ps_sessions.proofs.Matchings.{session_both, idles_added, matched_idles}
use Rattle.ps_sessions.proofs.LineLemmas.{none_before, none_next}
use Rattle.ps_sessions.proofs.Serving.{AreServed}
use Rattle.ps_sessions.proofs.Judgements.{legal_just}

abbrev pub ran : List Entry → List Response → Ending → Run
ran journal responses ending = record { journal = journal; responses = responses; ending = ending }

-- the same run, as it is known
pub run_as : (lines : List Line) (journal es : List Entry) (told answers : List Response) (ending : Ending) → journal ≡ es → told ≡ answers
    → IsRunOf lines (ran es answers ending) → IsRunOf lines (ran journal told ending)
run_as lines journal es told answers ending h k w =
    subst (λ es. IsRunOf lines (ran es told ending)) (sym h) (subst (λ xs. IsRunOf lines (ran es xs ending)) (sym k) w)

-- ---- all lines are answered
pub done_run : (lines served : List Line) (es : List Entry) (answers : List Response) → lines ≡ served ++ [] → AreServed served es answers
    → IsRunOf lines (ran es answers Done)
done_run lines served es answers split w = record {
  served = served;
  left = [];
  split = split;
  legal = w.legal;
  complete = λ h. refl;
  cut = λ t h. absurd (cc);
  matched = w.matched;
  others = λ seat h. w.others seat (subst (λ ls. commands_of seat ls ≡ []) (split ∙ append-nil served) h);
  replies = w.replies;
  sessions = w.sessions;
  seats = w.seats;
  steady = es;
  serves = w.serves;
  last = refl;
  just = legal_just es (λ seat. commands_of seat served) w.legal w.matched;
}

-- ---- a line is broken off
module _ (lines served rest : List Line) (l : Line) (es journal : List Entry) (answers : List Response) (ticket : ℕ) (split : lines ≡ served ++ l ∷ rest)
    (w : AreServed served es answers) (b : BreaksOff l ticket es journal) where
  quiet : session_entries journal ≡ session_entries es
  quiet =
      ap session_entries b.adds.by.whole ∙ session_both es b.adds.by.added
      ∙ ap (λ xs. session_entries es ++ xs)
      (idles_added (own_entries (seat_of l) es) b.adds.by.added (own_entries (seat_of l) journal) (grows_own b.adds.by) b.idles)
      ∙ append-nil (session_entries es)

  cut_matched : (seat : ℕ) → Matched (own_entries seat journal) (commands_of seat served)
  cut_matched seat = by (eqb (seat_of l) seat) refl
    where
      here : Matched (own_entries (seat_of l) journal) (commands_of (seat_of l) served)
      here =
          matched_idles (own_entries (seat_of l) es) (own_entries (seat_of l) journal) (commands_of (seat_of l) served) (w.matched (seat_of l)) b.idles

      by : (k : Bool) → eqb (seat_of l) seat ≡ k → Matched (own_entries seat journal) (commands_of seat served)
      by true s = subst (λ n. Matched (own_entries n journal) (commands_of n served)) (eqb-true (seat_of l) seat s) here
      by false s = subst (λ xs. Matched xs (commands_of seat served)) (sym (grows_other b.adds.by seat s)) (w.matched seat)

  cut_others : (seat : ℕ) → commands_of seat lines ≡ [] → own_entries seat journal ≡ []
  cut_others seat h =
      let k : commands_of seat (served ++ l ∷ rest) ≡ [] = subst (λ ls. commands_of seat ls ≡ []) split h in
      grows_other b.adds.by seat (none_next seat served rest l k) ∙ w.others seat (none_before seat served (l ∷ rest) k)

  same_ticket : (t : ℕ) → Full ticket ≡ Full t → t ≡ ticket
  same_ticket t h = cc

  some_line : l ∷ rest ≡ [] → ⊥
  some_line h = cc

  pub cut_run : IsLegal journal → IsRunOf lines (ran journal answers (Full ticket))
  cut_run legal = record {
    served = served;
    left = l ∷ rest;
    split = split;
    legal = legal;
    complete = λ h. absurd (cc);
    cut = λ t h. record { some_left = some_line; late = same_ticket t h ∙ b.late; full = b.full };
    matched = cut_matched;
    others = cut_others;
    replies = w.replies ∙ ap (map (λ (e : Entry). e.reply)) (sym quiet);
    sessions = w.sessions;
    seats = ap (map (λ (e : Entry). e.seat)) quiet ∙ w.seats;
    steady = es;
    serves = w.serves;
    last = b.adds;
    just = legal_just journal (λ seat. commands_of seat served) legal cut_matched;
  }
