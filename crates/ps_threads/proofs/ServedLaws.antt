-- The commands of one session, one after another.
use Rattle.std.proofs.Common.{◌≡◌, ◌≤◌, ℕ, List, [], ◌∷◌, ◌++◌, Option, Some, refl, sym, ◌∙◌, subst, append-nil}
use Rattle.ps_desk.specs.declared.object.Object.{Ghosts}
use Rattle.ps_desk.specs.declared.seat.Seat.{Seat}
use Rattle.ps_desk.specs.Rule.{core}
use Rattle.ps_desk.specs.Seats.{view_of, desk_of}
use Rattle.ps_script.specs.declared.command.Command.{Command}
use Rattle.ps_journal.specs.declared.commands.Cmd.{Cmd}
use Rattle.ps_journal.specs.declared.replies.Reply.{Reply}
use Rattle.ps_journal.specs.History.{Entry}
use Rattle.ps_history.specs.Inner.{Idles}
use Rattle.ps_history.specs.Matching.{Matched, nothing, Answers}
use Rattle.ps_history.proofs.Lists.{last_there}
use Rattle.ps_calls.specs.Calls.{Done as IsDone, Cut, Grows, own}
use Rattle.ps_sessions.specs.declared.runs.Ending.TheVariants.{Done, Full}
use Rattle.ps_sessions.proofs.Matchings.{matched_idles, matched_answer}
use Rattle.ps_threads.specs.Seated.{seat_view}
use Rattle.ps_threads.specs.Served.{Serves, IsServedBy}
use Rattle.ps_threads.proofs.TurnLaws.{own_is, stays_desk, stays_core}

-- these commands were answered so
pub record Stands (served : List Command) (es : List Entry) : Type 0 where
  pub matched : Matched es served
  pub still : served ≡ [] → es ≡ []

pub stands_none : (es : List Entry) → es ≡ [] → Stands [] es
stands_none es h = record { matched = subst (λ xs. Matched xs []) (sym h) nothing; still = λ k. h }

stands_next : (served : List Command) (c : Command) (reply : Reply) (es new : List Entry) → Stands served es → Answers c reply es new → Stands (served ++ c ∷ []) new
stands_next served c reply es new w a =
    record { matched = matched_answer es new served c reply w.matched a; still = λ k. absurd (last_there served c k) }

no_middle : {A : Type 0} (xs ys : List A) (x : A) → xs ++ x ∷ ys ≡ [] → ⊥
no_middle [] ys x h = cc
no_middle (z ∷ xs) ys x h = cc

some_left : {A : Type 0} (xs : List A) (x : A) → x ∷ xs ≡ [] → ⊥
some_left xs x h = cc

serves_done : (commands served : List Command) (es : List Entry) (refused : Option ℕ) → commands ≡ served ++ [] → Stands served es → Serves commands es refused Done
serves_done commands served es refused split w = record {
  served = served;
  left = [];
  split = split;
  matched = w.matched;
  leaves = refl;
  still = λ h. w.still (sym (append-nil served) ∙ sym split ∙ h);
}

serves_cut : (commands served rest : List Command) (c : Command) (es new : List Entry) (refused : Option ℕ) (ticket : ℕ) → commands ≡ served ++ c ∷ rest
    → Stands served es → Idles es new → refused ≡ Some ticket → 262144 ≤ ticket → Serves commands new refused (Full ticket)
serves_cut commands served rest c es new refused ticket split w i r late = record {
  served = served;
  left = c ∷ rest;
  split = split;
  matched = matched_idles es new served w.matched i;
  leaves = (some_left rest c, r, late);
  still = λ h. absurd (no_middle served rest c (sym split ∙ h));
}

module _ {O : Type 0} {o : Ghosts O Cmd Reply} (s t : Seat O Cmd Reply o) (served : List Command) (w : Stands served (view_of s).own) where
  pub seat_next : (c : Command) (reply : Reply) → IsDone c reply (seat_view s) (seat_view t) → Stands (served ++ c ∷ []) (view_of t).own
  seat_next c reply d =
      stands_next served c reply (view_of s).own (view_of t).own w
      (subst (λ es. Answers c reply es (view_of t).own) (sym (own_is s)) (subst (Answers c reply (own (seat_view s))) (sym (own_is t)) d.answers))

  seat_idles : (c : Command) (ticket : ℕ) → Cut c ticket (seat_view s) (seat_view t) → Idles (view_of s).own (view_of t).own
  seat_idles c ticket d =
      subst (λ es. Idles es (view_of t).own) (sym (own_is s)) (subst (Idles (own (seat_view s))) (sym (own_is t)) d.idles)

  pub seat_cut : (commands rest : List Command) (c : Command) (ticket : ℕ) → commands ≡ served ++ c ∷ rest → Cut c ticket (seat_view s) (seat_view t)
      → Serves commands (view_of t).own (view_of t).refused (Full ticket)
  seat_cut commands rest c ticket split d =
      serves_cut commands served rest c (view_of s).own (view_of t).own (view_of t).refused ticket split w (seat_idles c ticket d) d.refused d.late

-- the seat as it was, as it is, and as it is handed back
module _ {O : Type 0} {o : Ghosts O Cmd Reply} (first s : Seat O Cmd Reply o) (commands served : List Command)
    (here : desk_of s ≡ desk_of first) (same : core (view_of s) ≡ core (view_of first)) (w : Stands served (view_of s).own) where
  pub handed_done : (back : Seat O Cmd Reply o) → commands ≡ served ++ [] → back ≡ s → IsServedBy commands first back Done
  handed_done back split e = subst (λ x. IsServedBy commands first x Done) (sym e) record {
    desk = here;
    core_is = same;
    serves = serves_done commands served (view_of s).own (view_of s).refused split w;
  }

  pub handed_cut : (t back : Seat O Cmd Reply o) (rest : List Command) (c : Command) (ticket : ℕ) → commands ≡ served ++ c ∷ rest
      → Grows (seat_view s) (seat_view t) → Cut c ticket (seat_view s) (seat_view t) → back ≡ t → IsServedBy commands first back (Full ticket)
  handed_cut t back rest c ticket split g d e = subst (λ x. IsServedBy commands first x (Full ticket)) (sym e) record {
    desk = stays_desk s t g.stays ∙ here;
    core_is = stays_core s t g.stays ∙ same;
    serves = seat_cut s t served w commands rest c ticket split d;
  }
