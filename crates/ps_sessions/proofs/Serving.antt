-- What holds while lines are served, one after another.
use Rattle.std.proofs.Common.{ℕ, ◌≡◌, Bool, true, false, List, [], ◌∷◌, ◌++◌, refl, sym, ap, ◌∙◌, subst}
use Rattle.std.specs.Prelude.{eqb, map}
use Rattle.std.proofs.lemmas.Bool.{eqb-true}
use Rattle.std.proofs.lemmas.List.{map-append}
use Rattle.ps_script.specs.declared.script.Line.{Line}
use Rattle.ps_journal.specs.declared.replies.Reply.{Reply}
use Rattle.ps_journal.specs.History.{Entry, IsLegal, nothing_is_legal, own_entries, session_entries}
use Rattle.ps_history.specs.Matching.{Matched, nothing}
use Rattle.ps_history.proofs.Lists.{last_there}
use Rattle.ps_sessions.specs.declared.runs.Response.{Response}
use Rattle.ps_sessions.specs.Lines.{seat_of, commands_of, AnswersLine, Serves, start, next}
use Rattle.ps_sessions.proofs.Owners.{own_all, all_last, grows_own, grows_other}
use Rattle.ps_sessions.proofs.Matchings.{session_both, AddsAnswer, answer_added, matched_answer}
use Rattle.ps_sessions.proofs.LineLemmas.{commands_here, commands_there}

-- these lines were answered so, with this journal
pub record AreServed (served : List Line) (es : List Entry) (answers : List Response) : Type 0 where
  pub legal : IsLegal es
  pub matched : (seat : ℕ) → Matched (own_entries seat es) (commands_of seat served)
  pub others : (seat : ℕ) → commands_of seat served ≡ [] → own_entries seat es ≡ []
  pub replies : map (λ a. a.reply) answers ≡ map (λ e. e.reply) (session_entries es)
  pub sessions : map (λ a. a.session) answers ≡ map (λ l. l.session) served
  pub seats : map (λ e. e.seat) (session_entries es) ≡ map seat_of served
  pub serves : Serves served es

pub served_none : AreServed [] [] []
served_none = record {
  legal = nothing_is_legal;
  matched = λ seat. nothing;
  others = λ seat h. refl;
  replies = refl;
  sessions = refl;
  seats = refl;
  serves = start;
}

pub served_start : (es : List Entry) (answers : List Response) → es ≡ [] → answers ≡ [] → AreServed [] es answers
served_start es answers h k = subst (λ xs. AreServed [] xs answers) (sym h) (subst (AreServed [] []) (sym k) served_none)

-- what a line is told
abbrev pub told : Line → Reply → Response
told l reply = record { session = l.session; reply = reply }

-- one line more
module _ (served : List Line) (es new : List Entry) (answers : List Response) (l : Line) (reply : Reply) (w : AreServed served es answers)
    (a : AnswersLine l reply es new) where
  abbrev added : List Entry
  added = a.adds.by.added

  adds : AddsAnswer added reply
  adds = answer_added l.command reply (own_entries (seat_of l) es) added (own_entries (seat_of l) new) (grows_own a.adds.by) a.answers

  next_matched : (seat : ℕ) → Matched (own_entries seat new) (commands_of seat (served ++ l ∷ []))
  next_matched seat = by (eqb (seat_of l) seat) refl
    where
      here : Matched (own_entries (seat_of l) new) (commands_of (seat_of l) (served ++ l ∷ []))
      here =
          subst (Matched (own_entries (seat_of l) new)) (sym (commands_here served l))
          (matched_answer (own_entries (seat_of l) es) (own_entries (seat_of l) new) (commands_of (seat_of l) served) l.command reply
          (w.matched (seat_of l)) a.answers)

      by : (b : Bool) → eqb (seat_of l) seat ≡ b → Matched (own_entries seat new) (commands_of seat (served ++ l ∷ []))
      by true s = subst (λ n. Matched (own_entries n new) (commands_of n (served ++ l ∷ []))) (eqb-true (seat_of l) seat s) here
      by false s =
          subst (λ cs. Matched (own_entries seat new) cs) (sym (commands_there seat served l s))
          (subst (λ xs. Matched xs (commands_of seat served)) (sym (grows_other a.adds.by seat s)) (w.matched seat))

  next_others : (seat : ℕ) → commands_of seat (served ++ l ∷ []) ≡ [] → own_entries seat new ≡ []
  next_others seat h = by (eqb (seat_of l) seat) refl
    where
      by : (b : Bool) → eqb (seat_of l) seat ≡ b → own_entries seat new ≡ []
      by true s =
          let here : commands_of seat served ++ l.command ∷ [] ≡ [] =
          subst (λ n. commands_of n served ++ l.command ∷ [] ≡ commands_of n (served ++ l ∷ [])) (eqb-true (seat_of l) seat s)
          (sym (commands_here served l)) ∙ h in
          absurd (last_there (commands_of seat served) l.command here)
      by false s = grows_other a.adds.by seat s ∙ w.others seat (sym (commands_there seat served l s) ∙ h)

  -- the entries that end commands
  next_session : session_entries new ≡ session_entries es ++ adds.last ∷ []
  next_session = ap session_entries a.adds.by.whole ∙ session_both es added ∙ ap (λ xs. session_entries es ++ xs) adds.ending

  last_seat : adds.last.seat ≡ seat_of l
  last_seat =
      all_last (seat_of l) adds.inners adds.last
      (own_all (seat_of l) (adds.inners ++ adds.last ∷ [])
      (subst (λ xs. own_entries (seat_of l) xs ≡ xs) adds.whole a.adds.by.own))

  next_replies : map (λ x. x.reply) (answers ++ told l reply ∷ []) ≡ map (λ e. e.reply) (session_entries new)
  next_replies =
      map-append (λ (x : Response). x.reply) answers (told l reply ∷ [])
      ∙ ap (λ rs. rs ++ reply ∷ []) w.replies
      ∙ ap (λ r. map (λ (e : Entry). e.reply) (session_entries es) ++ r ∷ []) (sym adds.reply_is)
      ∙ sym (map-append (λ (e : Entry). e.reply) (session_entries es) (adds.last ∷ []))
      ∙ ap (map (λ (e : Entry). e.reply)) (sym next_session)

  next_sessions : map (λ x. x.session) (answers ++ told l reply ∷ []) ≡ map (λ x. x.session) (served ++ l ∷ [])
  next_sessions =
      map-append (λ (x : Response). x.session) answers (told l reply ∷ [])
      ∙ ap (λ ns. ns ++ l.session ∷ []) w.sessions
      ∙ sym (map-append (λ (x : Line). x.session) served (l ∷ []))

  next_seats : map (λ e. e.seat) (session_entries new) ≡ map seat_of (served ++ l ∷ [])
  next_seats =
      ap (map (λ (e : Entry). e.seat)) next_session
      ∙ map-append (λ (e : Entry). e.seat) (session_entries es) (adds.last ∷ [])
      ∙ ap (λ ns. ns ++ adds.last.seat ∷ []) w.seats
      ∙ ap (λ n. map seat_of served ++ n ∷ []) last_seat
      ∙ sym (map-append seat_of served (l ∷ []))

  pub served_next : IsLegal new → AreServed (served ++ l ∷ []) new (answers ++ told l reply ∷ [])
  served_next legal = record {
    legal = legal;
    matched = next_matched;
    others = next_others;
    replies = next_replies;
    sessions = next_sessions;
    seats = next_seats;
    serves = next l w.serves a.adds;
  }
