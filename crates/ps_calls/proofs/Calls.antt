-- What a turn that is not looked at makes of a call.
use Rattle.std.proofs.Common.{ℕ, ◌≡◌, ◌<◌, true, Option, Some, None, Result, Ok, Err, IfOk, IfErr, OnOk, sym, subst}
use Rattle.ps_desk.specs.Views.{entry}
use Rattle.ps_desk.specs.declared.refusals.Full.{Full}
use Rattle.ps_script.specs.declared.name.Place.{Place}
use Rattle.ps_script.specs.declared.command.Command.{Command}
use Rattle.ps_script.specs.declared.command.Command.TheVariants as command
use Rattle.ps_reach.specs.declared.task.Task.{Task as ATask}
use Rattle.ps_journal.specs.declared.commands.Cmd.{Cmd}
use Rattle.ps_journal.specs.declared.commands.Cmd.TheVariants as cmd
use Rattle.ps_journal.specs.declared.commands.Outcome.{Outcome}
use Rattle.ps_journal.specs.declared.replies.Reply.{Reply}
use Rattle.ps_journal.specs.declared.replies.Reply.TheVariants.{Task}
use Rattle.ps_journal.specs.History.{ends_command}
use Rattle.ps_history.specs.Matching.{MatchesCommand}
use Rattle.ps_history.specs.Bounds.{IsSingle, IsBounded}
use Rattle.ps_calls.specs.declared.settling.Settling.{Settling}
use Rattle.ps_calls.specs.declared.questions.Question.{Question}
use Rattle.ps_calls.specs.Turns.{TurnView, Stays, Turned, Refused}
use Rattle.ps_calls.specs.Calls.{own, Grows, Done, Cut}
use Rattle.ps_calls.specs.Comparing.{Concludes}
use Rattle.ps_calls.specs.Comparing.{Sums as SumsTo}
use Rattle.ps_calls.specs.Settling.{Asking, IsAsking, IsFilling, SettlingEnds, TakingEnds, IsCutShort, IsAsked}
use Rattle.ps_calls.proofs.Views.{turned-grows, refused-grows}
use Rattle.ps_calls.proofs.Singles.{is_single, single_done, single_cut}
use Rattle.ps_calls.proofs.Stages.{asking, end_cut, next_fills}
use Rattle.ps_calls.proofs.Endings.{ask_done, sum_done, ask_cut_short, sum_cut_short}

module _ {a b : TurnView} where
  pub turn_grows : (k : Cmd) (res : Result Reply Full) → Stays a b → IfOk res (λ r. Turned a b k r) → IfErr res (λ f. Refused a b f.ticket) → Grows a b
  turn_grows k (Ok r) s done full = turned-grows s done
  turn_grows k (Err f) s done full = refused-grows s full

  -- one turn answers the command
  pub single_dones : (c : Command) (k : Cmd) (res : Result Reply Full) → Stays a b
      → IfOk res (λ r. Turned a b k r) → is_single k ≡ true → ((r : Reply) → ends_command k r ≡ true)
      → ((r : Reply) → MatchesCommand (own a) c (entry a.number k r))
      → (IsSingle (own a) (own b) 0 → IsBounded c a.number (own a) (own b) b.seen 0) → IfOk res (λ r. Done c r a b)
  single_dones c k (Ok r) s done single ends matches bound = single_done c k s done single (ends r) (matches r) bound
  single_dones c k (Err f) s done single ends matches bound = tt

  pub single_cuts : (c : Command) (res : Result Reply Full) → Stays a b → IfErr res (λ f. Refused a b f.ticket)
      → (IsSingle (own a) (own b) 1 → IsBounded c a.number (own a) (own b) b.seen 1) → IfErr res (λ f. Cut c f.ticket a b)
  single_cuts c (Ok r) s full bound = tt
  single_cuts c (Err f) s full bound = single_cut c s full bound

module _ (a v w : TurnView) where
  -- the last turn of a question
  pub ask_dones : (q : Question) (res : Result Reply Full) (e : Settling) (o : Outcome)
      → a.number < 64 → Stays a v → Stays v w → SettlingEnds (asking a q.first (Some q.second)) v e
      → Concludes q.mode q.proof e o → IfOk res (λ r. Turned v w (cmd.Answer o) r) → IfOk res (λ r. (c : Command) → IsAsked q c → Done c r a w)
  ask_dones q (Ok r) e o low s t ends concludes done = λ c k. ask_done q c e k low s t ends concludes done
  ask_dones q (Err f) e o low s t ends concludes done = tt

  pub ask_cuts : (q : Question) (res : Result Reply Full) (e : Settling) → Stays a w → SettlingEnds (asking a q.first (Some q.second)) v e
      → IfErr res (λ f. Refused v w f.ticket) → IfErr res (λ f. (c : Command) → IsAsked q c → Cut c f.ticket a w)
  ask_cuts q (Ok r) e s ends full = tt
  ask_cuts q (Err f) e s ends full = λ c k. ask_cut_short q c k s (end_cut (asking a q.first (Some q.second)) e ends full)

  pub sum_dones : (place : Place) (res : Result Reply Full) (e : Settling) (o : Outcome)
      → a.number < 64 → Stays a v → Stays v w → SettlingEnds (asking a place None) v e
      → SumsTo e o → IfOk res (λ r. Turned v w (cmd.Sum o) r) → IfOk res (λ r. Done (command.Sum place) r a w)
  sum_dones place (Ok r) e o low s t ends sums done = sum_done place e low s t ends sums done
  sum_dones place (Err f) e o low s t ends sums done = tt

  pub sum_cuts : (place : Place) (res : Result Reply Full) (e : Settling) → Stays a w → SettlingEnds (asking a place None) v e
      → IfErr res (λ f. Refused v w f.ticket) → IfErr res (λ f. Cut (command.Sum place) f.ticket a w)
  sum_cuts place (Ok r) e s ends full = tt
  sum_cuts place (Err f) e s ends full = sum_cut_short place s (end_cut (asking a place None) e ends full)

-- ---- a round whose segment is filled
pub on_ok : {A F P : Type 0} (res : Result A F) → P → OnOk res P
on_ok (Ok x) p = p
on_ok (Err f) p = tt

module _ (a v w : TurnView) (task : ATask) (low : a.number < 64) (s : Stays a v) (t : Turned a v (cmd.Next true) (Task task)) where
  pub fills_ends : (res : Result (Option Settling) Full) → IfOk res (λ e. (at : Asking) (n : ℕ) → IsFilling at n task v → TakingEnds at n w e)
      → IfOk res (λ e. (at : Asking) (n : ℕ) → IsAsking at n a → TakingEnds at n w e)
  fills_ends (Ok e) p = λ at n k. p at n (next_fills at n low s t k)
  fills_ends (Err f) p = tt

  pub fills_cut : (res : Result (Option Settling) Full) → IfErr res (λ f. (at : Asking) (n : ℕ) → IsFilling at n task v → IsCutShort at w f.ticket)
      → IfErr res (λ f. (at : Asking) (n : ℕ) → IsAsking at n a → IsCutShort at w f.ticket)
  fills_cut (Ok e) p = tt
  fills_cut (Err f) p = λ at n k. p at n (next_fills at n low s t k)

-- ---- the command, as it is known
module _ (a b : TurnView) (res : Result Reply Full) (c d : Command) (e : c ≡ d) where
  pub done_as : IfOk res (λ r. Done d r a b) → IfOk res (λ r. Done c r a b)
  done_as p = subst (λ k. IfOk res (λ r. Done k r a b)) (sym e) p

  pub cut_as : IfErr res (λ f. Cut d f.ticket a b) → IfErr res (λ f. Cut c f.ticket a b)
  cut_as p = subst (λ k. IfErr res (λ f. Cut k f.ticket a b)) (sym e) p

module _ (a b : TurnView) (q : Question) (d : Command) (asked : IsAsked q d) where
  pub asked_done : (res : Result Reply Full) → IfOk res (λ r. (k : Command) → IsAsked q k → Done k r a b) → IfOk res (λ r. Done d r a b)
  asked_done (Ok r) p = p d asked
  asked_done (Err f) p = tt

  pub asked_cut : (res : Result Reply Full) → IfErr res (λ f. (k : Command) → IsAsked q k → Cut k f.ticket a b) → IfErr res (λ f. Cut d f.ticket a b)
  asked_cut (Ok r) p = tt
  asked_cut (Err f) p = p d asked
