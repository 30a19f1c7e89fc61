-- How questions end, and what their commands were answered.
use Rattle.std.proofs.Common.{ℕ, ◌≡◌, ◌≢◌, ◌<◌, Bool, true, List, Option, Some, None, refl, sym, ap, ◌∙◌, subst}
use Rattle.std.specs.declared.sync.Arc.{Arc}
use Rattle.std.specs.declared.alloc.Global.{Global}
use Rattle.ps_desk.specs.Views.{entry}
use Rattle.ps_script.specs.declared.name.Place.{Place}
use Rattle.ps_script.specs.declared.command.Command.{Command}
use Rattle.ps_script.specs.declared.command.Command.TheVariants as command
use Rattle.ps_reach.specs.declared.mode.Mode.{Mode}
use Rattle.ps_reach.specs.declared.record.Record.{Record}
use Rattle.ps_reach.specs.declared.judged.Judged.{Judged as AJudged}
use Rattle.ps_journal.specs.declared.commands.Cmd.TheVariants as cmd
use Rattle.ps_journal.specs.declared.commands.Outcome.{Outcome}
use Rattle.ps_journal.specs.declared.commands.Outcome.TheVariants as outcome
use Rattle.ps_journal.specs.declared.replies.Reply.{Reply}
use Rattle.ps_journal.specs.declared.replies.Reply.TheVariants.{Pinned}
use Rattle.ps_journal.specs.History.{Entry, own_entries, ends_command}
use Rattle.ps_history.specs.Questions.{Judges, Sums, EndsJudging, refused, ended, sum_refused, sum_ended}
use Rattle.ps_history.specs.Matching.{MatchesCommand}
use Rattle.ps_history.specs.Bounds.{IsWithin, IsQuestioned, single, pinned, IsBounded}
use Rattle.ps_history.specs.Taken.{IsTurn}
use Rattle.ps_history.specs.After.{EndsWith}
use Rattle.ps_calls.specs.declared.settling.Settling.{Settling}
use Rattle.ps_calls.specs.declared.settling.Settling.TheVariants as settling
use Rattle.ps_calls.specs.declared.questions.Question.{Question}
use Rattle.ps_calls.specs.Turns.{TurnView, Stays, Turned, Refused}
use Rattle.ps_calls.specs.Calls.{own, Done, Cut}
use Rattle.ps_calls.specs.Comparing.{IsOf, Concludes}
use Rattle.ps_calls.specs.Comparing.{Sums as SumsTo}
use Rattle.ps_calls.specs.Settling.{SettlingEnds, IsCutShort, IsAsked}
use Rattle.ps_history.proofs.Ends.{judged-ends, settled-starved-ends, starved-ends, crowded-ends, summed-ends, starved-sum-ends, crowded-sum-ends}
use Rattle.ps_calls.proofs.Views.{turned-is}
use Rattle.ps_calls.proofs.Singles.{single_done, single_cut, own_after}
use Rattle.ps_calls.proofs.Stages.{asking, end_idles, end_pin}

-- ---- the last turn of a question about two versions
-- after this end of the filling, seen in v, the seat ends the question so, and sees w
abbrev EndsBy : Mode → Bool → Place → Place → ℕ → List Entry → TurnView → TurnView → Reply → Outcome → Type 0
EndsBy mode proof first second seat es v w r o =
    IsTurn seat v.seen w.seen (cmd.Answer o) r → EndsWith seat es v.seen w.seen first (Some second) (λ l. Judges l mode proof o r) r

compared_ends : (mode : Mode) (proof : Bool) (first second : Place) (seat : ℕ) (es : List Entry) (v w : TurnView) (r : Reply)
    (x y : Record) (j : Arc AJudged Global)
    → SettlingEnds (record { seat = seat; own = es; first = first; second = Some second }) v (settling.Settled x (Some y))
    → IsOf mode x y j.value → EndsBy mode proof first second seat es v w r (outcome.Judged j proof)
compared_ends mode proof first second seat es v w r x y j k o t =
    judged-ends seat es v.seen w.seen first second k.rounds x y mode proof j r k.settled o.first_is o.second_is record {
      first = x;
      second = y;
      told = k.settled.told;
      first_is = o.first_is;
      second_is = o.second_is;
      mode_is = o.mode_is;
      found = o.found;
    } t

judging_ends : (mode : Mode) (proof : Bool) (first second : Place) (seat : ℕ) (es : List Entry) (v w : TurnView) (r : Reply) (e : Settling) (o : Outcome)
    → SettlingEnds (record { seat = seat; own = es; first = first; second = Some second }) v e
    → Concludes mode proof e o → EndsBy mode proof first second seat es v w r o
judging_ends mode proof first second seat es v w r (settling.Settled x (Some y)) (outcome.Judged j p) k c =
    subst (λ q. EndsBy mode proof first second seat es v w r (outcome.Judged j q)) (sym c.0) (compared_ends mode proof first second seat es v w r x y j k c.1)
judging_ends mode proof first second seat es v w r (settling.Settled x (Some y)) outcome.Starved k c =
    settled-starved-ends seat es v.seen w.seen first second k.rounds x (Some y) mode proof r k.settled
judging_ends mode proof first second seat es v w r (settling.Settled x (Some y)) outcome.Done k c = absurd c
judging_ends mode proof first second seat es v w r (settling.Settled x (Some y)) outcome.Crowded k c = absurd c
judging_ends mode proof first second seat es v w r (settling.Settled x None) o k c =
    subst (EndsBy mode proof first second seat es v w r) (sym c)
    (settled-starved-ends seat es v.seen w.seen first second k.rounds x None mode proof r k.settled)
judging_ends mode proof first second seat es v w r settling.Starved o k c =
    subst (EndsBy mode proof first second seat es v w r) (sym c) (starved-ends seat es v.seen w.seen first second mode proof r k.gave_up)
judging_ends mode proof first second seat es v w r settling.Crowded o k c =
    subst (EndsBy mode proof first second seat es v w r) (sym c) (crowded-ends seat es v.seen w.seen first second k.0 mode proof r k.1.gave_up)

-- ---- and of one about a sum
abbrev SumsBy : Place → ℕ → List Entry → TurnView → TurnView → Reply → Outcome → Type 0
SumsBy place seat es v w r o = IsTurn seat v.seen w.seen (cmd.Sum o) r → EndsWith seat es v.seen w.seen place None (λ l. Sums l o r) r

summing_ends : (place : Place) (seat : ℕ) (es : List Entry) (v w : TurnView) (r : Reply) (e : Settling) (o : Outcome)
    → SettlingEnds (record { seat = seat; own = es; first = place; second = None }) v e → SumsTo e o → SumsBy place seat es v w r o
summing_ends place seat es v w r (settling.Settled x y) o k c =
    subst (SumsBy place seat es v w r) (sym c) (summed-ends seat es v.seen w.seen place k.rounds x y r k.settled)
summing_ends place seat es v w r settling.Starved o k c =
    subst (SumsBy place seat es v w r) (sym c) (starved-sum-ends seat es v.seen w.seen place r k.gave_up)
summing_ends place seat es v w r settling.Crowded o k c =
    subst (SumsBy place seat es v w r) (sym c) (crowded-sum-ends seat es v.seen w.seen place k.0 r k.1.gave_up)

-- ---- what a Pin ends
pin_ends : (first : Place) (second : Option Place) (r : Reply) → r ≢ Pinned → ends_command (cmd.Pin first second) r ≡ true
pin_ends first second Pinned n = absurd (n refl)
pin_ends first second _ n = refl

-- ---- the command that asks a question
asked_matches : (q : Question) (c : Command) (es : List Entry) (e : Entry) → IsAsked q c
    → EndsJudging es q.mode q.proof q.first q.second e → MatchesCommand es c e
asked_matches q (command.Ask first second) es e k m = rw (← k.0, ← k.1, ← k.2, ← k.3) m
asked_matches q (command.AskPhase first second) es e k m = rw (← k.0, ← k.1, ← k.2, ← k.3) m
asked_matches q (command.Prove first second) es e k m = rw (← k.0, ← k.1, ← k.2, ← k.3) m
asked_matches q (command.Open name text) es e k m = absurd k
asked_matches q (command.Splice place from to block) es e k m = absurd k
asked_matches q (command.Retire place) es e k m = absurd k
asked_matches q (command.Sum place) es e k m = absurd k
asked_matches q (command.Show place) es e k m = absurd k

asked_bound : (q : Question) (c : Command) (seat : ℕ) (es fs seen : List Entry) (spare : ℕ) → IsAsked q c
    → IsQuestioned seat es fs seen q.first (Some q.second) spare → IsBounded c seat es fs seen spare
asked_bound q (command.Ask first second) seat es fs seen spare k b = rw (← k.0, ← k.1) b
asked_bound q (command.AskPhase first second) seat es fs seen spare k b = rw (← k.0, ← k.1) b
asked_bound q (command.Prove first second) seat es fs seen spare k b = rw (← k.0, ← k.1) b
asked_bound q (command.Open name text) seat es fs seen spare k b = absurd k
asked_bound q (command.Splice place from to block) seat es fs seen spare k b = absurd k
asked_bound q (command.Retire place) seat es fs seen spare k b = absurd k
asked_bound q (command.Sum place) seat es fs seen spare k b = absurd k
asked_bound q (command.Show place) seat es fs seen spare k b = absurd k

-- ---- questions that a Pin or its refused ticket ends
pub ask_refused : (q : Question) (c : Command) {r : Reply} {a b : TurnView} → IsAsked q c
    → Stays a b → Turned a b (cmd.Pin q.first (Some q.second)) r → r ≢ Pinned → Done c r a b
ask_refused q c {r} {a} {b} k s t n =
    let e = pin_ends q.first (Some q.second) r n in
    single_done c (cmd.Pin q.first (Some q.second)) s t refl e
    (asked_matches q c (own a) (entry a.number (cmd.Pin q.first (Some q.second)) r) k (refused refl e))
    (λ one. asked_bound q c a.number (own a) (own b) b.seen 0 k (single one))

pub sum_refused_done : (place : Place) {r : Reply} {a b : TurnView} → Stays a b
    → Turned a b (cmd.Pin place None) r → r ≢ Pinned → Done (command.Sum place) r a b
sum_refused_done place {r} {a} {b} s t n =
    let e = pin_ends place None r n in
    single_done (command.Sum place) (cmd.Pin place None) s t refl e (sum_refused refl e) single

pub ask_cut : (q : Question) (c : Command) {ticket : ℕ} {a b : TurnView} → IsAsked q c → Stays a b → Refused a b ticket → Cut c ticket a b
ask_cut q c {a = a} {b = b} k s r = single_cut c s r (λ one. asked_bound q c a.number (own a) (own b) b.seen 1 k (single one))

pub sum_cut : (place : Place) {ticket : ℕ} {a b : TurnView} → Stays a b → Refused a b ticket → Cut (command.Sum place) ticket a b
sum_cut place s r = single_cut (command.Sum place) s r single

-- ---- questions that are cut short behind it
pub ask_cut_short : (q : Question) (c : Command) {ticket : ℕ} {a b : TurnView} → IsAsked q c
    → Stays a b → IsCutShort (asking a q.first (Some q.second)) b ticket → Cut c ticket a b
ask_cut_short q c {a = a} {b = b} k s cut =
    let P = λ (es : List Entry). ∥ IsWithin a.number (own a) es b.seen q.first (Some q.second) 1 ∥₁ in
    record {
      idles = rw (own_after s) cut.idles;
      bounded = asked_bound q c a.number (own a) (own b) b.seen 1 k (pinned (subst P (sym (own_after s)) cut.within));
      refused = cut.refused;
      late = cut.late;
    }

pub sum_cut_short : (place : Place) {ticket : ℕ} {a b : TurnView} → Stays a b → IsCutShort (asking a place None) b ticket → Cut (command.Sum place) ticket a b
sum_cut_short place {a = a} {b = b} s cut =
    let P = λ (es : List Entry). ∥ IsWithin a.number (own a) es b.seen place None 1 ∥₁ in
    record {
      idles = rw (own_after s) cut.idles;
      bounded = pinned (subst P (sym (own_after s)) cut.within);
      refused = cut.refused;
      late = cut.late;
    }

-- ---- questions that are answered
pub ask_done : (q : Question) (c : Command) {a v w : TurnView} (e : Settling) {o : Outcome} {r : Reply} → IsAsked q c → a.number < 64 → Stays a v → Stays v w
    → SettlingEnds (asking a q.first (Some q.second)) v e → Concludes q.mode q.proof e o → Turned v w (cmd.Answer o) r → Done c r a w
ask_done q c {a} {v} {w} e {o} {r} k low s s2 ends concludes t =
    let turn : IsTurn a.number v.seen w.seen (cmd.Answer o) r = turned-is a.number s.number low t in
    let end = judging_ends q.mode q.proof q.first q.second a.number (own a) v w r e o ends concludes turn in
    let after : own w ≡ own_entries a.number w.seen = ap (λ n. own_entries n w.seen) (s2.number ∙ s.number) in
    let P = λ (es : List Entry). ∥ IsWithin a.number (own a) es w.seen q.first (Some q.second) 0 ∥₁ in
    let at = asking a q.first (Some q.second) in
    record {
      answers = record {
        between = own_entries a.number v.seen;
        last = entry a.number (cmd.Answer o) r;
        idles = end_idles at v e ends;
        whole = after ∙ turn.own;
        answers = record {
          ends = refl;
          matches = asked_matches q c (own_entries a.number v.seen) (entry a.number (cmd.Answer o) r) k (ended {o = o} (end_pin at v e ends) refl end.ends);
          proper = end.proper;
        };
        reply_is = refl;
      };
      bounded = asked_bound q c a.number (own a) (own w) w.seen 0 k (pinned (subst P (sym after) end.within));
      lawful = t.lawful;
      unrefused = t.unrefused;
    }

pub sum_done : (place : Place) {a v w : TurnView} (e : Settling) {o : Outcome} {r : Reply} → a.number < 64 → Stays a v → Stays v w
    → SettlingEnds (asking a place None) v e → SumsTo e o → Turned v w (cmd.Sum o) r → Done (command.Sum place) r a w
sum_done place {a} {v} {w} e {o} {r} low s s2 ends sums t =
    let turn : IsTurn a.number v.seen w.seen (cmd.Sum o) r = turned-is a.number s.number low t in
    let end = summing_ends place a.number (own a) v w r e o ends sums turn in
    let after : own w ≡ own_entries a.number w.seen = ap (λ n. own_entries n w.seen) (s2.number ∙ s.number) in
    let P = λ (es : List Entry). ∥ IsWithin a.number (own a) es w.seen place None 0 ∥₁ in
    let at = asking a place None in
    record {
      answers = record {
        between = own_entries a.number v.seen;
        last = entry a.number (cmd.Sum o) r;
        idles = end_idles at v e ends;
        whole = after ∙ turn.own;
        answers = record {
          ends = refl;
          matches = sum_ended {o = o} (end_pin at v e ends) refl end.ends;
          proper = end.proper;
        };
        reply_is = refl;
      };
      bounded = pinned (subst P (sym after) end.within);
      lawful = t.lawful;
      unrefused = t.unrefused;
    }
