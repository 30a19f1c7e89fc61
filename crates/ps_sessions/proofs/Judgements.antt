-- The verdicts of a legal journal, in which the entries of each seat match commands, are justified.
use Rattle.std.proofs.Common.{ℕ, ◌≡◌, Bool, true, false, cond, List, [], ◌∷◌, ◌++◌, Option, Some, refl, sym, ap, ◌∙◌, subst, append_assoc, append-nil}
use Rattle.std.proofs.lemmas.Bool.{false≢true, eq-eqb}
use Rattle.std.specs.declared.sync.Arc.{Arc}
use Rattle.std.specs.declared.alloc.Global.{Global}
use mathlib.Core.Logic.{∥∥₁_map}
use Rattle.ps_script.specs.declared.name.Place.{Place}
use Rattle.ps_script.specs.declared.command.Command.{Command}
use Rattle.ps_script.specs.declared.command.Command.TheVariants as command
use Rattle.ps_reach.specs.declared.mode.Mode.{Mode}
use Rattle.ps_reach.specs.declared.mode.Mode.TheVariants.{Exact, Phase}
use Rattle.ps_reach.specs.declared.record.Record.{Record}
use Rattle.ps_reach.specs.declared.judged.Judged.{Judged as AJudged}
use Rattle.ps_journal.specs.declared.commands.Cmd.{Cmd}
use Rattle.ps_journal.specs.declared.commands.Cmd.TheVariants as cmd
use Rattle.ps_journal.specs.declared.commands.Outcome.{Outcome}
use Rattle.ps_journal.specs.declared.replies.Reply.{Reply}
use Rattle.ps_journal.specs.declared.replies.Reply.TheVariants.{Answered}
use Rattle.ps_journal.specs.declared.seats.Pin.{Pin}
use Rattle.ps_journal.specs.State.{Version, Circuit, State, Finds, empty}
use Rattle.ps_journal.specs.Opening as opening
use Rattle.ps_journal.specs.Splicing as splicing
use Rattle.ps_journal.specs.Retiring as retiring
use Rattle.ps_journal.specs.Pinning as pinning
use Rattle.ps_journal.specs.Claiming as claiming
use Rattle.ps_journal.specs.Publishing as publishing
use Rattle.ps_journal.specs.Judging as judging
use Rattle.ps_journal.specs.Judging.{FindsBoth, BelongBoth, IsJustifiedFor}
use Rattle.ps_journal.specs.Summing as summing
use Rattle.ps_journal.specs.Showing as showing
use Rattle.ps_journal.specs.Step.{Step, serves, wants}
use Rattle.ps_journal.specs.History.{Entry, LeadsTo, IsLegal, start, next, own_entries, ends_command}
use Rattle.ps_history.specs.Lasts.{HasPinned}
use Rattle.ps_history.specs.Inner.{IsInner}
use Rattle.ps_history.specs.Questions.{EndsJudging, refused, ended, EndsSumming, sum_refused, sum_ended}
use Rattle.ps_history.specs.Matching.{MatchesCommand, AnswersCommand, Matched, nothing, inner, answer}
use Rattle.ps_history.proofs.Lists.{lasts, some_same}
use Rattle.ps_history.proofs.Others.{last_step, own_both}
use Rattle.ps_sessions.specs.Verdicts.{IsJust, AreJust}
use Rattle.ps_sessions.proofs.PinLaws.{pins_named}

-- ---- the front of a history
-- nothing, or a last element behind others
data Back {A : Type 0} : List A → Type 0 where
  empty_back : Back []
  last_back : (xs : List A) (x : A) → Back (xs ++ x ∷ [])

back_more : {A : Type 0} (y : A) {ys : List A} → Back ys → Back (y ∷ ys)
back_more y empty_back = last_back [] y
back_more y (last_back xs x) = last_back (y ∷ xs) x

back : {A : Type 0} (ys : List A) → Back ys
back [] = empty_back
back (y ∷ ys) = back_more y (back ys)

abbrev LeadsSome : List Entry → Type 0
LeadsSome xs = (u : State) × LeadsTo xs u

front_at : (xs fs : List Entry) (f : Entry) (t : State) {ys : List Entry} → LeadsTo (fs ++ f ∷ []) t
    → ((zs : List Entry) → fs ≡ xs ++ zs → LeadsSome xs) → Back ys → fs ++ f ∷ [] ≡ xs ++ ys → LeadsSome xs
front_at xs fs f t l earlier empty_back h = (t, subst (λ es. LeadsTo es t) (h ∙ append-nil xs) l)
front_at xs fs f t l earlier (last_back zs z) h = earlier zs (lasts fs (xs ++ zs) f z (h ∙ sym (append_assoc xs zs (z ∷ [])))).0

pub leads_front : {es : List Entry} {t : State} → LeadsTo es t → (xs ys : List Entry) → es ≡ xs ++ ys → LeadsSome xs
leads_front start [] ys h = (empty, start)
leads_front start (x ∷ xs) ys h = absurd (cc)
leads_front (next {es = fs} {e = f} {t = was} {new = new} l s) xs ys h = front_at xs fs f new (next l s) (λ zs k. leads_front l xs zs k) (back ys) h

-- ---- which replies tell verdicts
abbrev is_verdict : Reply → Bool
is_verdict (Answered judged proof) = true
is_verdict r = false

opens_none : {t new : State} {i : ℕ} {name text : List ℕ} {r : Reply} → opening.Opens t i name text r new → is_verdict r ≡ false
opens_none (opening.name_taken _) = refl
opens_none (opening.circuits_full _ _) = refl
opens_none (opening.bad _ _ _ _) = refl
opens_none (opening.opens _ _ _) = refl

splices_none : {t new : State} {name block : List ℕ} {base from to : ℕ} {r : Reply} → splicing.Splices t name base from to block r new
    → is_verdict r ≡ false
splices_none (splicing.no_circuit _) = refl
splices_none (splicing.stale _ _) = refl
splices_none (splicing.span _ _ _ _) = refl
splices_none (splicing.bad _ _ _) = refl
splices_none (splicing.too_long _ _ _) = refl
splices_none (splicing.nothing _ _ _ _) = refl
splices_none (splicing.commits _ _ _ _) = refl

retires_none : {t new : State} {i : ℕ} {p : Place} {r : Reply} → retiring.Retires t i p r new → is_verdict r ≡ false
retires_none (retiring.no_circuit _) = refl
retires_none (retiring.no_version _ _) = refl
retires_none (retiring.is_latest _ _) = refl
retires_none (retiring.was_retired _ _ _) = refl
retires_none (retiring.retires _ _ _) = refl

refuses_none : {t : State} {p : Place} {r : Reply} → pinning.Refuses t p r → is_verdict r ≡ false
refuses_none (pinning.no_circuit _) = refl
refuses_none (pinning.no_version _ _) = refl
refuses_none (pinning.was_retired _ _) = refl

pins_none : {t new : State} {i seat : ℕ} {first : Place} {second : Option Place} {r : Reply} → pinning.Pins t i seat first second r new
    → is_verdict r ≡ false
pins_none (pinning.first_refused r) = refuses_none r
pins_none (pinning.second_refused _ r) = refuses_none r
pins_none (pinning.widths _ _ _) = refl
pins_none (pinning.pins_one _) = refl
pins_none (pinning.pins_two _ _ _) = refl

nexts_none : {t new : State} {i seat : ℕ} {pinned : Bool} {r : Reply} → claiming.Nexts t i seat pinned r new → is_verdict r ≡ false
nexts_none (claiming.no_pin _) = refl
nexts_none (claiming.idle _) = refl
nexts_none (claiming.settled _ _ _ _) = refl
nexts_none (claiming.gives _ _ _ _) = refl

publishes_none : {t new : State} {i seat : ℕ} {kept : Option (Arc Record Global)} {r : Reply} → publishing.Publishes t i seat kept r new
    → is_verdict r ≡ false
publishes_none (publishing.no_claim _) = refl
publishes_none (publishing.dropped _ _) = refl
publishes_none (publishing.already _ _ _) = refl
publishes_none (publishing.stands _ _) = refl
publishes_none (publishing.other_run _ _ _) = refl
publishes_none (publishing.no_room _ _ _ _) = refl
publishes_none (publishing.publishes _ _ _ _ _) = refl

gives_up_none : {pin : Pin} {o : Outcome} {r : Reply} → summing.GivesUp pin o r → is_verdict r ≡ false
gives_up_none summing.starved = refl
gives_up_none (summing.crowded _) = refl
gives_up_none (summing.not_crowded _) = refl

sums_none : {t new : State} {i seat : ℕ} {o : Outcome} {r : Reply} → summing.Sums t i seat o r new → is_verdict r ≡ false
sums_none (summing.no_pin _) = refl
sums_none (summing.gives_up _ g) = gives_up_none g
sums_none (summing.judged _) = refl
sums_none (summing.unsettled _ _ _) = refl
sums_none (summing.sums _ _ _ _) = refl

reads_none : {t new : State} {p : Place} {r : Reply} → showing.Reads t p r new → is_verdict r ≡ false
reads_none (showing.refused r) = refuses_none r
reads_none (showing.no_room _ _) = refl
reads_none (showing.shows _ _) = refl

-- ---- the step that tells one
-- the seat has pinned two versions, to which the records that were compared belong, and the verdict is justified for them
record Tells (t : State) (seat : ℕ) (j : AJudged) : Type 0 where
  circuit : Circuit
  other_circuit : Circuit
  version : Version
  other : Version
  found : FindsBoth t seat circuit other_circuit version other
  belong : BelongBoth circuit other_circuit version other j
  justified : IsJustifiedFor circuit version other j

-- a reply that is a verdict comes of an Answer, and is so
record Told (t : State) (seat : ℕ) (c : Cmd) (j : AJudged) : Type 0 where
  outcome : Outcome
  cmd_is : c ≡ cmd.Answer outcome
  tells : Tells t seat j

abbrev TellsOf : State → ℕ → Reply → Type 0
TellsOf t seat r = (j : AJudged) (proof : Bool) → r ≡ Answered j proof → Tells t seat j

tells_none : {t : State} {seat : ℕ} (r : Reply) → is_verdict r ≡ false → TellsOf t seat r
tells_none r h j proof e = absurd (false≢true (sym h ∙ ap is_verdict e))

same_judged : (a b : AJudged) (p q : Bool) → Answered a p ≡ Answered b q → a ≡ b
same_judged a b p q e = cc

answers_tell : {t : State} {i seat : ℕ} {o : Outcome} {r : Reply} {new : State} → judging.Answers t i seat o r new → TellsOf t seat r
answers_tell {r = r} (judging.no_pin _) = tells_none r refl
answers_tell {r = r} (judging.gives_up _ g) = tells_none r (gives_up_none g)
answers_tell {r = r} (judging.done _) = tells_none r refl
answers_tell {r = r} (judging.one_alone _ _) = tells_none r refl
answers_tell {r = r} (judging.other_run _ _) = tells_none r refl
answers_tell {r = r} (judging.no_room _ _ _) = tells_none r refl
answers_tell {t} {i} {seat} (judging.answers {c = c} {d = d} {v = v} {w = w} {j = a} {proof = p} finds belong few just) = λ j proof e.
    subst (Tells t seat) (same_judged a.value j p proof e) record {
      circuit = c;
      other_circuit = d;
      version = v;
      other = w;
      found = finds;
      belong = belong;
      justified = just;
    }

told_none : {t : State} {seat : ℕ} (c : Cmd) (r : Reply) → is_verdict r ≡ false → (j : AJudged) (proof : Bool) → r ≡ Answered j proof → Told t seat c j
told_none c r h j proof e = absurd (false≢true (sym h ∙ ap is_verdict e))

step_told : {t : State} {i seat : ℕ} {r : Reply} {new : State} (c : Cmd) → Step t i seat c r new → (j : AJudged) (proof : Bool) → r ≡ Answered j proof
    → Told t seat c j
step_told {r = r} c (wants _) = told_none c r refl
step_told {r = r} (cmd.Open name text) (serves s) = told_none (cmd.Open name text) r (opens_none s)
step_told {r = r} (cmd.Splice name base from to block) (serves s) = told_none (cmd.Splice name base from to block) r (splices_none s)
step_told {r = r} (cmd.Retire name version) (serves s) = told_none (cmd.Retire name version) r (retires_none s)
step_told {r = r} (cmd.Pin first second) (serves s) = told_none (cmd.Pin first second) r (pins_none s)
step_told {r = r} (cmd.Next pinned) (serves s) = told_none (cmd.Next pinned) r (nexts_none s)
step_told {r = r} (cmd.Publish kept) (serves s) = told_none (cmd.Publish kept) r (publishes_none s)
step_told {r = r} (cmd.Answer outcome) (serves s) = λ j proof e. record { outcome = outcome; cmd_is = refl; tells = answers_tell s j proof e }
step_told {r = r} (cmd.Read place) (serves s) = told_none (cmd.Read place) r (reads_none s)
step_told {r = r} (cmd.Sum outcome) (serves s) = told_none (cmd.Sum outcome) r (sums_none s)

-- ---- what an entry is among those of its seat that match commands
data MatchedAt (own : List Entry) (e : Entry) : Type 0 where
  at_inner : IsInner own e → MatchedAt own e
  at_answer : (c : Command) → AnswersCommand own c e → MatchedAt own e

-- the last of them, or one before it
module _ (xs fs : List Entry) (e f : Entry) (last_one : MatchedAt fs f) (others : (zs : List Entry) → fs ≡ xs ++ e ∷ zs → MatchedAt xs e) where
  matched_back : {ys : List Entry} → Back ys → fs ++ f ∷ [] ≡ xs ++ e ∷ ys → MatchedAt xs e
  matched_back empty_back h =
      let p = lasts fs xs f e h in
      subst (MatchedAt xs) p.1 (subst (λ zs. MatchedAt zs f) p.0 last_one)
  matched_back (last_back zs z) h = others zs (lasts fs (xs ++ e ∷ zs) f z (h ∙ sym (append_assoc xs (e ∷ zs) (z ∷ [])))).0

matched_at : {es : List Entry} {cs : List Command} → Matched es cs → (xs ys : List Entry) (e : Entry) → es ≡ xs ++ e ∷ ys → MatchedAt xs e
matched_at nothing [] ys e h = absurd (cc)
matched_at nothing (x ∷ xs) ys e h = absurd (cc)
matched_at (inner {es = fs} f m i) xs ys e h = matched_back xs fs e f (at_inner i) (λ zs k. matched_at m xs zs e k) (back ys) h
matched_at (answer {es = fs} f c m a) xs ys e h = matched_back xs fs e f (at_answer c a) (λ zs k. matched_at m xs zs e k) (back ys) h

-- ---- a verdict answers a question about places that the seat has pinned
record Asked (own : List Entry) : Type 0 where
  first : Place
  second : Place
  pinned : HasPinned own first (Some second)

judging_asked : (own : List Entry) (mode : Mode) (proof : Bool) (first second : Place) (e : Entry) (o : Outcome) → e.cmd ≡ cmd.Answer o
    → EndsJudging own mode proof first second e → Asked own
judging_asked own mode proof first second e o h (refused k _) = absurd (cc)
judging_asked own mode proof first second e o h (ended p _ _) = record { first = first; second = second; pinned = p }

summing_asked : (own : List Entry) (place : Place) (e : Entry) (o : Outcome) → e.cmd ≡ cmd.Answer o → EndsSumming own place e → Asked own
summing_asked own place e o h (sum_refused k _) = absurd (cc)
summing_asked own place e o h (sum_ended _ k _) = absurd (cc)

command_asked : (own : List Entry) (c : Command) (e : Entry) (o : Outcome) → e.cmd ≡ cmd.Answer o → MatchesCommand own c e → Asked own
command_asked own (command.Open name text) e o h m = absurd (cc)
command_asked own (command.Splice place from to block) e o h m = absurd (cc)
command_asked own (command.Retire place) e o h m = absurd (cc)
command_asked own (command.Ask first second) e o h m = judging_asked own Exact false first second e o h m
command_asked own (command.AskPhase first second) e o h m = judging_asked own Phase false first second e o h m
command_asked own (command.Prove first second) e o h m = judging_asked own Exact true first second e o h m
command_asked own (command.Sum place) e o h m = summing_asked own place e o h m
command_asked own (command.Show place) e o h m = absurd (cc)

at_asked : (own : List Entry) (e : Entry) (o : Outcome) → e.cmd ≡ cmd.Answer o → MatchedAt own e → Asked own
at_asked own e o h (at_inner i) = absurd (false≢true (sym i.inner ∙ ap (λ c. ends_command c e.reply) h))
at_asked own e o h (at_answer c a) = command_asked own c e o h a.matches

-- ---- the whole
-- the entries of the seat behind these and this one
own_split : (before after : List Entry) (e : Entry)
    → own_entries e.seat (before ++ e ∷ after) ≡ own_entries e.seat before ++ e ∷ own_entries e.seat after
own_split before after e =
    own_both e.seat before (e ∷ after)
    ∙ ap (λ b. own_entries e.seat before ++ cond b (e ∷ own_entries e.seat after) (own_entries e.seat after)) (eq-eqb e.seat e.seat refl)

module _ (before after : List Entry) (e : Entry) (j : AJudged) (proof : Bool) (told : e.reply ≡ Answered j proof) {cs : List Command}
    (matched : Matched (own_entries e.seat (before ++ e ∷ after)) cs) where
  last_just : LeadsSome (before ++ e ∷ []) → IsJust before e.seat j
  last_just l =
      let s = last_step before e l.0 l.1 in
      let w = step_told e.cmd s.step j proof told in
      let asked = at_asked (own_entries e.seat before) e w.outcome w.cmd_is
      (matched_at matched (own_entries e.seat before) (own_entries e.seat after) e (own_split before after e)) in
      let found = w.tells.found in
      let named = pins_named e.seat found.pin asked.first (Some asked.second) s.leads found.pin_is asked.pinned in
      let second : found.second ≡ asked.second = some_same found.second asked.second (sym found.second_is ∙ named.1) in
      record {
        first = asked.first;
        second = asked.second;
        pinned = asked.pinned;
        state = s.before;
        leads = s.leads;
        circuit = w.tells.circuit;
        other_circuit = w.tells.other_circuit;
        version = w.tells.version;
        other = w.tells.other;
        first_found = subst (λ p. Finds s.before p w.tells.circuit w.tells.version) named.0 found.first_found;
        second_found = subst (λ p. Finds s.before p w.tells.other_circuit w.tells.other) second found.second_found;
        belong = w.tells.belong;
        justified = w.tells.justified;
      }

pub legal_just : (es : List Entry) (cs : ℕ → List Command) → IsLegal es → ((seat : ℕ) → Matched (own_entries seat es) (cs seat)) → AreJust es
legal_just es cs legal matched before after e j proof whole told =
    ∥∥₁_map legal
    (λ p. last_just before after e j proof told (subst (λ xs. Matched (own_entries e.seat xs) (cs e.seat)) whole (matched e.seat))
    (leads_front p.1 (before ++ e ∷ []) after (whole ∙ sym (append_assoc before (e ∷ []) after))))
