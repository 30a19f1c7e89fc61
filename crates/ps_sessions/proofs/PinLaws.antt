-- LAW: what a seat has pinned is what its last Pin names, as long as that was done.
use Rattle.std.proofs.Common.{ℕ, zero, suc, ◌≡◌, Bool, true, false, cond, List, [], ◌∷◌}
use Rattle.std.proofs.Common.{◌++◌, length, Option, Some, None, refl, sym, ap, ◌∙◌, subst, append-nil, ◌+◌}
use Rattle.std.specs.Prelude.{eqb, slice_index_or, slice_set}
use Rattle.std.proofs.lemmas.Bool.{false≢true, eqb-true}
use Rattle.std.specs.declared.sync.Arc.{Arc}
use Rattle.std.specs.declared.alloc.Global.{Global}
use Rattle.ps_script.specs.declared.name.Place.{Place}
use Rattle.ps_reach.specs.declared.record.Record.{Record}
use Rattle.ps_journal.specs.declared.commands.Cmd.{Cmd}
use Rattle.ps_journal.specs.declared.commands.Cmd.TheVariants as cmd
use Rattle.ps_journal.specs.declared.commands.Outcome.{Outcome}
use Rattle.ps_journal.specs.declared.replies.Reply.{Reply}
use Rattle.ps_journal.specs.declared.replies.Reply.TheVariants.{Pinned}
use Rattle.ps_journal.specs.declared.seats.Pin.{Pin}
use Rattle.ps_journal.specs.State.{State, pin_of, unclaimed}
use Rattle.ps_journal.specs.Keeping.{unpinned}
use Rattle.ps_journal.specs.Opening as opening
use Rattle.ps_journal.specs.Splicing as splicing
use Rattle.ps_journal.specs.Retiring as retiring
use Rattle.ps_journal.specs.Pinning as pinning
use Rattle.ps_journal.specs.Claiming as claiming
use Rattle.ps_journal.specs.Publishing as publishing
use Rattle.ps_journal.specs.Judging as judging
use Rattle.ps_journal.specs.Summing as summing
use Rattle.ps_journal.specs.Showing as showing
use Rattle.ps_journal.specs.Step.{Step, serves, wants}
use Rattle.ps_journal.specs.History.{Entry, LeadsTo, start, next, own_entries}
use Rattle.ps_history.specs.Lasts.{is_pin, LastOf, newest, earlier, HasPinned}
use Rattle.ps_history.proofs.Lists.{last_there, lasts, some_same}
use Rattle.ps_history.proofs.Passing.{step_passes}
use Rattle.ps_history.proofs.Others.{own_both}

-- ---- what stands in a list where something was written
set_read : {A : Type 0} (xs : List (Option A)) (i : ℕ) (o : Option A) (a : A) → slice_index_or (slice_set xs i o) i None ≡ Some a → o ≡ Some a
set_read [] i o a h = absurd (cc)
set_read (x ∷ xs) zero o a h = h
set_read (x ∷ xs) (suc i) o a h = set_read xs i o a h

-- ---- a step of the seat that is no Pin
-- the seat had this pin before, but for the total that was refused since
record KeepsPin (old : Option Pin) (pin : Pin) : Type 0 where
  was : Pin
  old_is : old ≡ Some was
  first : pin.first ≡ was.first
  second : pin.second ≡ was.second

abbrev Kept : ℕ → State → State → Type 0
Kept seat t new = (pin : Pin) → pin_of new seat ≡ Some pin → KeepsPin (pin_of t seat) pin

same : (o : Option Pin) (pin : Pin) → o ≡ Some pin → KeepsPin o pin
same o pin h = record { was = pin; old_is = h; first = refl; second = refl }

refused_kept : (total : ℕ) (o : Option Pin) (pin : Pin) → publishing.refused_pin total o ≡ Some pin → KeepsPin o pin
refused_kept total None pin h = absurd (cc)
refused_kept total (Some was) pin h =
    let is : record was { refused = Some total } ≡ pin = some_same (record was { refused = Some total }) pin h in
    record { was = was; old_is = refl; first = ap (λ (p : Pin). p.first) (sym is); second = ap (λ (p : Pin). p.second) (sym is) }

none_some : (pin : Pin) → None ≡ Some pin → ⊥
none_some pin h = cc

opens_kept : {t : State} {i : ℕ} (seat : ℕ) {name text : List ℕ} {r : Reply} {new : State} → opening.Opens t i name text r new → Kept seat t new
opens_kept {t} {i} seat (opening.name_taken _) pin h = same (pin_of t seat) pin h
opens_kept {t} {i} seat (opening.circuits_full _ _) pin h = same (pin_of t seat) pin h
opens_kept {t} {i} seat (opening.bad _ _ _ _) pin h = same (pin_of t seat) pin h
opens_kept {t} {i} seat (opening.opens _ _ _) pin h = same (pin_of t seat) pin h

splices_kept : {t : State} (seat : ℕ) {name block : List ℕ} {base from to : ℕ} {r : Reply} {new : State}
    → splicing.Splices t name base from to block r new → Kept seat t new
splices_kept {t} seat (splicing.no_circuit _) pin h = same (pin_of t seat) pin h
splices_kept {t} seat (splicing.stale _ _) pin h = same (pin_of t seat) pin h
splices_kept {t} seat (splicing.span _ _ _ _) pin h = same (pin_of t seat) pin h
splices_kept {t} seat (splicing.bad _ _ _) pin h = same (pin_of t seat) pin h
splices_kept {t} seat (splicing.too_long _ _ _) pin h = same (pin_of t seat) pin h
splices_kept {t} seat (splicing.nothing _ _ _ _) pin h = same (pin_of t seat) pin h
splices_kept {t} seat (splicing.commits _ _ _ _) pin h = same (pin_of t seat) pin h

retires_kept : {t : State} {i : ℕ} (seat : ℕ) {p : Place} {r : Reply} {new : State} → retiring.Retires t i p r new → Kept seat t new
retires_kept {t} {i} seat (retiring.no_circuit _) pin h = same (pin_of t seat) pin h
retires_kept {t} {i} seat (retiring.no_version _ _) pin h = same (pin_of t seat) pin h
retires_kept {t} {i} seat (retiring.is_latest _ _) pin h = same (pin_of t seat) pin h
retires_kept {t} {i} seat (retiring.was_retired _ _ _) pin h = same (pin_of t seat) pin h
retires_kept {t} {i} seat (retiring.retires _ _ _) pin h = same (pin_of t seat) pin h

nexts_kept : {t : State} {i : ℕ} (seat : ℕ) {pinned : Bool} {r : Reply} {new : State} → claiming.Nexts t i seat pinned r new → Kept seat t new
nexts_kept {t} {i} seat (claiming.no_pin _) pin h = same (pin_of t seat) pin h
nexts_kept {t} {i} seat (claiming.idle _) pin h = same (pin_of t seat) pin h
nexts_kept {t} {i} seat (claiming.settled _ _ _ _) pin h = same (pin_of t seat) pin h
nexts_kept {t} {i} seat (claiming.gives _ _ _ _) pin h = same (pin_of t seat) pin h

publishes_kept : {t : State} {i : ℕ} (seat : ℕ) {kept : Option (Arc Record Global)} {r : Reply} {new : State}
    → publishing.Publishes t i seat kept r new → Kept seat t new
publishes_kept {t} {i} seat (publishing.no_claim _) pin h = same (pin_of t seat) pin h
publishes_kept {t} {i} seat (publishing.dropped _ _) pin h = same (pin_of t seat) pin h
publishes_kept {t} {i} seat (publishing.already _ _ _) pin h = same (pin_of t seat) pin h
publishes_kept {t} {i} seat (publishing.stands _ _) pin h = same (pin_of t seat) pin h
publishes_kept {t} {i} seat (publishing.other_run _ _ _) pin h = same (pin_of t seat) pin h
publishes_kept {t} {i} seat (publishing.no_room {r = r} _ _ _ _) pin h =
    let total = t.terms + publishing.size r.value in
    refused_kept total (pin_of t seat) pin (set_read t.pins seat (publishing.refused_pin total (pin_of t seat)) pin h)
publishes_kept {t} {i} seat (publishing.publishes _ _ _ _ _) pin h = same (pin_of t seat) pin h

unpinned_kept : (t : State) (i seat : ℕ) → Kept seat t (unpinned i seat t)
unpinned_kept t i seat pin h = absurd (none_some pin (set_read t.pins seat None pin h))

answers_kept : {t : State} {i : ℕ} (seat : ℕ) {o : Outcome} {r : Reply} {new : State} → judging.Answers t i seat o r new → Kept seat t new
answers_kept {t} {i} seat (judging.no_pin _) pin h = same (pin_of t seat) pin h
answers_kept {t} {i} seat (judging.gives_up _ _) pin h = unpinned_kept t i seat pin h
answers_kept {t} {i} seat (judging.done _) pin h = unpinned_kept t i seat pin h
answers_kept {t} {i} seat (judging.one_alone _ _) pin h = unpinned_kept t i seat pin h
answers_kept {t} {i} seat (judging.other_run _ _) pin h = unpinned_kept t i seat pin h
answers_kept {t} {i} seat (judging.no_room _ _ _) pin h = unpinned_kept t i seat pin h
answers_kept {t} {i} seat (judging.answers _ _ _ _) pin h = unpinned_kept t i seat pin h

sums_kept : {t : State} {i : ℕ} (seat : ℕ) {o : Outcome} {r : Reply} {new : State} → summing.Sums t i seat o r new → Kept seat t new
sums_kept {t} {i} seat (summing.no_pin _) pin h = same (pin_of t seat) pin h
sums_kept {t} {i} seat (summing.gives_up _ _) pin h = unpinned_kept t i seat pin h
sums_kept {t} {i} seat (summing.judged _) pin h = unpinned_kept t i seat pin h
sums_kept {t} {i} seat (summing.unsettled _ _ _) pin h = unpinned_kept t i seat pin h
sums_kept {t} {i} seat (summing.sums _ _ _ _) pin h = unpinned_kept t i seat pin h

reads_kept : {t : State} (seat : ℕ) {p : Place} {r : Reply} {new : State} → showing.Reads t p r new → Kept seat t new
reads_kept {t} seat (showing.refused _) pin h = same (pin_of t seat) pin h
reads_kept {t} seat (showing.no_room _ _) pin h = same (pin_of t seat) pin h
reads_kept {t} seat (showing.shows _ _) pin h = same (pin_of t seat) pin h

-- want of memory
left_kept : (seat : ℕ) (t u new : State) → Some u ≡ Some new → Kept seat t u → Kept seat t new
left_kept seat t u new h k = subst (Kept seat t) (some_same u new h) k

same_kept : (seat : ℕ) (t : State) → Kept seat t t
same_kept seat t pin h = same (pin_of t seat) pin h

unclaimed_kept : (seat : ℕ) (t : State) → Kept seat t (unclaimed seat t)
unclaimed_kept seat t pin h = same (pin_of t seat) pin h

step_kept : {t : State} {i seat : ℕ} (c : Cmd) {r : Reply} {new : State} → is_pin c ≡ false → Step t i seat c r new → Kept seat t new
step_kept {t} {i} {seat} (cmd.Open name text) p (serves s) = opens_kept seat s
step_kept {t} {i} {seat} (cmd.Open name text) {new = new} p (wants h) = left_kept seat t t new h (same_kept seat t)
step_kept {t} {i} {seat} (cmd.Splice name base from to block) p (serves s) = splices_kept seat s
step_kept {t} {i} {seat} (cmd.Splice name base from to block) {new = new} p (wants h) = left_kept seat t t new h (same_kept seat t)
step_kept {t} {i} {seat} (cmd.Retire name version) p (serves s) = retires_kept seat s
step_kept {t} {i} {seat} (cmd.Retire name version) p (wants h) = absurd (cc)
step_kept {t} {i} {seat} (cmd.Pin first second) p s = absurd (false≢true (sym p))
step_kept {t} {i} {seat} (cmd.Next pinned) p (serves s) = nexts_kept seat s
step_kept {t} {i} {seat} (cmd.Next pinned) {new = new} p (wants h) = left_kept seat t (unclaimed seat t) new h (unclaimed_kept seat t)
step_kept {t} {i} {seat} (cmd.Publish kept) p (serves s) = publishes_kept seat s
step_kept {t} {i} {seat} (cmd.Publish kept) {new = new} p (wants h) = left_kept seat t (unclaimed seat t) new h (unclaimed_kept seat t)
step_kept {t} {i} {seat} (cmd.Answer outcome) p (serves s) = answers_kept seat s
step_kept {t} {i} {seat} (cmd.Answer outcome) {new = new} p (wants h) = left_kept seat t (unpinned i seat t) new h (unpinned_kept t i seat)
step_kept {t} {i} {seat} (cmd.Read place) p (serves s) = reads_kept seat s
step_kept {t} {i} {seat} (cmd.Read place) {new = new} p (wants h) = left_kept seat t t new h (same_kept seat t)
step_kept {t} {i} {seat} (cmd.Sum outcome) p (serves s) = sums_kept seat s
step_kept {t} {i} {seat} (cmd.Sum outcome) {new = new} p (wants h) = left_kept seat t (unpinned i seat t) new h (unpinned_kept t i seat)

-- ---- a Pin that was done
refuses_not : {t : State} {p : Place} {r : Reply} → pinning.Refuses t p r → r ≡ Pinned → ⊥
refuses_not (pinning.no_circuit _) h = cc
refuses_not (pinning.no_version _ _) h = cc
refuses_not (pinning.was_retired _ _) h = cc

-- the pin is of these places
record IsOf (pin : Pin) (first : Place) (second : Option Place) : Type 0 where
  is_first : pin.first ≡ first
  is_second : pin.second ≡ second

new_pin_is : (first : Place) (second : Option Place) (pin : Pin) → Some (pinning.new_pin first second) ≡ Some pin → IsOf pin first second
new_pin_is first second pin h =
    let is : pinning.new_pin first second ≡ pin = some_same (pinning.new_pin first second) pin h in
    record { is_first = ap (λ (p : Pin). p.first) (sym is); is_second = ap (λ (p : Pin). p.second) (sym is) }

pins_set : {t : State} {i seat : ℕ} {first : Place} {second : Option Place} {r : Reply} {new : State}
    → pinning.Pins t i seat first second r new → r ≡ Pinned
    → (pin : Pin) → pin_of new seat ≡ Some pin → IsOf pin first second
pins_set (pinning.first_refused x) h pin k = absurd (refuses_not x h)
pins_set (pinning.second_refused _ x) h pin k = absurd (refuses_not x h)
pins_set (pinning.widths _ _ _) h pin k = absurd (cc)
pins_set {t = t} {seat = seat} {first = first} (pinning.pins_one _) h pin k =
    new_pin_is first None pin (set_read t.pins seat (Some (pinning.new_pin first None)) pin k)
pins_set {t = t} {seat = seat} {first = first} (pinning.pins_two {second = second} _ _ _) h pin k =
    new_pin_is first (Some second) pin (set_read t.pins seat (Some (pinning.new_pin first (Some second))) pin k)

step_set : {t : State} {i seat : ℕ} {first : Place} {second : Option Place} {r : Reply} {new : State}
    → Step t i seat (cmd.Pin first second) r new → r ≡ Pinned
    → (pin : Pin) → pin_of new seat ≡ Some pin → IsOf pin first second
step_set (serves s) h pin k = pins_set s h pin k
step_set (wants w) h pin k = absurd (cc)

-- ---- the last entry of a kind
no_last : {test : Entry → Bool} {xs : List Entry} {x : Entry} → LastOf test xs x → xs ≡ [] → ⊥
no_last (newest es {e = e} _) h = last_there es e h
no_last (earlier {es = es} x _ _) h = last_there es x h

data LastCase (test : Entry → Bool) (xs : List Entry) (y x : Entry) : Type 0 where
  here : y ≡ x → LastCase test xs y x
  before : LastOf test xs x → test y ≡ false → LastCase test xs y x

last_case : {test : Entry → Bool} {xs : List Entry} {x : Entry} → LastOf test xs x → (ys : List Entry) (y : Entry) → xs ≡ ys ++ y ∷ [] → LastCase test ys y x
last_case (newest es {e = e} _) ys y h = here (sym (lasts es ys e y h).1)
last_case {test} {xs} {x} (earlier {es = es} z l f) ys y h =
    let p = lasts es ys z y h in before (subst (λ zs. LastOf test zs x) p.0 l) (subst (λ w. test w ≡ false) p.1 f)

-- ---- the law
abbrev Agrees : ℕ → List Entry → State → Type 0
Agrees seat es t =
    (pin : Pin) → pin_of t seat ≡ Some pin → (first : Place) (second : Option Place) → HasPinned (own_entries seat es) first second
    → IsOf pin first second

module _ (seat : ℕ) (es : List Entry) (e : Entry) (t new : State) (earlier_ones : Agrees seat es t)
    (s : Step t (length es) e.seat e.cmd e.reply new) where
  agrees_other : eqb e.seat seat ≡ false → Agrees seat (es ++ e ∷ []) new
  agrees_other k pin p first second h =
      let own : own_entries seat (es ++ e ∷ []) ≡ own_entries seat es ++ [] =
      own_both seat es (e ∷ []) ∙ ap (λ b. own_entries seat es ++ cond b (e ∷ []) []) k in
      let passes = step_passes e.seat t (length es) e.cmd e.reply new s in
      earlier_ones pin (sym (passes.pins.others seat k) ∙ p) first second
      (subst (λ xs. HasPinned xs first second) (own ∙ append-nil (own_entries seat es)) h)

  agrees_own : eqb e.seat seat ≡ true → Agrees seat (es ++ e ∷ []) new
  agrees_own k pin p first second h = by (last_case h.last (own_entries seat es) e own)
    where
      own : own_entries seat (es ++ e ∷ []) ≡ own_entries seat es ++ e ∷ []
      own = own_both seat es (e ∷ []) ∙ ap (λ b. own_entries seat es ++ cond b (e ∷ []) []) k

      mine : Step t (length es) seat e.cmd e.reply new
      mine = subst (λ n. Step t (length es) n e.cmd e.reply new) (eqb-true e.seat seat k) s

      by : LastCase (λ x. is_pin x.cmd) (own_entries seat es) e h.entry → IsOf pin first second
      by (here q) =
          let c : e.cmd ≡ cmd.Pin first second = ap (λ (x : Entry). x.cmd) q ∙ h.cmd_is in
          let r : e.reply ≡ Pinned = ap (λ (x : Entry). x.reply) q ∙ h.done in
          step_set (subst (λ x. Step t (length es) seat x e.reply new) c mine) r pin p
      by (before l f) =
          let kept = step_kept e.cmd f mine pin p in
          let was = earlier_ones kept.was kept.old_is first second (record { entry = h.entry; last = l; cmd_is = h.cmd_is; done = h.done }) in
          record { is_first = kept.first ∙ was.is_first; is_second = kept.second ∙ was.is_second }

  agrees_next : Agrees seat (es ++ e ∷ []) new
  agrees_next = by (eqb e.seat seat) refl
    where
      by : (b : Bool) → eqb e.seat seat ≡ b → Agrees seat (es ++ e ∷ []) new
      by true k = agrees_own k
      by false k = agrees_other k

agrees : (seat : ℕ) {es : List Entry} {t : State} → LeadsTo es t → Agrees seat es t
agrees seat start = λ pin p first second h. absurd (no_last h.last refl)
agrees seat (next {es = es} {e = e} {t = t} {new = new} l s) = agrees_next seat es e t new (agrees seat l) s

-- LAW: a seat whose last Pin of these places was done, and that has a pin, has pinned these
pub pins_named : (seat : ℕ) {es : List Entry} {t : State} (pin : Pin) (first : Place) (second : Option Place) → LeadsTo es t
    → pin_of t seat ≡ Some pin → HasPinned (own_entries seat es) first second → (pin.first ≡ first) × (pin.second ≡ second)
pins_named seat pin first second l p h = let w = agrees seat l pin p first second h in (w.is_first, w.is_second)
