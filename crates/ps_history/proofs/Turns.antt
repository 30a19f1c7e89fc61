-- The turns of a question: what they lead to.
use Rattle.std.proofs.Common.{◌≡◌, ◌<◌, ◌≤◌, ◌+◌, ◌*◌, ℕ, Bool, true, false, List, [], ◌∷◌, ◌++◌, length, refl, sym, ap, ◌∙◌, subst, arith, append-nil}
use Rattle.std.specs.Prelude.{Option, Some, None}
use Rattle.std.proofs.Props.{props}
use mathlib.Core.Logic.{∥∥₁_elim}
use Rattle.ps_desk.specs.Views.{entry}
use Rattle.ps_script.specs.declared.name.Place.{Place}
use Rattle.ps_reach.specs.declared.record.Record.{Record}
use Rattle.ps_reach.specs.declared.task.Task.{Task as ATask}
use Rattle.ps_normal.specs.Fillings.{CanFill}
use Rattle.ps_journal.specs.declared.seats.Pin.{Pin}
use Rattle.ps_journal.specs.declared.commands.Cmd.TheVariants as cmd
use Rattle.ps_journal.specs.declared.replies.Reply.{Reply}
use Rattle.ps_journal.specs.declared.replies.Reply.TheVariants.{Pinned, Task, Settled, Memory}
use Rattle.ps_journal.specs.State.{Version, Circuit, State, FindsLive, pin_of, unclaimed}
use Rattle.ps_journal.specs.Pinning as pinning
use Rattle.ps_journal.specs.Pinning.{Pins, Refuses, new_pin}
use Rattle.ps_journal.specs.Claiming as claiming
use Rattle.ps_journal.specs.Claiming.{Nexts, AreSettled, pinned_versions, SecondComesTo}
use Rattle.ps_journal.specs.Summing.{ComesToAt}
use Rattle.ps_journal.specs.Step.{Step, serves, wants}
use Rattle.ps_journal.specs.History.{Entry, LeadsTo, own_entries}
use Rattle.ps_history.specs.Lasts.{HasPinned, WasGiven, WasTold, newest}
use Rattle.ps_history.specs.Inner.{Idles, IsInner, none, more}
use Rattle.ps_history.specs.Bounds.{missing_under, is_published, published_count, PinsMissing, IsWithin}
use Rattle.ps_history.specs.Taken.{IsTurn}
use Rattle.ps_history.specs.Stages.{KeepsAt, AreAsWide, KeepsPlaces, HoldsPin, HasRoom, ComeWith, Asks, AsksWith, AsksNoMore, GaveUp}
use Rattle.ps_history.specs.After.{AfterNext}
use Rattle.ps_history.proofs.Lists.{some_same, written}
use Rattle.ps_history.proofs.Passing.{Passes, step_passes}
use Rattle.ps_history.proofs.Wellness.{IsWell, found_well, leads_well}
use Rattle.ps_history.proofs.Others.{between, turn_step}
use Rattle.ps_history.proofs.Holding.{finds_same, pin_pins, keeps_places, holds_pin, missing_under_fewer, pins_longer, room_later, come_with_still}
use Rattle.ps_history.proofs.Giving.{Gives, gives_task, come_with, CanFill-prop}
use Rattle.ps_history.proofs.Standing.{AskState, ask_survives, Turning, turning, pinned_more, unpublished_last, one_longer}

-- ---- a Pin
refuses_not : (t : State) (p : Place) (r : Reply) → Refuses t p r → r ≡ Pinned → ⊥
refuses_not t p r (pinning.no_circuit e) q = cc
refuses_not t p r (pinning.no_version e f) q = cc
refuses_not t p r (pinning.was_retired e f) q = cc

-- a live version is kept
live_kept : (u : State) (w : IsWell u) (p : Place) (c : Circuit) (v : Version) → FindsLive u p c v → KeepsAt u p
live_kept u w p c v f = record { circuit = c; version = v; found = f.found; kept = (found_well u w p c v f.found).version.live f.live }

module _ (u : State) (w : IsWell u) (i seat : ℕ) (below : seat < 64) (first : Place) where
  held_now : (second : Option Place) (t : State) → Passes seat u t → pin_of t seat ≡ Some (new_pin first second) → KeepsPlaces u first second
      → HoldsPin t seat (new_pin first second) first second
  held_now second t p e k = record {
    pin_is = e;
    first_is = refl;
    second_is = refl;
    keeps = keeps_places seat u t (new_pin first second) first second p (λ q h. pin_pins t.pins seat (new_pin first second) q e h) refl refl k;
  }

  newly : (second : Option Place) → pin_of (pinning.pinned i seat first second u) seat ≡ Some (new_pin first second)
  newly second = written u.pins seat (Some (new_pin first second)) (subst (λ n. seat < n) (sym w.pins) below)

  pins_hold : (second : Option Place) (r : Reply) (t : State) → Passes seat u t → Pins u i seat first second r t → r ≡ Pinned
      → HoldsPin t seat (new_pin first second) first second
  pins_hold second r t p (pinning.first_refused e) q = absurd (refuses_not u first r e q)
  pins_hold second r t p (pinning.second_refused {second = other} e f) q = absurd (refuses_not u other r f q)
  pins_hold second r t p (pinning.widths e f g) q = absurd (cc)
  pins_hold second r t p (pinning.pins_one {c = c} {v = v} e) q = held_now None t p (newly None) (live_kept u w first c v e)
  pins_hold second r t p (pinning.pins_two {second = other} {c = c} {d = d} {v = v} {w = x} e f g) q =
      held_now (Some other) t p (newly (Some other)) (live_kept u w first c v e, live_kept u w other d x f, wide)
    where
      wide : AreAsWide u first other
      wide a b y z h k =
          ap (λ o. o.qubits) (finds_same u first a c y v h e.found).circuits ∙ g ∙ sym (ap (λ o. o.qubits) (finds_same u other b d z x k f.found).circuits)

  pub pin_holds : (second : Option Place) (t : State) → Passes seat u t → Step u i seat (cmd.Pin first second) Pinned t
      → HoldsPin t seat (new_pin first second) first second
  pin_holds second t p (serves s) = pins_hold second Pinned t p s refl

pub pinned-asks : (seat : ℕ) (seen new : List Entry) (first : Place) (second : Option Place) → IsTurn seat seen new (cmd.Pin first second) Pinned
    → Asks seat (own_entries seat seen) new first second 0
pinned-asks seat seen new first second h =
    let own : List Entry = own_entries seat seen in
    let e : Entry = entry seat (cmd.Pin first second) Pinned in
    record {
      legal = h.lawful;
      idles = subst (Idles own) (sym h.own) (more e none (record { inner = refl; filled = tt }));
      pin = subst (λ es. HasPinned es first second) (sym h.own) (record { entry = e; last = newest own refl; cmd_is = refl; done = refl });
      count = ap length h.own ∙ one_longer own e;
      published = let c = ap published_count h.own ∙ unpublished_last own e refl in omega (arith, c);
      states = λ t l.
          let s = turn_step seat seen new (cmd.Pin first second) Pinned h t l in
          let w = leads_well h.before s.before s.leads in
          let p = step_passes seat s.before (length h.before) (cmd.Pin first second) Pinned t s.step in
          let held = pin_holds s.before w (length h.before) seat h.below first second t p s.step in
          let pins : PinsMissing seat own new first second (missing_under t first second) = record {
            before = h.before;
            state = t;
            within = ([], h.whole ∙ sym (append-nil (h.before ++ e ∷ [])));
            entries = (between seat seen new (cmd.Pin first second) Pinned h).same;
            leads = subst (λ es. LeadsTo es t) h.whole l;
            count = refl;
          } in
          (new_pin first second, held, record { m = missing_under t first second; pins = pins; room = omega arith });
    }

-- ---- a Next
-- the replies that a seat may get which has pinned versions
abbrev is_next_reply : Reply → Bool
is_next_reply (Task task) = true
is_next_reply (Settled a b) = true
is_next_reply Memory = true
is_next_reply r = false

module _ (u : State) (w : IsWell u) (i seat : ℕ) (below : seat < 64) (pin : Pin) where
  pin_stays : (own : Bool) (r : Reply) (t : State) → Nexts u i seat own r t → pin_of t seat ≡ pin_of u seat
  pin_stays own r t (claiming.no_pin e) = refl
  pin_stays own r t (claiming.idle e) = refl
  pin_stays own r t (claiming.settled e f g h) = refl
  pin_stays own r t (claiming.gives e f g h) = refl

  next_pin : (r : Reply) (t : State) → Step u i seat (cmd.Next true) r t → pin_of t seat ≡ pin_of u seat
  next_pin r t (serves s) = pin_stays true r t s
  next_pin r t (wants e) = sym (ap (λ x. pin_of x seat) (some_same (unclaimed seat u) t e))

  nexts_told : (own : Bool) (r : Reply) (t : State) → pin_of u seat ≡ Some pin → Nexts u i seat own r t → own ≡ true → is_next_reply r ≡ true
  nexts_told own r t p (claiming.no_pin e) o = let f : None ≡ Some pin = sym e ∙ p in absurd (cc)
  nexts_told own r t p (claiming.idle e) o = absurd (cc)
  nexts_told own r t p (claiming.settled e f g h) o = refl
  nexts_told own r t p (claiming.gives e f g h) o = refl

  next_told : (r : Reply) (t : State) → pin_of u seat ≡ Some pin → Step u i seat (cmd.Next true) r t → is_next_reply r ≡ true
  next_told r t p (serves s) = nexts_told true r t p s refl
  next_told r t p (wants e) = refl

  next_gives : (r : Reply) (t : State) (task : ATask) → pin_of u seat ≡ Some pin → Passes seat u t → Step u i seat (cmd.Next true) r t → r ≡ Task task
      → Gives u t seat pin task
  next_gives r t task h p (serves s) e = gives_task u w i seat below pin h t true r task p s refl e
  next_gives r t task h p (wants q) e = absurd (cc)

  nexts_settle : (first : Place) (second : Option Place) (own : Bool) (r : Reply) (t : State) (a : Record) (b : Option Record)
      → HoldsPin u seat pin first second → Nexts u i seat own r t → own ≡ true → r ≡ Settled a b
      → ComeWith u first second a b
  nexts_settle first second own r t a b h (claiming.no_pin e) o q = absurd (cc)
  nexts_settle first second own r t a b h (claiming.idle e) o q = absurd (cc)
  nexts_settle first second own r t a b h (claiming.gives e f g k) o q = absurd (cc)
  nexts_settle first second own r t a b h (claiming.settled {pin = other} {a = x} {b = y} e f g k) o q =
      let same : other ≡ pin = some_same other pin (sym e ∙ h.pin_is) in
      let one : x ≡ a = cc in
      let two : y ≡ b = cc in
      come_with u w seat pin first second a b h (subst (λ z. AreSettled u.published (pinned_versions u z)) same f)
      (subst (λ z. ComesToAt u z.first a) same (subst (ComesToAt u other.first) one g))
      (subst (λ z. SecondComesTo u z.second b) same (subst (SecondComesTo u other.second) two k))

  next_settles : (first : Place) (second : Option Place) (r : Reply) (t : State) (a : Record) (b : Option Record) → HoldsPin u seat pin first second
      → Step u i seat (cmd.Next true) r t → r ≡ Settled a b → ComeWith u first second a b
  next_settles first second r t a b h (serves s) e = nexts_settle first second true r t a b h s refl e
  next_settles first second r t a b h (wants q) e = absurd (cc)

module _ (seat : ℕ) (own seen new : List Entry) (first : Place) (second : Option Place) (rounds : ℕ) where
  abbrev Next : Reply → Type 0
  Next r = IsTurn seat seen new (cmd.Next true) r

  next_inner : (r : Reply) → IsInner (own_entries seat seen) (entry seat (cmd.Next true) r)
  next_inner r = record { inner = refl; filled = tt }

  next_idles : (r : Reply) → Next r → Idles own (own_entries seat seen) → Idles own (own_entries seat new)
  next_idles r h i = subst (Idles own) (sym h.own) (more (entry seat (cmd.Next true) r) i (next_inner r))

  next_pinned : (r : Reply) → Next r → HasPinned (own_entries seat seen) first second → HasPinned (own_entries seat new) first second
  next_pinned r h p =
      subst (λ es. HasPinned es first second) (sym h.own) (pinned_more (own_entries seat seen) (entry seat (cmd.Next true) r) first second refl p)

  next_count : (r : Reply) → Next r → length (own_entries seat seen) ≡ length own + (1 + 2 * rounds)
      → length (own_entries seat new) ≡ length own + (2 + 2 * rounds)
  next_count r h c = let a = ap length h.own ∙ one_longer (own_entries seat seen) (entry seat (cmd.Next true) r) in omega (arith, a, c)

  next_published : (r : Reply) → Next r → is_published r ≡ false → published_count (own_entries seat seen) ≤ published_count own + rounds
      → published_count (own_entries seat new) ≤ published_count own + rounds
  next_published r h e c = let a = ap published_count h.own ∙ unpublished_last (own_entries seat seen) (entry seat (cmd.Next true) r) e in omega (arith, a, c)

  next_turning : (r : Reply) → Asks seat own seen first second rounds → (h : Next r) → (t : State) → LeadsTo new t
      → Turning (AskState seat own first second rounds) h.before seat (cmd.Next true) r t
  next_turning r a h t l =
      turning seat (AskState seat own first second rounds) (ask_survives seat own first second rounds) seen new (cmd.Next true) r h a.states t l

  whole_room : (r : Reply) (h : Next r) (t : State) → HasRoom t seat own (h.before ++ entry seat (cmd.Next true) r ∷ []) first second rounds
      → HasRoom t seat own new first second rounds
  whole_room r h t k = subst (λ es. HasRoom t seat own es first second rounds) (sym h.whole) k

  next_fits : (task : ATask) → Asks seat own seen first second rounds → Next (Task task) → (t : State) → LeadsTo new t
      → ((1 ≤ task.n) × (task.n ≤ 64)) × CanFill task.n task.work
  next_fits task a h t l =
      let s = next_turning (Task task) a h t l in
      let g = next_gives s.old s.well (length h.before) seat h.below s.held.0 (Task task) t task s.held.1.pin_is s.passes s.step refl in
      (g.wide, g.can_fill)

  next_task : (task : ATask) → Asks seat own seen first second rounds → Next (Task task) → AsksWith seat own new first second rounds task
  next_task task a h = record {
    legal = h.lawful;
    idles = next_idles (Task task) h a.idles;
    pin = next_pinned (Task task) h a.pin;
    given =
        subst (λ es. WasGiven es task) (sym h.own)
        (record { entry = entry seat (cmd.Next true) (Task task); last = newest (own_entries seat seen) refl; told = refl });
    count = next_count (Task task) h a.count;
    published = next_published (Task task) h refl a.published;
    wide = ∥∥₁_elim h.lawful (hlevel props) (λ p. (next_fits task a h p.0 p.1).0);
    can_fill = ∥∥₁_elim h.lawful (CanFill-prop task.n task.work) (λ p. (next_fits task a h p.0 p.1).1);
    states = λ t l.
        let s = next_turning (Task task) a h t l in
        let pin : Pin = s.held.0 in
        let g = next_gives s.old s.well (length h.before) seat h.below pin (Task task) t task s.held.1.pin_is s.passes s.step refl in
        let room : HasRoom s.old seat own (h.before ++ entry seat (cmd.Next true) (Task task) ∷ []) first second rounds =
        room_later s.old s.old seat own h.before (entry seat (cmd.Next true) (Task task) ∷ []) first second rounds (omega arith) s.held.2 in (
          pin,
          holds_pin seat s.old t seat pin pin first second s.passes (g.pins_same ∙ s.held.1.pin_is) refl refl s.held.1,
          (s.old, g.claim, s.held.1.keeps, whole_room (Task task) h s.old room),
        );
  }

  next_settled : (x : Record) (y : Option Record) → Asks seat own seen first second rounds → Next (Settled x y)
      → AsksNoMore seat own new first second rounds x y
  next_settled x y a h = record {
    legal = h.lawful;
    idles = next_idles (Settled x y) h a.idles;
    pin = next_pinned (Settled x y) h a.pin;
    told =
        subst (λ es. WasTold es x y) (sym h.own)
        (record { entry = entry seat (cmd.Next true) (Settled x y); last = newest (own_entries seat seen) refl; told = refl });
    count = next_count (Settled x y) h a.count;
    published = next_published (Settled x y) h refl a.published;
    states = λ t l.
        let s = next_turning (Settled x y) a h t l in
        let pin : Pin = s.held.0 in
        let e = next_pin s.old s.well (length h.before) seat h.below pin (Settled x y) t s.step in
        let c = next_settles s.old s.well (length h.before) seat h.below pin first second (Settled x y) t x y s.held.1 s.step refl in
        let room =
        room_later s.old t seat own h.before (entry seat (cmd.Next true) (Settled x y) ∷ []) first second rounds
        (missing_under_fewer s.old t first second s.later s.held.1.keeps) s.held.2 in (
          pin,
          holds_pin seat s.old t seat pin pin first second s.passes (e ∙ s.held.1.pin_is) refl refl s.held.1,
          whole_room (Settled x y) h t room,
          come_with_still s.old t first second x y s.later c,
        );
  }

  next_starved : Asks seat own seen first second rounds → Next Memory → GaveUp seat own new first second None
  next_starved a h = record {
    legal = h.lawful;
    idles = next_idles Memory h a.idles;
    pin = next_pinned Memory h a.pin;
    refused = λ total e. absurd (cc);
    states = λ t l.
        let s = next_turning Memory a h t l in
        let pin : Pin = s.held.0 in
        let e = next_pin s.old s.well (length h.before) seat h.below pin Memory t s.step in
        let room = s.held.2 in
        let fits : missing_under s.old first second + rounds ≤ room.m = room.room in
        let c = next_count Memory h a.count in
        let p = next_published Memory h refl a.published in
        let within : IsWithin seat own (own_entries seat new) new first second 1 = record {
          m = room.m;
          pins =
              subst (λ es. PinsMissing seat own es first second room.m) (sym h.whole)
              (pins_longer seat own h.before (entry seat (cmd.Next true) Memory ∷ []) first second room.m room.pins);
          few = omega (arith, c, fits);
          few_published = omega (arith, p, fits);
        } in
        (pin, holds_pin seat s.old t seat pin pin first second s.passes (e ∙ s.held.1.pin_is) refl refl s.held.1, within, λ total e. absurd (cc));
  }

  next_no_other : (r : Reply) → Asks seat own seen first second rounds → Next r → is_next_reply r ≡ true
  next_no_other r a h = ∥∥₁_elim h.lawful (hlevel props) (λ p.
      let s = next_turning r a h p.0 p.1 in
      next_told s.old s.well (length h.before) seat h.below s.held.0 r p.0 s.held.1.pin_is s.step)

not_so : false ≡ true → ⊥
not_so e = cc

pub next-after : (seat : ℕ) (own seen new : List Entry) (first : Place) (second : Option Place) (rounds : ℕ) (reply : Reply)
    → Asks seat own seen first second rounds → IsTurn seat seen new (cmd.Next true) reply
    → AfterNext seat own new first second rounds reply
next-after seat own seen new first second rounds (Task task) a h = next_task seat own seen new first second rounds task a h
next-after seat own seen new first second rounds (Settled x y) a h = next_settled seat own seen new first second rounds x y a h
next-after seat own seen new first second rounds Memory a h = next_starved seat own seen new first second rounds a h
next-after seat own seen new first second rounds r a h = absurd (not_so (next_no_other seat own seen new first second rounds r a h))
