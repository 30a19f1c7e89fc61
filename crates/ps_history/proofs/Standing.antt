-- What holds of the states of a question's stages, and that entries of other seats keep it.
use Rattle.std.proofs.Common.{◌≡◌, ◌≤◌, ◌+◌, ℕ, Bool, true, false, cond, List, [], ◌∷◌, ◌++◌, length, refl, sym, ◌∙◌, subst, arith, length-append}
use Rattle.std.specs.Prelude.{Option, Some}
use Rattle.ps_script.specs.declared.name.Place.{Place}
use Rattle.ps_reach.specs.declared.record.Record.{Record}
use Rattle.ps_reach.specs.declared.task.Task.{Task}
use Rattle.ps_journal.specs.declared.seats.Pin.{Pin}
use Rattle.ps_journal.specs.declared.commands.Cmd.{Cmd}
use Rattle.ps_journal.specs.declared.replies.Reply.{Reply}
use Rattle.ps_journal.specs.State.{State}
use Rattle.ps_journal.specs.Step.{Step}
use Rattle.ps_journal.specs.History.{Entry, LeadsTo}
use Rattle.ps_history.specs.Lasts.{is_pin, earlier, HasPinned}
use Rattle.ps_history.specs.Bounds.{is_published, published_count, IsWithin}
use Rattle.ps_history.specs.Taken.{IsTurn}
use Rattle.ps_history.specs.Stages.{Later, KeepsPlaces, HoldsPin, HasRoom, HoldsClaim, ComeWith}
use Rattle.ps_history.proofs.Lists.{count_step}
use Rattle.ps_history.proofs.Passing.{Passes, step_passes, passes_later}
use Rattle.ps_history.proofs.Wellness.{IsWell, leads_well}
use Rattle.ps_history.proofs.Others.{Survives, survives, between, turn_step}
use Rattle.ps_history.proofs.Holding.{holds_pin, missing_under_fewer, pins_longer, room_later, holds_claim, come_with_still}

-- ---- the states
module _ (seat : ℕ) (own : List Entry) (first : Place) (second : Option Place) where
  abbrev pub AskState : ℕ → List Entry → State → Type 0
  AskState rounds es t = (pin : Pin) × HoldsPin t seat pin first second × HasRoom t seat own es first second rounds

  abbrev pub WithState : ℕ → Task → List Entry → State → Type 0
  WithState rounds task es t =
      (pin : Pin) × HoldsPin t seat pin first second
      × ((given : State) × HoldsClaim t seat pin task given × KeepsPlaces given first second × HasRoom given seat own es first second rounds)

  abbrev pub NoMoreState : ℕ → Record → Option Record → List Entry → State → Type 0
  NoMoreState rounds a b es t = (pin : Pin) × HoldsPin t seat pin first second × HasRoom t seat own es first second rounds × ComeWith t first second a b

  abbrev pub GaveState : Option ℕ → List Entry → List Entry → State → Type 0
  GaveState crowded after es t =
      (pin : Pin) × HoldsPin t seat pin first second × IsWithin seat own after es first second 1
      × ((total : ℕ) → crowded ≡ Some total → pin.refused ≡ Some total)

  pub within_longer : (after es others : List Entry) (spare : ℕ) → IsWithin seat own after es first second spare
      → IsWithin seat own after (es ++ others) first second spare
  within_longer after es others spare h =
      record { m = h.m; pins = pins_longer seat own es others first second h.m h.pins; few = h.few; few_published = h.few_published }

  -- ---- entries of others keep them
  room_same : (t : State) (es others : List Entry) (rounds : ℕ) → HasRoom t seat own es first second rounds
      → HasRoom t seat own (es ++ others) first second rounds
  room_same t es others rounds h = record { m = h.m; pins = pins_longer seat own es others first second h.m h.pins; room = h.room }

  pub ask_survives : (rounds : ℕ) → Survives seat (AskState rounds)
  ask_survives rounds es e t new l s other h =
      let p = step_passes e.seat t (length es) e.cmd e.reply new s in
      let later = passes_later e.seat t new p in (
        h.0,
        holds_pin e.seat t new seat h.0 h.0 first second p (p.pins.others seat other ∙ h.1.pin_is) refl refl h.1,
        room_later t new seat own es (e ∷ []) first second rounds (missing_under_fewer t new first second later h.1.keeps) h.2,
      )

  pub with_survives : (rounds : ℕ) (task : Task) → Survives seat (WithState rounds task)
  with_survives rounds task es e t new l s other h =
      let p = step_passes e.seat t (length es) e.cmd e.reply new s in
      let later = passes_later e.seat t new p in (
        h.0,
        holds_pin e.seat t new seat h.0 h.0 first second p (p.pins.others seat other ∙ h.1.pin_is) refl refl h.1,
        (h.2.0, holds_claim t new seat h.0 h.0 task h.2.0 later (p.claims.others seat other) refl refl h.2.1, h.2.2, room_same h.2.0 es (e ∷ []) rounds h.2.3),
      )

  pub no_more_survives : (rounds : ℕ) (a : Record) (b : Option Record) → Survives seat (NoMoreState rounds a b)
  no_more_survives rounds a b es e t new l s other h =
      let p = step_passes e.seat t (length es) e.cmd e.reply new s in
      let later = passes_later e.seat t new p in (
        h.0,
        holds_pin e.seat t new seat h.0 h.0 first second p (p.pins.others seat other ∙ h.1.pin_is) refl refl h.1,
        room_later t new seat own es (e ∷ []) first second rounds (missing_under_fewer t new first second later h.1.keeps) h.2,
        come_with_still t new first second a b later h.3,
      )

  pub gave_survives : (crowded : Option ℕ) (after : List Entry) → Survives seat (GaveState crowded after)
  gave_survives crowded after es e t new l s other h =
      let p = step_passes e.seat t (length es) e.cmd e.reply new s in (
        h.0,
        holds_pin e.seat t new seat h.0 h.0 first second p (p.pins.others seat other ∙ h.1.pin_is) refl refl h.1,
        within_longer after es (e ∷ []) 1 h.2,
        h.3,
      )

-- ---- a turn from such a state
-- the state before the turn, of which P holds, and the step
pub record Turning (P : List Entry → State → Type 0) (before : List Entry) (seat : ℕ) (c : Cmd) (r : Reply) (t : State) : Type 0 where
  pub old : State
  pub well : IsWell old
  pub held : P before old
  pub step : Step old (length before) seat c r t
  pub passes : Passes seat old t
  pub later : Later old t

pub turning : (seat : ℕ) (P : List Entry → State → Type 0) → Survives seat P
    → (seen new : List Entry) (c : Cmd) (r : Reply) (h : IsTurn seat seen new c r) → ((t : State) → LeadsTo seen t → P seen t)
    → (t : State) → LeadsTo new t → Turning P h.before seat c r t
turning seat P k seen new c r h states t l =
    let s = turn_step seat seen new c r h t l in
    let b = between seat seen new c r h in
    let p = step_passes seat s.before (length h.before) c r t s.step in
    record {
      old = s.before;
      well = leads_well h.before s.before s.leads;
      held =
          subst (λ es. P es s.before) (sym b.whole) (survives seat P k b.more seen b.none states s.before (subst (λ es. LeadsTo es s.before) b.whole s.leads));
      step = s.step;
      passes = p;
      later = passes_later seat s.before t p;
    }

-- ---- the entries of the seat
pub pinned_more : (es : List Entry) (e : Entry) (first : Place) (second : Option Place) → is_pin e.cmd ≡ false → HasPinned es first second
    → HasPinned (es ++ e ∷ []) first second
pinned_more es e first second n h = record { entry = h.entry; last = earlier e h.last n; cmd_is = h.cmd_is; done = h.done }

count_last : (es : List Entry) (e : Entry) → published_count (es ++ e ∷ []) ≡ published_count es + cond (is_published e.reply) 1 0
count_last [] e = let a = count_step (λ (x : Entry). is_published x.reply) e [] in let b : published_count [] ≡ 0 = refl in omega (arith, a, b)
count_last (x ∷ es) e =
    let a = count_step (λ (x : Entry). is_published x.reply) x (es ++ e ∷ []) in
    let b = count_step (λ (x : Entry). is_published x.reply) x es in
    let c = count_last es e in
    omega (arith, a, b, c)

pub unpublished_last : (es : List Entry) (e : Entry) → is_published e.reply ≡ false → published_count (es ++ e ∷ []) ≡ published_count es
unpublished_last es e h = by (is_published e.reply) h (count_last es e)
  where
    by : (b : Bool) → b ≡ false → published_count (es ++ e ∷ []) ≡ published_count es + cond b 1 0 → published_count (es ++ e ∷ []) ≡ published_count es
    by true h k = absurd (cc)
    by false h k = omega (arith, k)

pub published_last : (es : List Entry) (e : Entry) → published_count (es ++ e ∷ []) ≤ published_count es + 1
published_last es e = by (is_published e.reply) (count_last es e)
  where
    by : (b : Bool) → published_count (es ++ e ∷ []) ≡ published_count es + cond b 1 0 → published_count (es ++ e ∷ []) ≤ published_count es + 1
    by true k = omega (arith, k)
    by false k = omega (arith, k)

pub one_longer : (es : List Entry) (e : Entry) → length (es ++ e ∷ []) ≡ length es + 1
one_longer es e = length-append es (e ∷ [])
