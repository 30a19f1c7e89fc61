-- What a turn adds to a step.
use Rattle.std.proofs.Common.{ℕ, suc, ◌≡◌, ◌<◌, ◌≤◌, false, List, [], ◌∷◌, ◌++◌, None, refl, sym, ap, ◌∙◌, subst, arith}
use Rattle.std.proofs.Props.{props}
use mathlib.Core.Logic.{∥∥₁_elim}
use Rattle.ps_desk.specs.Views.{entry}
use Rattle.ps_reach.specs.declared.task.Task.{Task as ATask}
use Rattle.ps_journal.specs.declared.commands.Cmd.{Cmd}
use Rattle.ps_journal.specs.declared.commands.Cmd.TheVariants as cmd
use Rattle.ps_journal.specs.declared.replies.Reply.{Reply}
use Rattle.ps_journal.specs.declared.replies.Reply.TheVariants as reply
use Rattle.ps_journal.specs.History.{Entry, LeadsTo, own_entries, ends_command}
use Rattle.ps_history.specs.Lasts.{WasGiven, newest, earlier}
use Rattle.ps_history.specs.Inner.{IsInner, PublishesFilled}
use Rattle.ps_history.proofs.Others.{turn_step}
use Rattle.ps_history.proofs.Wellness.{leads_well}
use Rattle.ps_history.proofs.Giving.{CanFill-prop}
use Rattle.ps_calls.specs.Turns.{TurnView, Stays, Turned, Refused}
use Rattle.ps_calls.specs.Calls.{own}
use Rattle.ps_calls.proofs.Views.{turned-is}
use Rattle.ps_worker.specs.declared.answers.Work1.{Work1}
use Rattle.ps_worker.specs.declared.answers.Work1.TheVariants.{Worked, Already, Dropped, Idle, NoRoom, Full, Memory}
use Rattle.ps_worker.specs.Steps.{IsOfWork, Steps, none, more, Tells, EndsWith, Ends, Does, Begins, IsGiven}
use Rattle.ps_worker.proofs.Giving.{CanBeFilled, next_fits}

-- ---- entries
-- the seat's own entries behind a turn
pub own_turned : {a b : TurnView} {c : Cmd} {r : Reply} → Stays a b → Turned a b c r → own b ≡ own a ++ entry a.number c r ∷ []
own_turned {a} {b} s t = ap (λ n. own_entries n b.seen) s.number ∙ t.own

own_refused : {a b : TurnView} {ticket : ℕ} → Stays a b → Refused a b ticket → own b ≡ own a
own_refused {a} {b} s r = ap (λ n. own_entries n b.seen) s.number ∙ ap (own_entries a.number) r.seen

-- an entry in front of the others
steps_behind : (e : Entry) (xs ys es : List Entry) (n : ℕ) → ys ≡ xs ++ e ∷ [] → IsOfWork e.cmd → IsInner xs e → Steps ys n es → Steps xs (suc n) es
steps_behind e xs ys es n q w i none = subst (Steps xs 1) (sym q) (more e none w i)
steps_behind e xs ys es n q w i (more f s x y) = more f (steps_behind e xs ys _ _ q w i s) x y

-- ---- a turn of a step, and what it does then
pub turn_then : {most : ℕ} {answer : Work1} {a b c : TurnView} {d : Cmd} {r : Reply} → Stays a b → Turned a b d r → IsOfWork d
    → ends_command d r ≡ false → PublishesFilled (own a) d → Does most answer b c → Does (suc most) answer a c
turn_then {most} {answer} {a} {b} {c} {d} {r} s t w e f does = record {
  count = suc does.count;
  few = omega (arith, does.few);
  steps = steps_behind (entry a.number d r) (own a) (own b) (own c) does.count (own_turned s t) w (record { inner = e; filled = f }) does.steps;
  ends = does.ends;
}

-- nothing more is done
pub nothing_more : {answer : Work1} {v : TurnView} → Ends answer v → Does 0 answer v v
nothing_more e = record { count = 0; few = omega arith; steps = none; ends = e }

pub does_less : {m n : ℕ} {answer : Work1} {a b : TurnView} → m ≤ n → Does m answer a b → Does n answer a b
does_less l d = record { count = d.count; few = omega (arith, d.few); steps = d.steps; ends = d.ends }

-- a ticket is refused
pub refused_does : {a b : TurnView} {ticket : ℕ} → Stays a b → Refused a b ticket → Does 0 Full a b
refused_does {a} {b} {ticket} s r = record {
  count = 0;
  few = omega arith;
  steps = subst (Steps (own a) 0) (sym (own_refused s r)) none;
  ends = record { ticket = ticket; refused = r.refused; late = r.late };
}

-- the answer is that of the turn
pub ends_with : {answer : Work1} {a b : TurnView} {c : Cmd} {r : Reply} → Stays a b → Turned a b c r → Tells answer r → EndsWith answer (own b)
ends_with {answer} {a} {b} {c} {r} s t k = record { before = own a; last = entry a.number c r; whole = own_turned s t; tells = k }

pub ends_told : {a b : TurnView} {c : Cmd} {r : Reply} → Stays a b → Turned a b c r → (answer : Work1) → Tells answer r → Ends answer b
ends_told s t Worked k = (ends_with s t k, t.unrefused)
ends_told s t (Already entry) k = (ends_with s t k, t.unrefused)
ends_told s t (Dropped entry) k = (ends_with s t k, t.unrefused)
ends_told s t Idle k = (ends_with s t k, t.unrefused)
ends_told s t (NoRoom total) k = (ends_with s t k, t.unrefused)
ends_told s t Full k = absurd k
ends_told s t Memory k = (ends_with s t k, t.unrefused)

-- ---- the beginning
pub begins : {most : ℕ} {a b c : TurnView} {d : Cmd} {r : Reply} (answer : Work1) → Stays a b → Turned a b d r → IsOfWork d
    → ends_command d r ≡ false → PublishesFilled (own a) d → Does most answer b c → Begins answer a c
begins {most} {a} {b} {c} {d} {r} Full s t w e f does = tt
begins {most} {a} {b} {c} {d} {r} Worked s t w e f does = (does.count, steps_behind (entry a.number d r) (own a) (own b) (own c) does.count (own_turned s t) w (record { inner = e; filled = f }) does.steps)
begins {most} {a} {b} {c} {d} {r} (Already x) s t w e f does = (does.count, steps_behind (entry a.number d r) (own a) (own b) (own c) does.count (own_turned s t) w (record { inner = e; filled = f }) does.steps)
begins {most} {a} {b} {c} {d} {r} (Dropped x) s t w e f does = (does.count, steps_behind (entry a.number d r) (own a) (own b) (own c) does.count (own_turned s t) w (record { inner = e; filled = f }) does.steps)
begins {most} {a} {b} {c} {d} {r} Idle s t w e f does = (does.count, steps_behind (entry a.number d r) (own a) (own b) (own c) does.count (own_turned s t) w (record { inner = e; filled = f }) does.steps)
begins {most} {a} {b} {c} {d} {r} (NoRoom x) s t w e f does = (does.count, steps_behind (entry a.number d r) (own a) (own b) (own c) does.count (own_turned s t) w (record { inner = e; filled = f }) does.steps)
begins {most} {a} {b} {c} {d} {r} Memory s t w e f does = (does.count, steps_behind (entry a.number d r) (own a) (own b) (own c) does.count (own_turned s t) w (record { inner = e; filled = f }) does.steps)

-- ---- a task
fits : {a b : TurnView} {task : ATask} → a.number < 64 → Turned a b (cmd.Next false) (reply.Task task) → CanBeFilled task
fits {a} {b} {task} low t =
    let h = turned-is a.number refl low t in (
      ∥∥₁_elim t.lawful (hlevel props) (λ p. (by p.0 p.1).0),
      ∥∥₁_elim t.lawful (CanFill-prop task.n task.work) (λ p. (by p.0 p.1).1),
    )
  where
    by : (u : _) → LeadsTo b.seen u → CanBeFilled task
    by u l =
        let h = turned-is a.number refl low t in
        let s = turn_step a.number a.seen b.seen (cmd.Next false) (reply.Task task) h u l in
        next_fits s.before (leads_well h.before s.before s.leads) _ a.number (reply.Task task) u task s.step refl

pub next_gives : {a b : TurnView} {task : ATask} → a.number < 64 → Stays a b → Turned a b (cmd.Next false) (reply.Task task) → IsGiven task b
next_gives {a} {b} {task} low s t = record {
  below = subst (λ n. n < 64) (sym s.number) low;
  wide = (fits low t).0;
  can_fill = (fits low t).1;
  given =
      subst (λ es. WasGiven es task) (sym (own_turned s t))
      (record { entry = entry a.number (cmd.Next false) (reply.Task task); last = newest (own a) refl; told = refl });
  open_yet = ends_with s t tt;
  unrefused = t.unrefused;
}

-- its claim stands
pub still_given : {a b : TurnView} {task : ATask} → Stays a b → Turned a b (cmd.Publish None) reply.Stands → IsGiven task a → IsGiven task b
still_given {a} {b} {task} s t g = record {
  below = subst (λ n. n < 64) (sym s.number) g.below;
  wide = g.wide;
  can_fill = g.can_fill;
  given =
      subst (λ es. WasGiven es task) (sym (own_turned s t))
      (record { entry = g.given.entry; last = earlier (entry a.number (cmd.Publish None) reply.Stands) g.given.last refl; told = g.given.told });
  open_yet = ends_with s t tt;
  unrefused = t.unrefused;
}

-- memory was wanting between turns
pub given_ends : {task : ATask} {v : TurnView} → IsGiven task v → Does 0 Memory v v
given_ends g = nothing_more (g.open_yet, g.unrefused)

-- ---- replies that are not told
pub memory_tells : (r : Reply) → ((r ≡ reply.Published) → ⊥) → ((n : ℕ) → r ≡ reply.Already n → ⊥) → ((n : ℕ) → r ≡ reply.Dropped n → ⊥)
    → ((n : ℕ) → r ≡ reply.NoRoom n → ⊥) → (r ≡ reply.Idle → ⊥) → Tells Memory r
memory_tells reply.Published a b c d e = a refl
memory_tells (reply.Already n) a b c d e = b n refl
memory_tells (reply.Dropped n) a b c d e = c n refl
memory_tells (reply.NoRoom n) a b c d e = d n refl
memory_tells reply.Idle a b c d e = e refl
memory_tells _ a b c d e = tt
