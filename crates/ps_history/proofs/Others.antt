-- Histories that go on by entries of other seats.
use Rattle.std.proofs.Common.{◌≡◌, ℕ, Bool, true, false, cond, List, [], ◌∷◌, ◌++◌, length, refl, sym, ap, ◌∙◌, subst, eqb, append_assoc, append-nil}
use Rattle.std.proofs.lemmas.Bool.{eq-eqb}
use Rattle.std.proofs.lemmas.List.Elements.{filter-append}
use mathlib.Core.Logic.{∥∥₁_map}
use Rattle.ps_desk.specs.Views.{entry}
use Rattle.ps_journal.specs.declared.commands.Cmd.{Cmd}
use Rattle.ps_journal.specs.declared.replies.Reply.{Reply}
use Rattle.ps_journal.specs.State.{State}
use Rattle.ps_journal.specs.Step.{Step}
use Rattle.ps_journal.specs.History.{Entry, LeadsTo, IsLegal, start, next, own_entries}
use Rattle.ps_history.specs.Taken.{IsTurn}
use Rattle.ps_history.proofs.Lists.{last_there, lasts, nothing_more}

-- ---- the last step
-- the entries before the last one lead to a state, and the last one leads on by a step
pub record LastStep (es : List Entry) (e : Entry) (t : State) : Type 0 where
  pub before : State
  pub leads : LeadsTo es before
  pub step : Step before (length es) e.seat e.cmd e.reply t

last_of : (xs es : List Entry) (e : Entry) (t : State) → LeadsTo xs t → xs ≡ es ++ e ∷ [] → LastStep es e t
last_of xs es e t start q = absurd (last_there es e (sym q))
last_of xs es e t (next {es = fs} {e = f} {t = u} l s) q =
    let p = lasts fs es f e q in
    record {
      before = u;
      leads = subst (λ ys. LeadsTo ys u) p.0 l;
      step =
          subst (λ (x : Entry). Step u (length es) x.seat x.cmd x.reply t) p.1 (subst (λ (ys : List Entry). Step u (length ys) f.seat f.cmd f.reply t) p.0 s);
    }

pub last_step : (es : List Entry) (e : Entry) (t : State) → LeadsTo (es ++ e ∷ []) t → LastStep es e t
last_step es e t l = last_of (es ++ e ∷ []) es e t l refl

pub legal_front : (es : List Entry) (e : Entry) → IsLegal (es ++ e ∷ []) → IsLegal es
legal_front es e h = ∥∥₁_map h (λ p. let s = last_step es e p.0 p.1 in (s.before, s.leads))

-- ---- entries of a seat
pub own_both : (seat : ℕ) (xs ys : List Entry) → own_entries seat (xs ++ ys) ≡ own_entries seat xs ++ own_entries seat ys
own_both seat xs ys = filter-append (λ (e : Entry). eqb e.seat seat) xs ys

pub own_one : (seat : ℕ) (c : Cmd) (r : Reply) → own_entries seat (entry seat c r ∷ []) ≡ entry seat c r ∷ []
own_one seat c r = ap (λ b. cond b (entry seat c r ∷ []) []) (eq-eqb seat seat refl)

none_first : (seat : ℕ) (e : Entry) (es : List Entry) → own_entries seat (e ∷ es) ≡ [] → (eqb e.seat seat ≡ false) × (own_entries seat es ≡ [])
none_first seat e es h = by (eqb e.seat seat) refl h
  where
    by : (b : Bool) → eqb e.seat seat ≡ b → cond b (e ∷ own_entries seat es) (own_entries seat es) ≡ [] → (eqb e.seat seat ≡ false) × (own_entries seat es ≡ [])
    by true s k = absurd (cc)
    by false s k = (s, k)

-- ---- what holds along entries of others
module _ (seat : ℕ) (P : List Entry → State → Type 0) where
  -- one entry of another seat keeps it
  abbrev pub Survives : Type 0
  Survives =
      (es : List Entry) (e : Entry) (t new : State) → LeadsTo es t → Step t (length es) e.seat e.cmd e.reply new → eqb e.seat seat ≡ false → P es t
      → P (es ++ e ∷ []) new

  pub survives : Survives → (more old : List Entry) → own_entries seat more ≡ [] → ((t : State) → LeadsTo old t → P old t) → (t : State)
      → LeadsTo (old ++ more) t → P (old ++ more) t
  survives k [] old none h t l = subst (λ es. P es t) (sym (append-nil old)) (h t (subst (λ es. LeadsTo es t) (append-nil old) l))
  survives k (e ∷ es) old none h t l =
      let n = none_first seat e es none in
      let same : (old ++ e ∷ []) ++ es ≡ old ++ (e ∷ es) = append_assoc old (e ∷ []) es in
      let one : (u : State) → LeadsTo (old ++ e ∷ []) u → P (old ++ e ∷ []) u =
      λ u m. let s = last_step old e u m in k old e s.before u s.leads s.step n.0 (h s.before s.leads) in
      subst (λ xs. P xs t) same (survives k es (old ++ e ∷ []) n.1 one t (subst (λ xs. LeadsTo xs t) (sym same) l))

-- ---- turns
-- the entries between what was seen and the turn are of others, and the seat has as many before it as were seen
pub record Between (seat : ℕ) (old before : List Entry) : Type 0 where
  pub more : List Entry
  pub whole : before ≡ old ++ more
  pub none : own_entries seat more ≡ []
  pub same : own_entries seat before ≡ own_entries seat old

pub between : (seat : ℕ) (old new : List Entry) (c : Cmd) (r : Reply) (h : IsTurn seat old new c r) → Between seat old h.before
between seat old new c r h =
    let more : List Entry = h.seen.0 in
    let whole : h.before ≡ old ++ more = h.seen.1 in
    let split : own_entries seat h.before ≡ own_entries seat old ++ own_entries seat more = ap (own_entries seat) whole ∙ own_both seat old more in
    let all : own_entries seat new ≡ own_entries seat h.before ++ entry seat c r ∷ [] =
    ap (own_entries seat) h.whole ∙ own_both seat h.before (entry seat c r ∷ []) ∙ ap (λ es. own_entries seat h.before ++ es) (own_one seat c r) in
    let p = lasts (own_entries seat h.before) (own_entries seat old) (entry seat c r) (entry seat c r) (sym all ∙ h.own) in
    record { more = more; whole = whole; none = nothing_more (own_entries seat old) (own_entries seat more) (sym split ∙ p.0); same = p.0 }

pub legal_before : (seat : ℕ) (old new : List Entry) (c : Cmd) (r : Reply) (h : IsTurn seat old new c r) → IsLegal h.before
legal_before seat old new c r h = legal_front h.before (entry seat c r) (subst IsLegal h.whole h.lawful)

-- the state before a turn, and the step
pub turn_step : (seat : ℕ) (old new : List Entry) (c : Cmd) (r : Reply) (h : IsTurn seat old new c r) (t : State) → LeadsTo new t
    → LastStep h.before (entry seat c r) t
turn_step seat old new c r h t l = last_step h.before (entry seat c r) t (subst (λ es. LeadsTo es t) h.whole l)
