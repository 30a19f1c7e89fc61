-- One step more of a worker.
use Rattle.std.proofs.Common.{ℕ, suc, ◌≡◌, ◌≢◌, ◌+◌, ◌*◌, ◌-◌, ◌^◌, ◌≤◌, ◌<◌, ◌⊎◌, min, Bool, true, false, List, [], ◌∷◌, length, length-append, refl, sym, subst, inl, inr, ⊎_elim, arith}
use Rattle.std.specs.Prelude.{Option, Some, None}
use Rattle.std.proofs.Math.Nat.{min-le_left, min-le_right, min-eq_left, min-eq_right}
use mathlib.Core.Logic.{dite}
use native.Mathlib.Decide.{dec_le}
use Rattle.ps_io.specs.Counts.{Rose}
use Rattle.ps_journal.specs.History.{Entry}
use Rattle.ps_calls.specs.Turns.{TurnView}
use Rattle.ps_calls.specs.Calls.{own}
use Rattle.ps_worker.specs.declared.answers.Work1.{Work1}
use Rattle.ps_worker.specs.declared.answers.Work1.TheVariants as answer
use Rattle.ps_worker.specs.declared.answers.Leaving.{Leaving}
use Rattle.ps_worker.specs.declared.answers.Leaving.TheVariants.{Closed, Full, Spent}
use Rattle.ps_worker.specs.Hearings.{Hearing}
use Rattle.ps_worker.specs.Steps.{Steps, none, more, EndsWith, Does, Begins}
use Rattle.ps_worker.specs.Shifts.{rests, IsStep, IsCut, Takes, Waits, RestEnds, RoundEnds, Shift, starts, goes_on, rested, HasRisenBy, Works, Adds}

-- ---- entries
steps_length : {xs ys : List Entry} {n : ℕ} → Steps xs n ys → length ys ≡ length xs + n
steps_length none = omega arith
steps_length (more {n} {es} e s w i) = let l = length-append es (e ∷ []) in let m = steps_length s in omega arith

steps_along : {xs ys zs : List Entry} {m n : ℕ} → Steps xs m ys → Steps ys n zs → (k : ℕ) × (k ≡ m + n) × Steps xs k zs
steps_along {m = m} s none = (m, omega arith, s)
steps_along {m = m} s (more {n} e t w i) = let r = steps_along s t in let q = r.1 in (suc r.0, omega arith, more e r.2 w i)

adds_along : {m n k : ℕ} {xs ys zs : List Entry} → Adds m xs ys → Adds n ys zs → m + n ≤ k → Adds k xs zs
adds_along a b low =
    let r = steps_along a.steps b.steps in
    let q = r.1 in
    let f = a.few in
    let g = b.few in
    record { count = r.0; few = omega arith; steps = r.2 }

-- ---- a step
module _ {old new : TurnView} where
  longer : (this : Work1) → (n : ℕ) × Steps (own old) (suc n) (own new) → Does 3 this old new → EndsWith this (own new) → IsStep (own old) this (own new)
  longer this b d e =
      let l = steps_length b.1 in
      let m = steps_length d.steps in
      record { count = d.count; some = omega (arith, l, m); few = d.few; steps = d.steps; ends = e }

  pub step_is : (this : Work1) → this ≢ answer.Full → Begins this old new → Does 3 this old new → IsStep (own old) this (own new)
  step_is answer.Worked ne b d = longer answer.Worked b d d.ends.0
  step_is (answer.Already x) ne b d = longer (answer.Already x) b d d.ends.0
  step_is (answer.Dropped x) ne b d = longer (answer.Dropped x) b d d.ends.0
  step_is answer.Idle ne b d = longer answer.Idle b d d.ends.0
  step_is (answer.NoRoom x) ne b d = longer (answer.NoRoom x) b d d.ends.0
  step_is answer.Full ne b d = absurd (ne refl)
  step_is answer.Memory ne b d = longer answer.Memory b d d.ends.0

  pub cut_is : Does 3 answer.Full old new → IsCut (own old) new
  cut_is d = record { count = d.count; few = d.few; steps = d.steps; refused = d.ends }

-- no wait behind it
pub takes_on : (heard : Hearing) {es es' : List Entry} (this : Work1) → rests this ≡ false → IsStep es this es' → Takes heard heard es es'
takes_on heard this r s = record { this = this; step = s; waited = λ e. absurd (clash r e); waits_grow = omega arith; closings_grow = omega arith }
  where
    clash : {b : Bool} → b ≡ false → b ≡ true → ⊥
    clash e f = cc

takes_rest : {heard heard' : Hearing} {es es' : List Entry} (this : Work1) → Waits heard heard' → IsStep es this es' → Takes heard heard' es es'
takes_rest this w s = record { this = this; step = s; waited = λ e. w.waited; waits_grow = w.waits_grow; closings_grow = w.closings_grow }

-- a step that was answered so, and what came behind it
module _ (heard heard' : Hearing) (old new : TurnView) (this : Work1) (result : Option Leaving) (s : IsStep (own old) this (own new))
    (rested : rests this ≡ true → RestEnds result heard heard') (went_on : rests this ≡ false → (result ≡ None) × (heard' ≡ heard)) where
  by_rest : (r : Option Leaving) → RestEnds r heard heard' → RoundEnds r heard heard' old new
  by_rest None w = takes_rest this w s
  by_rest (Some Closed) w = (takes_rest this w.0 s, w.1)
  by_rest (Some Full) w = absurd w
  by_rest (Some Spent) w = absurd w

  by_step : rests this ≡ false → (result ≡ None) × (heard' ≡ heard) → RoundEnds result heard heard' old new
  by_step e p =
      subst (λ r. RoundEnds r heard heard' old new) (sym p.0)
      (subst (λ h. Takes heard h (own old) (own new)) (sym p.1) (takes_on heard this e s))

  pub round_ends : RoundEnds result heard heard' old new
  round_ends = by (rests this) refl
    where
      by : (b : Bool) → rests this ≡ b → RoundEnds result heard heard' old new
      by true e = by_rest result (rested e)
      by false e = by_step e (went_on e)

-- ---- counts
rose_above : (e a b c : ℕ) → a ≤ b → min (b + 1) e ≤ c → min (a + 1) e ≤ c
rose_above e a b c l r =
    dite (dec_le (b + 1) e)
    (λ s. let x = min-eq_left s in let y = min-le_left (a + 1) e in omega (arith, x, y, l, r))
    (λ s. let x = min-eq_right {n = e} {m = b + 1} (omega (arith, s)) in let y = min-le_right (a + 1) e in omega (arith, x, y, r))

rose_since : (a b c : ℕ) → a ≤ b → Rose b c → Rose a c
rose_since a b c l r = rose_above (2 ^ 64 - 1) a b c l r

risen_above : (e n old mid new : ℕ) → (old + n ≤ mid) ⊎ (e ≤ mid) → min (mid + 1) e ≤ new → (old + suc n ≤ new) ⊎ (e ≤ new)
risen_above e n old mid new h r =
    dite (dec_le (mid + 1) e)
    (λ s. let x = min-eq_left s in ⊎_elim (λ t. inl (omega (arith, x, t, r))) (λ t. absurd (omega (arith, s, t))) h)
    (λ s. let x = min-eq_right {n = e} {m = mid + 1} (omega (arith, s)) in inr (omega (arith, x, r)))

rises_more : (n old mid new : ℕ) → HasRisenBy n old mid → Rose mid new → HasRisenBy (suc n) old new
rises_more n old mid new h r = risen_above (2 ^ 64 - 1) n old mid new h r

risen_on : (e n old mid new : ℕ) → (old + n ≤ mid) ⊎ (e ≤ mid) → mid ≤ new → (old + n ≤ new) ⊎ (e ≤ new)
risen_on e n old mid new h l = ⊎_elim (λ t. inl (omega (arith, t, l))) (λ t. inr (omega (arith, t, l))) h

rises_on : (n old mid new : ℕ) → HasRisenBy n old mid → mid ≤ new → HasRisenBy n old new
rises_on n old mid new h l = risen_on (2 ^ 64 - 1) n old mid new h l

-- ---- steps, one after another
pub record Shifted (heard heard' : Hearing) (es es' : List Entry) (taken : ℕ) : Type 0 where
  pub waits : ℕ
  pub shift : Shift es taken waits es'
  pub waited : HasRisenBy waits heard.waits heard'.waits
  pub closings : heard.closings ≤ heard'.closings

pub shifted_none : (heard : Hearing) (es : List Entry) → Shifted heard heard es es 0
shifted_none heard es = record { waits = 0; shift = starts; waited = inl (omega arith); closings = omega arith }

pub shifted_heard : {heard mid heard' : Hearing} {es es' : List Entry} {n : ℕ} → Shifted heard mid es es' n → mid.waits ≤ heard'.waits → mid.closings ≤ heard'.closings
    → Shifted heard heard' es es' n
shifted_heard {heard} {mid} {heard'} s w c = let d = s.closings in record { waits = s.waits; shift = s.shift; waited = rises_on s.waits heard.waits mid.waits heard'.waits s.waited w; closings = omega arith }

pub shifted_more : {heard mid heard' : Hearing} {es between es' : List Entry} {n : ℕ} → Shifted heard mid es between n → Takes mid heard' between es'
    → Shifted heard heard' es es' (suc n)
shifted_more {heard} {mid} {heard'} {es} {between} {es'} {n} s t = by (rests t.this) refl
  where
    by : (b : Bool) → rests t.this ≡ b → Shifted heard heard' es es' (suc n)
    by true e =
        let d = s.closings in
        let g = t.closings_grow in
        record { waits = suc s.waits; shift = rested t.this s.shift t.step e; waited = rises_more s.waits heard.waits mid.waits heard'.waits s.waited (t.waited e); closings = omega arith }
    by false e =
        let d = s.closings in
        let g = t.closings_grow in
        record { waits = s.waits; shift = goes_on t.this s.shift t.step e; waited = rises_on s.waits heard.waits mid.waits heard'.waits s.waited t.waits_grow; closings = omega arith }

-- ---- how many entries come
shift_adds : {es es' : List Entry} {n w : ℕ} → Shift es n w es' → Adds (3 * n) es es'
shift_adds starts = record { count = 0; few = omega arith; steps = none }
shift_adds (goes_on {n} this s t e) = adds_along (shift_adds s) (record { count = t.count; few = t.few; steps = t.steps }) (omega arith)
shift_adds (rested {n} this s t e) = adds_along (shift_adds s) (record { count = t.count; few = t.few; steps = t.steps }) (omega arith)

adds_less : {m n : ℕ} {es es' : List Entry} → m ≤ n → Adds m es es' → Adds n es es'
adds_less l a = let f = a.few in record { count = a.count; few = omega (arith, l, f); steps = a.steps }

pub shifted_adds : {heard heard' : Hearing} {es es' : List Entry} {n : ℕ} → n ≤ 2730 → Shifted heard heard' es es' n → Adds 8190 es es'
shifted_adds l s = adds_less (omega arith) (shift_adds s.shift)

pub cut_adds : {heard heard' : Hearing} {es es' : List Entry} {n : ℕ} {new : TurnView} → n < 2730 → Shifted heard heard' es es' n → IsCut es' new → Adds 8190 es (own new)
cut_adds l s c = adds_along (shift_adds s.shift) (record { count = c.count; few = c.few; steps = c.steps }) (omega arith)

-- ---- why it leaves
-- one more step, behind the look at the bell
module _ (heard mid heard' : Hearing) (old at new : TurnView) (n : ℕ) (s : Shifted heard mid (own old) (own at) n) (low : n < 2730) where
  closed_works : Takes mid heard' (own at) (own new) → Rose mid.closings heard'.closings → Works Closed heard heard' old new
  closed_works t r =
      let m = shifted_more s t in
      record {
        taken = suc n;
        waits = m.waits;
        between = own new;
        shift = m.shift;
        waited = m.waited;
        leaves = (omega (arith, low), refl, rose_since heard.closings mid.closings heard'.closings s.closings r);
      }

  full_works : IsCut (own at) new → heard' ≡ mid → Works Full heard heard' old new
  full_works c same = record {
    taken = n;
    waits = s.waits;
    between = own at;
    shift = s.shift;
    waited = subst (λ (h : Hearing). HasRisenBy s.waits heard.waits h.waits) (sym same) s.waited;
    leaves = (low, c);
  }

  pub round_works : (leaving : Leaving) → RoundEnds (Some leaving) mid heard' at new → Works leaving heard heard' old new
  round_works Closed e = closed_works e.0 e.1
  round_works Full e = full_works e.0 e.1
  round_works Spent e = absurd e

  pub round_adds : (leaving : Leaving) → RoundEnds (Some leaving) mid heard' at new → Adds 8190 (own old) (own new)
  round_adds Closed e = shifted_adds (omega (arith, low)) (shifted_more s e.0)
  round_adds Full e = cut_adds low s e.0
  round_adds Spent e = absurd e

  pub round_shifts : (r : Option Leaving) → ((leaving : Leaving) → r ≡ Some leaving → ⊥) → RoundEnds r mid heard' at new
      → Shifted heard heard' (own old) (own new) (n + 1)
  round_shifts None not e = subst (λ k. Shifted heard heard' (own old) (own new) k) (omega arith) (shifted_more s e)
  round_shifts (Some leaving) not e = absurd (not leaving refl)
