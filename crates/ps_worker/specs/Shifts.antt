-- What a worker does, step after step, and why it leaves.
use Rattle.std.specs.Prelude.{ℕ, suc, ◌+◌, ◌-◌, ◌^◌, ◌≡◌, ◌<◌, ◌≤◌, ◌⊎◌, Bool, true, false, List, Option, Some, None}
use Rattle.ps_io.specs.Counts.{Rose}
use Rattle.ps_journal.specs.History.{Entry}
use Rattle.ps_calls.specs.Turns.{TurnView}
use Rattle.ps_calls.specs.Calls.{own}
use Rattle.ps_worker.specs.declared.answers.Work1.{Work1}
use Rattle.ps_worker.specs.declared.answers.Work1.TheVariants as answer
use Rattle.ps_worker.specs.declared.answers.Leaving.{Leaving}
use Rattle.ps_worker.specs.declared.answers.Leaving.TheVariants.{Closed, Full, Spent}
use Rattle.ps_worker.specs.Hearings.{Hearing}
use Rattle.ps_worker.specs.Steps.{Steps, EndsWith, IsRefused}

-- ---- one step
-- there is nothing to do behind a step that was answered so, until the bell is rung
abbrev pub rests : Work1 → Bool
rests answer.Worked = false
rests (answer.Already entry) = false
rests (answer.Dropped entry) = false
rests answer.Idle = true
rests (answer.NoRoom total) = true
rests answer.Full = false
rests answer.Memory = true

-- a step of which no ticket was refused: one to three entries of work came behind es, and the last has this answer
pub record IsStep (es : List Entry) (this : Work1) (es' : List Entry) : Type 0 where
  pub count : ℕ
  pub some : 1 ≤ count
  pub few : count ≤ 3
  pub steps : Steps es count es'
  pub ends : EndsWith this es'

-- a step of which a ticket was refused, behind some entries of work
pub record IsCut (es : List Entry) (v : TurnView) : Type 0 where
  pub count : ℕ
  pub few : count ≤ 3
  pub steps : Steps es count (own v)
  pub refused : IsRefused v

-- a step, and behind it a wait where there was nothing to do
pub record Takes (heard heard' : Hearing) (es es' : List Entry) : Type 0 where
  pub this : Work1
  pub step : IsStep es this es'
  pub waited : rests this ≡ true → Rose heard.waits heard'.waits
  pub waits_grow : heard.waits ≤ heard'.waits
  pub closings_grow : heard.closings ≤ heard'.closings

-- a wait, which found the bell closed or not
pub record Waits (heard heard' : Hearing) : Type 0 where
  pub waited : Rose heard.waits heard'.waits
  pub waits_grow : heard.waits ≤ heard'.waits
  pub closings_grow : heard.closings ≤ heard'.closings

abbrev pub RestEnds : Option Leaving → Hearing → Hearing → Type 0
RestEnds None heard heard' = Waits heard heard'
RestEnds (Some Closed) heard heard' = Waits heard heard' × Rose heard.closings heard'.closings
RestEnds (Some Full) heard heard' = ⊥
RestEnds (Some Spent) heard heard' = ⊥

-- how a step ends: there may be more, or the bell was found closed behind it, or a ticket was refused
abbrev pub RoundEnds : Option Leaving → Hearing → Hearing → TurnView → TurnView → Type 0
RoundEnds None heard heard' old new = Takes heard heard' (own old) (own new)
RoundEnds (Some Closed) heard heard' old new = Takes heard heard' (own old) (own new) × Rose heard.closings heard'.closings
RoundEnds (Some Full) heard heard' old new = IsCut (own old) new × (heard' ≡ heard)
RoundEnds (Some Spent) heard heard' old new = ⊥

-- ---- step after step
-- so many steps behind these entries, and a wait behind each after which there is nothing to do
pub data Shift (before : List Entry) : ℕ → ℕ → List Entry → Type 0 where
  starts : Shift before 0 0 before
  goes_on : {n w : ℕ} {es es' : List Entry} (this : Work1) → Shift before n w es → IsStep es this es' → rests this ≡ false → Shift before (suc n) w es'
  rested : {n w : ℕ} {es es' : List Entry} (this : Work1) → Shift before n w es → IsStep es this es' → rests this ≡ true → Shift before (suc n) (suc w) es'

-- a count rose so often, or stands still
abbrev pub HasRisenBy : ℕ → ℕ → ℕ → Type 0
HasRisenBy n old new = (old + n ≤ new) ⊎ (2 ^ 64 - 1 ≤ new)

-- it leaves behind so many steps, which end with these entries: since the bell was found closed, or in the middle of one more step since a
-- ticket was refused, or since it has taken all its steps
abbrev pub Leaves : Leaving → ℕ → List Entry → Hearing → Hearing → TurnView → Type 0
Leaves Closed taken es heard heard' new = (taken ≤ 2730) × (own new ≡ es) × Rose heard.closings heard'.closings
Leaves Full taken es heard heard' new = (taken < 2730) × IsCut es new
Leaves Spent taken es heard heard' new = (taken ≡ 2730) × (own new ≡ es)

-- all that a worker does
pub record Works (leaving : Leaving) (heard heard' : Hearing) (old new : TurnView) : Type 0 where
  pub taken : ℕ
  pub waits : ℕ
  pub between : List Entry
  pub shift : Shift (own old) taken waits between
  pub waited : HasRisenBy waits heard.waits heard'.waits
  pub leaves : Leaves leaving taken between heard heard' new

-- so few entries came in addition, each of work
pub record Adds (most : ℕ) (es es' : List Entry) : Type 0 where
  pub count : ℕ
  pub few : count ≤ most
  pub steps : Steps es count es'
