-- Pinning one version or two.
use Rattle.std.specs.Prelude.{ℕ, ◌≡◌, ◌≢◌, slice_set, Option, Some, None}
use Rattle.ps_script.specs.declared.name.Place.{Place}
use Rattle.ps_journal.specs.declared.seats.Pin.{Pin}
use Rattle.ps_journal.specs.declared.replies.Reply.{Reply}
use Rattle.ps_journal.specs.declared.replies.Reply.TheVariants.{Pinned, NoCircuit, NoVersion, WasRetired, Widths}
use Rattle.ps_journal.specs.State.{Version, Circuit, State, circuit_at, latest_of, version_at, Finds, FindsLive}
use Rattle.ps_journal.specs.Keeping.{noted}

-- no live version is at the place
pub data Refuses (t : State) (p : Place) : Reply → Type 0 where
  no_circuit : circuit_at t.circuits p.name ≡ None → Refuses t p NoCircuit
  no_version : {c : Circuit} → circuit_at t.circuits p.name ≡ Some c → version_at c p.version ≡ None → Refuses t p (NoVersion (latest_of c))
  was_retired : {c : Circuit} {v : Version} {j : ℕ} → Finds t p c v → v.retired ≡ Some j → Refuses t p (WasRetired j)

abbrev pub new_pin : Place → Option Place → Pin
new_pin first second = record { first = first; second = second; refused = None }

-- the seat has pinned these places, and nothing else
abbrev pub pinned : ℕ → ℕ → Place → Option Place → State → State
pinned i seat first second t = noted i (record t { pins = slice_set t.pins seat (Some (new_pin first second)) })

-- what entry i of the seat answers, and the state that it leaves
pub data Pins (t : State) (i seat : ℕ) (first : Place) : Option Place → Reply → State → Type 0 where
  first_refused : {second : Option Place} {r : Reply} → Refuses t first r → Pins t i seat first second r t
  second_refused : {second : Place} {c : Circuit} {v : Version} {r : Reply} → FindsLive t first c v → Refuses t second r → Pins t i seat first (Some second) r t
  widths : {second : Place} {c d : Circuit} {v w : Version} → FindsLive t first c v → FindsLive t second d w → c.qubits ≢ d.qubits
      → Pins t i seat first (Some second) (Widths c.qubits d.qubits) t
  pins_one : {c : Circuit} {v : Version} → FindsLive t first c v → Pins t i seat first None Pinned (pinned i seat first None t)
  pins_two : {second : Place} {c d : Circuit} {v w : Version} → FindsLive t first c v → FindsLive t second d w → c.qubits ≡ d.qubits
      → Pins t i seat first (Some second) Pinned (pinned i seat first (Some second) t)
