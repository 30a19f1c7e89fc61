-- Retiring a version.
use Rattle.std.specs.Prelude.{ℕ, ◌+◌, ◌*◌, ◌≡◌, ◌≢◌, cond, List, [], ◌∷◌, Option, Some, None}
use Rattle.ps_script.specs.declared.name.Place.{Place}
use Rattle.ps_journal.specs.declared.seats.Claim.{Claim}
use Rattle.ps_journal.specs.declared.replies.Reply.{Reply}
use Rattle.ps_journal.specs.declared.replies.Reply.TheVariants.{Retired, NoCircuit, NoVersion, IsLatest, WasRetired}
use Rattle.ps_journal.specs.State.{Version, Circuit, State, circuit_at, latest_of, version_at, Finds, with_circuit, with_version}
use Rattle.ps_journal.specs.Keeping.{same_place, noted}

-- bit s is 1 where seat s has a claim on the version
abbrev pub claims_on : Place → List (Option Claim) → ℕ
claims_on p [] = 0
claims_on p (None ∷ cs) = 2 * claims_on p cs
claims_on p (Some c ∷ cs) = cond (same_place p c.place) 1 0 + 2 * claims_on p cs

-- the version is retired by entry i
abbrev pub retired_version : ℕ → Version → Version
retired_version i v = record v { retired = Some i }

abbrev pub retired_in : ℕ → ℕ → Circuit → Circuit
retired_in i k c = record c { versions = with_version (retired_version i) k c.versions }

abbrev pub retired : ℕ → Place → State → State
retired i p t = noted i (record t { circuits = with_circuit (retired_in i p.version) p.name t.circuits })

-- what entry i answers, and the state that it leaves
pub data Retires (t : State) (i : ℕ) (p : Place) : Reply → State → Type 0 where
  no_circuit : circuit_at t.circuits p.name ≡ None → Retires t i p NoCircuit t
  no_version : {c : Circuit} → circuit_at t.circuits p.name ≡ Some c → version_at c p.version ≡ None → Retires t i p (NoVersion (latest_of c)) t
  is_latest : {c : Circuit} {v : Version} → Finds t p c v → p.version ≡ latest_of c → Retires t i p IsLatest t
  was_retired : {c : Circuit} {v : Version} {j : ℕ} → Finds t p c v → p.version ≢ latest_of c → v.retired ≡ Some j → Retires t i p (WasRetired j) t
  retires : {c : Circuit} {v : Version} → Finds t p c v → p.version ≢ latest_of c → v.retired ≡ None → Retires t i p (Retired (claims_on p t.claims)) (retired i p t)
