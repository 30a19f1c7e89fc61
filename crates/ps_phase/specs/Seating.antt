-- Seats of terms, which are sorted in place of the terms.
use Rattle.std.specs.Prelude.{◌≡◌, ◌<◌, List, [], length, get_or, map, All}
use Rattle.ps_phase.specs.declared.terms.Term.{Term}
use Rattle.ps_phase.specs.declared.seats.Seat.{Seat}
use Rattle.ps_mono.specs.Sets.{IsVarSet}
use Rattle.ps_mono.specs.Keys.{IsLow, low_key}

-- the term at a seat's place
unfoldable pub seat_term : List Term → Seat → Term
seat_term ts s = get_or ts s.place (record { mono = []; phase = 0 })

-- the terms at the places of seats, in the order of the seats
abbrev pub seat_terms : List Term → List Seat → List Term
seat_terms ts ss = map (seat_term ts) ss

-- a seat has the phase of the term at its place, and the number of its monomial, whose variables are low
pub record IsSeat (ts : List Term) (s : Seat) : Type 0 where
  pub inside : s.place < length ts
  pub set : IsVarSet (seat_term ts s).mono
  pub low : IsLow (seat_term ts s).mono
  pub key : s.key ≡ low_key (seat_term ts s).mono
  pub phase : s.phase ≡ (seat_term ts s).phase
  pub small : s.phase < 4294967296

-- all variables of each monomial are low
abbrev pub AllLow : List Term → Type 0
AllLow ts = All (λ (t : Term). IsLow t.mono) ts
