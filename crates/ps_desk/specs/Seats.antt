-- What clauses read of a seat and a desk, and what calls come to.
use Rattle.std.specs.Prelude.{◌≡◌, ℕ, ◌<◌, ◌≤◌, ◌++◌, ◌∷◌, [], ◌⊎◌, List, length, Some, None}
use mathlib.Core.Option.{some}
use lib.ListN.{get_elem?}
use Rattle.atomic_table.specs.Seated.{TableId}
use Rattle.ps_desk.specs.declared.entry.Entry.{Entry}
use Rattle.ps_desk.specs.declared.view.View.{View}
use Rattle.ps_desk.specs.declared.view.Ended.{Ended}
use Rattle.ps_desk.specs.declared.object.Object.{Ghosts}
use Rattle.ps_desk.specs.declared.seat.Seat.{Seat}
use Rattle.ps_desk.specs.declared.seat.Desk.{Desk}
use Rattle.ps_desk.specs.Views.{entry, own_of, IsBeginning, after}

module _ {O C R : Type 0} {o : Ghosts O C R} where
  -- What the seat knows.
  abbrev pub view_of : Seat O C R o → View C R
  view_of seat = seat.token.me.0

  -- Which desk it is at.
  abbrev pub desk_of : Seat O C R o → TableId
  desk_of seat = seat.token.table_id

  abbrev pub IsSeatOf : Desk O C R → Seat O C R o → Type 0
  IsSeatOf desk seat = seat.token.table_id ≡ desk.table.shared.table_id

-- A turn was answered: what the seat has seen is now the journal up to its one new entry, which stands at the place of its ticket.
pub record Turned {C R : Type 0} (legal : List (Entry C R) → Type 0) (old new : View C R) (cmd : C) (reply : R) : Type 0 where
  pub before : List (Entry C R)
  pub view : new ≡ after old before (entry old.number cmd reply)
  pub seen : IsBeginning old.seen before
  pub lawful : legal (before ++ entry old.number cmd reply ∷ [])
  pub own : new.own ≡ own_of old.number (before ++ entry old.number cmd reply ∷ [])
  pub below : length before < 262144
  pub not_refused : old.refused ≡ None

-- The journal of a closed desk, as its first seat knows it: legal, with what the seat has seen as a beginning. The seat and each seat that
-- came back have their own entries in it, and nobody else has one. Where any of them was refused, the journal is full.
pub record Closed {C R : Type 0} (legal : List (Entry C R) → Type 0) (v : View C R) (journal : List (Entry C R)) : Type 0 where
  pub lawful : legal journal
  pub seen : IsBeginning v.seen journal
  pub own : v.own ≡ own_of 0 journal
  pub ended : (k : ℕ) (e : Ended C R) → get_elem? v.ended k ≡ some e → e.own ≡ own_of e.number journal
  pub all : (k : ℕ) (x : Entry C R) → get_elem? journal k ≡ some x
      → (x.seat ≡ 0) ⊎ ((j : ℕ) × (e : Ended C R) × (get_elem? v.ended j ≡ some e) × (e.number ≡ x.seat))
  pub refused : (t : ℕ) → v.refused ≡ Some t → 262144 ≤ length journal
  pub refused_ended : (k t : ℕ) (e : Ended C R) → get_elem? v.ended k ≡ some e → e.refused ≡ Some t → 262144 ≤ length journal
