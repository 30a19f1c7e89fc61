-- What each kind of step tells: of the seat before, the number found and the seat after.
use Rattle.std.specs.Prelude.{◌≡◌, ℕ, ◌+◌, ◌^◌, ◌<◌, ◌≤◌, ◌≢◌, true, List, [], ◌∷◌, ◌++◌, length, Option, Some}
use Rattle.atomic_table.specs.Table.{Me}
use Rattle.ps_desk.specs.declared.entry.Entry.{Entry}
use Rattle.ps_desk.specs.declared.view.View.{View}
use Rattle.ps_desk.specs.Views.{own_of, IsBeginning, drawn, refusing, at_turn, after, settled}

-- A seat's view, and what it holds of the table: nothing, or the slot with the object.
abbrev pub Sitting : Type 0 → Type 0 → Type 0 → Type 0
Sitting O C R = Me (Option O) (View C R)

module _ {O C R : Type 0} where
  -- A ticket below 262,144 is held, and any other refused.
  abbrev pub Draws : Sitting O C R → ℕ → Sitting O C R → Type 0
  Draws m n w = (n < 262144 → w ≡ (drawn m.0 n, m.1)) × (262144 ≤ n → w ≡ (refusing m.0 n, m.1))

  -- What a seat has seen and what it was told of both begin the longer of the two.
  pub record Settles (m w : Sitting O C R) : Type 0 where
    pub seat : w ≡ (settled m.0, m.1)
    pub seen : IsBeginning m.0.seen (settled m.0).seen
    pub told : IsBeginning m.0.told (settled m.0).seen
    pub own : m.0.own ≡ own_of m.0.number (settled m.0).seen

module _ {O C R : Type 0} (journal : O → List (Entry C R)) (spare : O → ℕ) (legal : List (Entry C R) → Type 0) where
  -- The ticket n is served: the seat holds the object, whose journal has n entries and begins with what the seat has seen.
  pub record Found (m w : Sitting O C R) (n : ℕ) : Type 0 where
    pub object : O
    pub seat : w ≡ (at_turn m.0 (journal object), (0, Some object) ∷ m.1)
    pub place : length (journal object) ≡ n
    pub lawful : legal (journal object)
    pub room : 262144 ≤ spare object + n
    pub seen : IsBeginning m.0.seen (journal object)
    pub own : m.0.own ≡ own_of m.0.number (journal object)

  abbrev pub Looks : Sitting O C R → ℕ → Sitting O C R → Type 0
  Looks m n w =
      (m.0.ticket ≡ Some n → Found m w n)
      × (m.0.ticket ≢ Some n → (w ≡ m) × (m.0.own ≡ own_of m.0.number m.0.seen))
      × (n < 2 ^ 32)

  -- The seat holds the object between its look and its end.
  pub record Holds (m : Sitting O C R) (o : O) : Type 0 where
    pub held : m.1 ≡ (0, Some o) ∷ []
    pub found : m.0.found ≡ Some (journal o)
    pub live : m.0.live ≡ true
    pub lawful : legal (journal o)
    pub room : 262144 ≤ spare o + length (journal o)
    pub below : length (journal o) < 262144

module _ {O C R : Type 0} (journal : O → List (Entry C R)) where
  -- The entry that the object got is seen.
  abbrev pub Ends : Sitting O C R → ℕ → Sitting O C R → Type 0
  Ends m n w =
      (o : O) (h : List (Entry C R)) (e : Entry C R) → m.1 ≡ (0, Some o) ∷ [] → m.0.found ≡ Some h → journal o ≡ h ++ e ∷ []
      → w ≡ (after m.0 h e, [])
