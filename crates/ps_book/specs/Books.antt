-- What a book tells.
use Rattle.std.specs.Prelude.{ℕ, ◌≡◌, ◌≤◌, ◌-◌, true, List, length, Option, Some, None}
use Rattle.ps_journal.specs.State.{State, Version, Circuit, circuit_at, version_at, Finds}
use Rattle.ps_journal.specs.Segments.{segments_of, missing}
use Rattle.ps_journal.specs.Keeping.{is_kept}
use Rattle.ps_journal.specs.History.{Entry}
use Rattle.ps_book.specs.declared.book.Book.{Book}

-- the entries so far, and how many there is room for
abbrev pub entries : Book → List Entry
entries b = b.journal.items

abbrev pub room_left : Book → ℕ
room_left b = 262144 - length (entries b)

-- a version that is there; where it is kept, so many of its segments have no record, and else at most that many
pub record MissesSome (t : State) (name : List ℕ) (number m : ℕ) : Type 0 where
  pub circuit : Circuit
  pub version : Version
  pub finds : Finds t (record { name = name; version = number }) circuit version
  pub few : m ≤ length (segments_of version.tree)
  pub kept : is_kept t.pins (record { name = name; version = number }) version ≡ true → m ≡ missing t.published version.tree

-- there is no such version
abbrev pub HasNone : State → List ℕ → ℕ → Type 0
HasNone t name number = (c : Circuit) → circuit_at t.circuits name ≡ Some c → version_at c number ≡ None

abbrev pub Misses : State → List ℕ → ℕ → Option ℕ → Type 0
Misses t name number None = HasNone t name number
Misses t name number (Some m) = MissesSome t name number m
