-- What a seat knows, and how each step changes it.
use Rattle.std.specs.Prelude.{◌≡◌, ℕ, ◌+◌, true, false, cond, List, [], ◌∷◌, ◌++◌, filter, ◌==◌, ◌⊎◌, nat_lt, if◌then◌else◌, length, Some, None}
use Rattle.ps_desk.specs.declared.entry.Entry.{Entry}
use Rattle.ps_desk.specs.declared.view.View.{View}
use Rattle.ps_desk.specs.declared.view.Ended.{Ended}

abbrev pub entry : {C R : Type 0} → ℕ → C → R → Entry C R
entry seat cmd reply = record { seat = seat; cmd = cmd; reply = reply }

-- The entries of one seat, in order.
abbrev pub own_of : {C R : Type 0} → ℕ → List (Entry C R) → List (Entry C R)
own_of n es = filter (λ e. e.seat == n) es

abbrev pub IsBeginning : {A : Type 0} → List A → List A → Type 0
IsBeginning {A} xs ys = (more : List A) × (ys ≡ xs ++ more)

abbrev pub longer : {A : Type 0} → List A → List A → List A
longer xs ys = if nat_lt (length xs) (length ys) then ys else xs

-- n is one of these numbers.
abbrev pub Has : List ℕ → ℕ → Type 0
Has [] n = ⊥
Has (x ∷ xs) n = (x ≡ n) ⊎ Has xs n

-- These numbers without the first n.
abbrev pub take_out : ℕ → List ℕ → List ℕ
take_out n [] = []
take_out n (x ∷ xs) = cond (x == n) xs (x ∷ take_out n xs)

-- The first seat of a desk for so many seats.
abbrev pub opened : {C R : Type 0} → ℕ → View C R
opened seats =
    record { live = true; number = 0; next = 1; end = seats; out = []; ended = []; seen = []; told = []; own = []; ticket = None; found = None; refused = None }

module _ {C R : Type 0} (v : View C R) where
  -- It has drawn the ticket t,
  abbrev pub drawn : ℕ → View C R
  drawn t = record v { ticket = Some t }

  -- or was refused by it.
  abbrev pub refusing : ℕ → View C R
  refusing t = record v { refused = Some t }

  -- It is at its turn, and the journal is h.
  abbrev pub at_turn : List (Entry C R) → View C R
  at_turn h = record v { found = Some h }

  -- Its turn has ended, in which e came behind h.
  abbrev pub after : List (Entry C R) → Entry C R → View C R
  after h e = record v { found = None; ticket = None; seen = h ++ e ∷ []; own = v.own ++ e ∷ [] }

  -- It has given its least spare number away,
  abbrev pub giving : View C R
  giving = record v { next = v.next + 1; out = v.next ∷ v.out }

  -- and this is the seat that has that number.
  abbrev pub given : View C R
  given =
      record {
        live = true;
        number = v.next;
        next = 0;
        end = 0;
        out = [];
        ended = [];
        seen = v.seen;
        told = [];
        own = [];
        ticket = None;
        found = None;
        refused = None;
      }

  -- What is kept of it once it is taken back.
  abbrev pub ended_of : Ended C R
  ended_of = record { number = v.number; own = v.own; refused = v.refused }

module _ {C R : Type 0} (v : View C R) where
  -- It has taken the seat of w back, and seen what w saw.
  abbrev pub joined : View C R → View C R
  joined w = record v { out = take_out w.number v.out; ended = v.ended ++ ended_of w ∷ w.ended; seen = longer v.seen w.seen }

  -- The same in two steps: first it is told what w saw,
  abbrev pub receiving : View C R → View C R
  receiving w = record v { out = take_out w.number v.out; ended = v.ended ++ ended_of w ∷ w.ended; told = w.seen }

  -- and then what it was told of is seen.
  abbrev pub settled : View C R
  settled = record v { seen = longer v.seen v.told; told = [] }

-- What is left of a seat that was taken back.
abbrev pub spent : {C R : Type 0} → View C R
spent =
    record { live = false; number = 0; next = 0; end = 0; out = []; ended = []; seen = []; told = []; own = []; ticket = None; found = None; refused = None }
