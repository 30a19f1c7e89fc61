-- A value put in at a place of a list of truth values.
use Rattle.std.proofs.Common.{◌≡◌, ◌≢◌, ℕ, zero, suc, refl, ap, arith, Bool, false, ◌≤◌, [], ◌∷◌, length, set, get_or}
use Rattle.ps_ring.specs.Truths.{Truths}
use Rattle.ps_ring.specs.Sums.{insert_at}

pub length_insert_at : (i : ℕ) (b : Bool) (y : Truths) → length (insert_at i b y) ≡ suc (length y)
unfolding insert_at
length_insert_at zero b y = refl
length_insert_at (suc i) b [] = refl
length_insert_at (suc i) b (x ∷ y) = ap suc (length_insert_at i b y)

pub set_inserted : (i : ℕ) (a b : Bool) (y : Truths) → i ≤ length y → set (insert_at i a y) i b ≡ insert_at i b y
unfolding insert_at
set_inserted zero a b y h = refl
set_inserted (suc i) a b [] h = absurd (omega arith)
set_inserted (suc i) a b (x ∷ y) h = ap (λ (r : Truths). x ∷ r) (set_inserted i a b y (omega arith))

pub get_inserted : (i : ℕ) (a : Bool) (y : Truths) → i ≤ length y → get_or (insert_at i a y) i false ≡ a
unfolding insert_at
get_inserted zero a y h = refl
get_inserted (suc i) a [] h = absurd (omega arith)
get_inserted (suc i) a (x ∷ y) h = get_inserted i a y (omega arith)

pub get_beside : (i k : ℕ) (a b : Bool) (y : Truths) → i ≤ length y → i ≢ k → get_or (insert_at i a y) k false ≡ get_or (insert_at i b y) k false
unfolding insert_at
get_beside zero zero a b y l h = absurd (h refl)
get_beside zero (suc k) a b y l h = refl
get_beside (suc i) k a b [] l h = absurd (omega arith)
get_beside (suc i) zero a b (x ∷ y) l h = refl
get_beside (suc i) (suc k) a b (x ∷ y) l h = get_beside i k a b y (omega arith) (λ e. h (ap suc e))
