-- What stands between a common front and a common back decides whether two lists are one map.
use Rattle.std.specs.Prelude.{ℕ, ◌≡◌, List, [], ◌++◌, length}
use Rattle.ps_prim.specs.declared.prims.Primitive.{Primitive as Prim}
use Rattle.ps_prim.specs.Amplitudes.{Truths}
use Rattle.ps_prim.specs.Maps.{AllWithin, SameMap, DiffersAt}
use Rattle.ps_cut.specs.Ends.{SharesEnds}

-- ---- lists that are equal in front and at the back
-- what is one map behind a front and before a back is one map
abbrev pub MapCancels : Type 0
MapCancels = (n : ℕ) (P M N S : List Prim) → AllWithin n P → AllWithin n S → SameMap n (P ++ (M ++ S)) (P ++ (N ++ S)) → SameMap n M N

-- middles that differ make lists that are not one map
abbrev pub DiffersBetween : Type 0
DiffersBetween = (n : ℕ) (P M N S : List Prim) (x : Truths) → AllWithin n P → AllWithin n S → length x ≡ n → DiffersAt n M N x → ¬ (SameMap n (P ++ (M ++ S)) (P ++ (N ++ S)))

-- and differ at some input
abbrev pub DiffersSomewhere : Type 0
DiffersSomewhere = (n : ℕ) (P M N S : List Prim) (x : Truths) → AllWithin n P → AllWithin n S → length x ≡ n → DiffersAt n M N x
    → (y : Truths) × (length y ≡ n) × DiffersAt n (P ++ (M ++ S)) (P ++ (N ++ S)) y

-- without a front they differ at this very input
abbrev pub DiffersBefore : Type 0
DiffersBefore = (n : ℕ) (M N S : List Prim) (x : Truths) → AllWithin n S → length x ≡ n → DiffersAt n M N x → DiffersAt n (M ++ S) (N ++ S) x

-- ---- lists that have the maps of such lists
abbrev pub EndsSame : Type 0
EndsSame = (n : ℕ) (A B F M N S : List Prim) → SharesEnds n A B F M N S → SameMap n M N → SameMap n A B

abbrev pub EndsTell : Type 0
EndsTell = (n : ℕ) (A B F M N S : List Prim) → SharesEnds n A B F M N S → AllWithin n F → AllWithin n S → SameMap n A B → SameMap n M N

abbrev pub EndsDiffer : Type 0
EndsDiffer = (n : ℕ) (A B F M N S : List Prim) (x : Truths) → SharesEnds n A B F M N S → AllWithin n F → AllWithin n S → length x ≡ n → DiffersAt n M N x
    → (y : Truths) × (length y ≡ n) × DiffersAt n A B y

abbrev pub FrontlessDiffers : Type 0
FrontlessDiffers = (n : ℕ) (A B M N S : List Prim) (x : Truths) → SharesEnds n A B [] M N S → AllWithin n S → length x ≡ n → DiffersAt n M N x → DiffersAt n A B x
