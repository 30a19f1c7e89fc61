-- What is left of two lists of items tells of the lists.
use Rattle.std.specs.Prelude.{ℕ, ◌≡◌, List}
use Rattle.ps_prim.specs.declared.prims.Primitive.{Primitive as Prim}
use Rattle.ps_prim.specs.Maps.{AllWithin, SameMap}
use Rattle.ps_reach.specs.Runs.{run_of}
use Rattle.ps_reach.specs.Findings.{Finding}
use Rattle.ps_normal.specs.Fillings.{CanRun}
use Rattle.ps_local.specs.declared.cut.Cut.{Cut}
use Rattle.ps_local.specs.declared.local.Found.{Found}
use Rattle.ps_local.specs.Cuts.{IsCut}
use Rattle.ps_local.specs.Local.{IsFound, found_as, Finds, Tells}
use Rattle.ps_local.specs.Windows.{AreWindows}

-- two lists have one cut
abbrev pub CutOnce : Type 0
CutOnce = (I K : List (List Prim)) (c d : Cut) → IsCut I K c → IsCut I K d → c ≡ d

-- what is left can be decided where the lists can
abbrev pub MiddlesRun : Type 0
MiddlesRun = (n : ℕ) (I K : List (List Prim)) (c : Cut) → IsCut I K c → CanRun n I → CanRun n K → CanRun n c.first × CanRun n c.second

-- what is left is one map exactly where the lists are
abbrev pub MiddlesSame : Type 0
MiddlesSame = (n : ℕ) (I K : List (List Prim)) (c : Cut) → IsCut I K c → SameMap n (run_of c.first) (run_of c.second) → SameMap n (run_of I) (run_of K)

abbrev pub MiddlesTell : Type 0
MiddlesTell = (n : ℕ) (I K : List (List Prim)) (c : Cut) → IsCut I K c → AllWithin n (run_of I) → SameMap n (run_of I) (run_of K) → SameMap n (run_of c.first) (run_of c.second)

-- lists that are windows, each of which is one map, are one map
abbrev pub WindowsTell : Type 0
WindowsTell = (n : ℕ) (M N : List (List Prim)) → AreWindows n M N → SameMap n (run_of M) (run_of N)

-- what was computed of what is left is what is found of it
abbrev pub FoundFinds : Type 0
FoundFinds = (n : ℕ) (M N : List (List Prim)) (f : Found) → IsFound n M N f → Finds n M N (found_as f)

-- what is found of what is left tells of the lists
abbrev pub FindingTells : Type 0
FindingTells = (n : ℕ) (I K : List (List Prim)) (c : Cut) (f : Finding) → IsCut I K c → AllWithin n (run_of I) → Finds n c.first c.second f → Tells n I K c f
