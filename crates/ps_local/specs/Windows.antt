-- Two lists of items that are cut side by side into windows, each of which is one linear map.
use Rattle.std.specs.Prelude.{ℕ, ◌≡◌, ◌≤◌, List, [], ◌∷◌, ◌++◌, length, take}
use Rattle.ps_prim.specs.declared.prims.Primitive.{Primitive as Prim}
use Rattle.ps_rules.specs.declared.steps.Step.{Step}
use Rattle.ps_reach.specs.Runs.{run_of}
use Rattle.ps_reach.specs.Findings.{Finding, yes, yes_phase, no, no_pair, stuck, limit}
use Rattle.ps_reach.specs.declared.mode.Mode.TheVariants.{Exact}
use Rattle.ps_normal.specs.Comparing.{Settles}
use Rattle.ps_local.specs.declared.places.Places.{Places}

-- a part of the one list beside a part of the other
pub record Window : Type 0 where
  pub first : List (List Prim)
  pub second : List (List Prim)

-- the first part of each window, one behind the other
abbrev pub firsts : List Window → List (List Prim)
firsts [] = []
firsts (w ∷ ws) = w.first ++ firsts ws

-- and the second
abbrev pub seconds : List Window → List (List Prim)
seconds [] = []
seconds (w ∷ ws) = w.second ++ seconds ws

-- both parts have the same items, or comparing them finds that they are one linear map
pub data IsSettled (n : ℕ) (M N : List (List Prim)) : Type 0 where
  equal : M ≡ N → IsSettled n M N
  compared : {steps : List Step} → Settles n (run_of M) (run_of N) Exact steps yes → IsSettled n M N

abbrev pub AllSettled : ℕ → List Window → Type 0
AllSettled n [] = Unit {0}
AllSettled n (w ∷ ws) = IsSettled n w.first w.second × AllSettled n ws

-- the two lists are such windows, and nothing else
pub record AreWindows (n : ℕ) (M N : List (List Prim)) : Type 0 where
  pub windows : List Window
  pub first : M ≡ firsts windows
  pub second : N ≡ seconds windows
  pub settled : AllSettled n windows

-- neither yes nor no was found
abbrev pub IsUnknown : Finding → Type 0
IsUnknown yes = ⊥
IsUnknown (yes_phase p) = ⊥
IsUnknown (no bits) = ⊥
IsUnknown (no_pair x y) = ⊥
IsUnknown (stuck S) = Unit {0}
IsUnknown (limit e) = Unit {0}

-- a limit was passed
abbrev pub IsLimit : Finding → Type 0
IsLimit yes = ⊥
IsLimit (yes_phase p) = ⊥
IsLimit (no bits) = ⊥
IsLimit (no_pair x y) = ⊥
IsLimit (stuck S) = ⊥
IsLimit (limit e) = Unit {0}

-- comparing the lists as they stand finds neither yes nor no, but they are windows
pub record IsWindowed (n : ℕ) (M N : List (List Prim)) : Type 0 where
  pub steps : List Step
  pub finding : Finding
  pub whole : Settles n (run_of M) (run_of N) Exact steps finding
  pub unknown : IsUnknown finding
  pub windows : AreWindows n M N

-- ---- places
-- the places are in the lists, or at their ends
pub record AreIn (I K : List (List Prim)) (p : Places) : Type 0 where
  pub first : p.first ≤ length I
  pub second : p.second ≤ length K

-- before these places the lists are windows
pub record AreWindowsTo (n : ℕ) (I K : List (List Prim)) (p : Places) : Type 0 where
  pub places : AreIn I K p
  pub windows : AreWindows n (take p.first I) (take p.second K)

-- the first items of both lists, up to the places, are one window
pub record IsNextWindow (n : ℕ) (I K : List (List Prim)) (p : Places) : Type 0 where
  pub places : AreIn I K p
  pub settled : IsSettled n (take p.first I) (take p.second K)
