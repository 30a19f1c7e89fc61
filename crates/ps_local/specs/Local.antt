-- What is found of two lists of items by what is left of them, and what that claims.
use Rattle.std.specs.Prelude.{ℕ, ◌≡◌, List, [], length}
use Rattle.ps_prim.specs.declared.prims.Primitive.{Primitive as Prim}
use Rattle.ps_prim.specs.Amplitudes.{Truths}
use Rattle.ps_prim.specs.Maps.{SameMap, DiffersAt}
use Rattle.ps_rules.specs.declared.steps.Step.{Step}
use Rattle.ps_overlap.specs.Overlapping.{point}
use Rattle.ps_reach.specs.Runs.{run_of}
use Rattle.ps_reach.specs.Findings.{Finding, yes, yes_phase, no, no_pair, stuck, limit, IsJustified}
use Rattle.ps_reach.specs.declared.mode.Mode.TheVariants.{Exact}
use Rattle.ps_reach.specs.Judging.{finding_of}
use Rattle.ps_reach.specs.Parts.{overrun_of}
use Rattle.ps_normal.specs.declared.decision.Decision.{Decision}
use Rattle.ps_normal.specs.declared.decision.Decision.TheVariants as decision
use Rattle.ps_normal.specs.Comparing.{Settles, IsDecision}
use Rattle.ps_local.specs.declared.cut.Cut.{Cut}
use Rattle.ps_local.specs.declared.local.Local.{Local}
use Rattle.ps_local.specs.declared.local.Found.{Found}
use Rattle.ps_local.specs.declared.local.Found.TheVariants.{Nothing, Decided, Windows}
use Rattle.ps_local.specs.Cuts.{IsCut}
use Rattle.ps_local.specs.Windows.{IsWindowed}

-- neither list has an item
abbrev pub NothingLeft : List (List Prim) → List (List Prim) → Type 0
NothingLeft M N = (M ≡ []) × (N ≡ [])

-- where nothing is left of either list they are one map; else what is left of them comes to this, or that is neither yes nor
-- no, but what is left is windows that are one map each
pub data Finds (n : ℕ) (M N : List (List Prim)) : Finding → Type 0 where
  nothing : NothingLeft M N → Finds n M N yes
  something : {steps : List Step} {f : Finding} → ¬ (NothingLeft M N) → Settles n (run_of M) (run_of N) Exact steps f → Finds n M N f
  windowed : ¬ (NothingLeft M N) → IsWindowed n M N → Finds n M N yes

-- the same of what was computed of two lists of which one has an item
abbrev pub IsCompared : ℕ → List (List Prim) → List (List Prim) → Found → Type 0
IsCompared n M N Nothing = ⊥
IsCompared n M N (Decided d) = IsDecision n M N Exact d
IsCompared n M N Windows = IsWindowed n M N

-- and of what was computed of any two
abbrev pub IsFound : ℕ → List (List Prim) → List (List Prim) → Found → Type 0
IsFound n M N Nothing = NothingLeft M N
IsFound n M N (Decided d) = (¬ (NothingLeft M N)) × IsCompared n M N (Decided d)
IsFound n M N Windows = (¬ (NothingLeft M N)) × IsCompared n M N Windows

-- what was computed, as a finding
abbrev pub decided_as : Decision → Finding
decided_as (decision.Judged j) = finding_of j.verdict
decided_as (decision.Passed e) = limit (overrun_of e)

abbrev pub found_as : Found → Finding
found_as Nothing = yes
found_as (Decided d) = decided_as d
found_as Windows = yes

-- the lists are cut, and what is left of them was compared
pub record IsLocal (n : ℕ) (I K : List (List Prim)) (l : Local) : Type 0 where
  pub cut : Cut
  pub is_cut : IsCut I K cut
  pub front : l.front ≡ cut.front
  pub back : l.back ≡ cut.back
  pub found : IsFound n cut.first cut.second l.found

-- what is left differs at these bits, and so the lists differ at some input and are not one map; without a front they
-- differ at these very bits
pub record DiffersBehind (n : ℕ) (I K : List (List Prim)) (c : Cut) (bits : List ℕ) : Type 0 where
  pub middles : DiffersAt n (run_of c.first) (run_of c.second) (point n bits)
  pub somewhere : (x : Truths) × (length x ≡ n) × DiffersAt n (run_of I) (run_of K) x
  pub apart : ¬ (SameMap n (run_of I) (run_of K))
  pub frontless : c.front ≡ 0 → DiffersAt n (run_of I) (run_of K) (point n bits)

-- what a finding for what is left claims: yes and no speak of the lists, and the others of what is left. Nothing is found up to a
-- phase, since that is not asked
abbrev pub Tells : ℕ → List (List Prim) → List (List Prim) → Cut → Finding → Type 0
Tells n I K c yes = SameMap n (run_of I) (run_of K)
Tells n I K c (yes_phase p) = ⊥
Tells n I K c (no bits) = DiffersBehind n I K c bits
Tells n I K c (no_pair x y) = ⊥
Tells n I K c (stuck S) = IsJustified n (run_of c.first) (run_of c.second) Exact (stuck S)
Tells n I K c (limit e) = IsJustified n (run_of c.first) (run_of c.second) Exact (limit e)
