-- What comparing two lists of prims comes to.
use Rattle.std.specs.Prelude.{ℕ, ◌≡◌, ◌≤◌, ◌*◌, List, [], pos, negsuc, ◌≤ℤ◌, ◌-ℤ◌}
use Rattle.ps_prim.specs.declared.prims.Primitive.{Primitive as Prim}
use Rattle.ps_sum.specs.declared.sums.PathSum.{PathSum}
use Rattle.ps_rules.specs.declared.steps.Step.{Step}
use Rattle.ps_rules.specs.declared.steps.Move.{Move}
use Rattle.ps_reach.specs.declared.mode.Mode.{Mode}
use Rattle.ps_reach.specs.declared.judged.Judged.{Judged}
use Rattle.ps_reach.specs.Runs.{run_of}
use Rattle.ps_reach.specs.Parts.{overrun_of}
use Rattle.ps_reach.specs.Overruns.{Overrun}
use Rattle.ps_reach.specs.Fillings.{Outcome, Fills, passed}
use Rattle.ps_reach.specs.Findings.{Finding, limit, Compares, IsOverIn, IsJustified}
use Rattle.ps_reach.specs.Judging.{finding_of}
use Rattle.ps_normal.specs.declared.decision.Decision.{Decision}
use Rattle.ps_normal.specs.declared.decision.Decision.TheVariants as decision
use Rattle.ps_normal.specs.Pieces.{Usable}
use Rattle.ps_normal.specs.Fillings.{IsRecordOf}

-- each list is filled as one run, and comparing what they come to in a mode takes these steps and finds this
pub record Decides (n : ℕ) (A B : List Prim) (mode : Mode) (steps : List Step) (finding : Finding) : Type 0 where
  pub first : Outcome
  pub second : Outcome
  pub first_fills : Fills n A first
  pub second_fills : Fills n B second
  pub compares : Compares mode first second steps finding
  pub justified : IsJustified n A B mode finding

-- the first list, filled as one run, passes this limit, and the evidence is true of it
pub record PassesFirst (n : ℕ) (A : List Prim) (e : Overrun) : Type 0 where
  pub moves : List Move
  pub fills : Fills n A (passed e moves)
  pub over : IsOverIn n A e

-- the limit that the first list passes is found, with no step; or else both lists are filled, and comparing what they come
-- to takes these steps and finds this
pub data Settles (n : ℕ) (A B : List Prim) (mode : Mode) : List Step → Finding → Type 0 where
  early : {e : Overrun} → PassesFirst n A e → Settles n A B mode [] (limit e)
  both : {steps : List Step} {finding : Finding} → Decides n A B mode steps finding → Settles n A B mode steps finding

-- both segments are filled and compared so
pub record IsBoth (n : ℕ) (I K : List (List Prim)) (mode : Mode) (j : Judged) : Type 0 where
  pub mode_is : j.mode ≡ mode
  pub decided : Decides n (run_of I) (run_of K) mode j.steps (finding_of j.verdict)
  pub first_record : IsRecordOf n I (Fills n (run_of I)) j.first.value
  pub second_record : IsRecordOf n K (Fills n (run_of K)) j.second.value

-- what two segments come to
abbrev pub IsDecision : ℕ → List (List Prim) → List (List Prim) → Mode → Decision → Type 0
IsDecision n I K mode (decision.Judged j) = IsBoth n I K mode j
IsDecision n I K mode (decision.Passed e) = PassesFirst n (run_of I) (overrun_of e)

-- two sums whose overlap can be taken
pub record Comparable (S1 S2 : PathSum) : Type 0 where
  pub n : ℕ
  pub before : ℕ
  pub behind : ℕ
  pub some : 1 ≤ n
  pub first_few : before ≤ 268435456
  pub second_few : behind ≤ 268435456
  pub first : Usable n before S1
  pub second : Usable n behind S2

-- the scale less twice the path variables is far enough from the least scale
abbrev pub HasFloor : PathSum → Type 0
HasFloor S = negsuc 1999999999 ≤ℤ (S.k -ℤ pos (2 * S.m))
