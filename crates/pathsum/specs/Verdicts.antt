-- What the answer to a pair of lists of prims claims.
use Rattle.std.specs.Prelude.{ℕ, ◌≡◌, List}
use Rattle.ps_prim.specs.declared.prims.Primitive.{Primitive as Prim}
use Rattle.ps_sum.specs.declared.sums.PathSum.{PathSum}
use Rattle.ps_sum.specs.declared.faults.Passed.{Passed as Limit}
use Rattle.ps_rules.specs.declared.steps.Step.{Step}
use Rattle.ps_reach.specs.declared.mode.Mode.{Mode}
use Rattle.ps_reach.specs.Overruns.{Overrun}
use Rattle.ps_reach.specs.Findings.{Finding, yes, yes_phase, no, no_pair, stuck, limit}
use Rattle.ps_normal.specs.Comparing.{Settles}
use Rattle.pathsum.specs.declared.input.Input.{Input}
use Rattle.pathsum.specs.declared.answer.Answer.{Answer}
use Rattle.pathsum.specs.declared.answer.Answer.TheVariants.{Yes, YesPhase, No, NoPair, Stuck, Passed}

-- the answer tells the finding, on n qubits
pub data Says (n : ℕ) : Finding → Answer → Type 0 where
  says_yes : Says n yes Yes
  says_yes_phase : {p : ℕ} → Says n (yes_phase p) (YesPhase p)
  says_no_pair : {first second : Input} {a b : List ℕ} → first.qubits ≡ n → second.qubits ≡ n → a ≡ first.at → b ≡ second.at → Says n (no_pair a b) (NoPair first second)
  says_no : {input : Input} {bits : List ℕ} → input.qubits ≡ n → bits ≡ input.at → Says n (no bits) (No input)
  says_stuck : {S : PathSum} → Says n (stuck S) (Stuck S)
  says_passed : {e : Overrun} {passed : Limit} → passed ≡ e.passed → Says n (limit e) (Passed passed)

-- each list is filled from its first prim on, the second where the first passes no limit; comparing what they come to in this
-- mode finds this, which is justified for the two lists, and the answer tells it
pub record IsVerdict (n : ℕ) (A B : List Prim) (mode : Mode) (answer : Answer) : Type 0 where
  pub steps : List Step
  pub finding : Finding
  pub decided : Settles n A B mode steps finding
  pub told : Says n finding answer
