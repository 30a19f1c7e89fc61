-- What a derivation that is printed claims, and what the replay of one does.
use Rattle.std.specs.Prelude.{ℕ, ◌≡◌, ◌≢◌, List}
use Rattle.ps_prim.specs.declared.prims.Primitive.{Primitive as Prim}
use Rattle.ps_prim.specs.Maps.{SameMap}
use Rattle.ps_sum.specs.declared.sums.PathSum.{PathSum}
use Rattle.ps_rules.specs.declared.steps.Step.{Step}
use Rattle.ps_rules.specs.declared.steps.Move.{Move}
use Rattle.ps_reach.specs.declared.mode.Mode.TheVariants.{Exact, Phase}
use Rattle.ps_reach.specs.Runs.{run_of}
use Rattle.ps_reach.specs.Fillings.{Fills, kept}
use Rattle.ps_reach.specs.Findings.{Compares, yes, IsUnit}
use Rattle.ps_steps.specs.declared.derivation.Derivation.{Derivation}
use Rattle.ps_steps.specs.Holding.{Holds}
use Rattle.ps_normal.specs.Deriving.{lines_by}
use Rattle.ps_replay.specs.declared.replayed.Replayed.{Replayed}
use Rattle.ps_replay.specs.declared.replayed.Replayed.TheVariants as replayed
use Rattle.ps_replay.specs.declared.replayed.Why.{Why}
use Rattle.ps_replay.specs.Replaying.{Replays}
use Rattle.pathsum.specs.declared.commands.Command.{Command}
use Rattle.pathsum.specs.declared.commands.Command.TheVariants as command
use Rattle.pathsum.specs.declared.answer.Answer.{Answer}
use Rattle.pathsum.specs.declared.answer.Answer.TheVariants.{Yes, Proof, Accepted, Rejected, Left}
use Rattle.pathsum.specs.Local.{IsLocalVerdict}
use Rattle.pathsum.specs.Verdicts.{IsVerdict}

-- each list is filled from its first prim on, comparing the two sums finds yes, the lines are those of both fills and of
-- the comparison, all of them hold, the last sum is 1, and the two lists are one linear map
pub record IsDerivation (n : ℕ) (A B : List Prim) (d : Derivation) : Type 0 where
  pub first : PathSum
  pub second : PathSum
  pub first_moves : List Move
  pub second_moves : List Move
  pub steps : List Step
  pub last : PathSum
  pub first_fills : Fills n A (kept first first_moves)
  pub second_fills : Fills n B (kept second second_moves)
  pub compares : Compares Exact (kept first first_moves) (kept second second_moves) steps yes
  pub lines : d.lines ≡ lines_by first_moves second_moves steps
  pub holds : Holds n A B d.lines last
  pub unit : IsUnit last
  pub same : SameMap n A B

-- a yes is told by its derivation, and each other verdict as it is
pub data Proves (n : ℕ) (A B : List Prim) : Answer → Type 0 where
  derived : {d : Derivation} → IsDerivation n A B d → Proves n A B (Proof d)
  other : {answer : Answer} → IsVerdict n A B Exact answer → answer ≢ Yes → Proves n A B answer

-- the answer tells what a replay came to
pub data Echoes : Replayed → Answer → Type 0 where
  accepted : Echoes replayed.Accepted Accepted
  rejected : {line : ℕ} {why : Why} → Echoes (replayed.Rejected line why) (Rejected line why)
  left : {S : PathSum} → Echoes (replayed.Left S) (Left S)

-- replaying the bytes comes to what the answer tells; what is accepted is one linear map
pub record IsReplay (n : ℕ) (A B : List Prim) (bytes : List ℕ) (answer : Answer) : Type 0 where
  pub replayed : Replayed
  pub replays : Replays n A B bytes replayed
  pub told : Echoes replayed answer
  pub sound : answer ≡ Accepted → SameMap n A B

-- what a command does with two lists of items and the bytes of a derivation
abbrev pub Works : Command → ℕ → List (List Prim) → List (List Prim) → List ℕ → Answer → Type 0
Works command.Same n I K d answer = IsVerdict n (run_of I) (run_of K) Exact answer
Works command.SamePhase n I K d answer = IsVerdict n (run_of I) (run_of K) Phase answer
Works command.SameLocal n I K d answer = IsLocalVerdict n I K answer
Works command.Prove n I K d answer = Proves n (run_of I) (run_of K) answer
Works command.Replay n I K d answer = IsReplay n (run_of I) (run_of K) d answer
