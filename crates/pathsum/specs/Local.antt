-- What the answer to an edit claims.
use Rattle.std.specs.Prelude.{ℕ, ◌≡◌, ◌<◌, List}
use Rattle.ps_prim.specs.declared.prims.Primitive.{Primitive as Prim}
use Rattle.ps_reach.specs.Findings.{Finding, yes, yes_phase, no, no_pair, stuck, limit}
use Rattle.ps_local.specs.declared.cut.Cut.{Cut}
use Rattle.ps_local.specs.Cuts.{IsCut}
use Rattle.ps_local.specs.Local.{Finds, Tells}
use Rattle.pathsum.specs.declared.input.Input.{Input}
use Rattle.pathsum.specs.declared.answer.Answer.{Answer}
use Rattle.pathsum.specs.declared.answer.Answer.TheVariants.{NoBehind}
use Rattle.pathsum.specs.Verdicts.{Says}

-- it is told as it is: a no where there is no front, and each other finding
abbrev pub IsPlain : ℕ → Finding → Type 0
IsPlain front (no bits) = front ≡ 0
IsPlain front yes = Unit {0}
IsPlain front (yes_phase p) = Unit {0}
IsPlain front (no_pair a b) = Unit {0}
IsPlain front (stuck S) = Unit {0}
IsPlain front (limit e) = Unit {0}

-- the answer tells the finding for what is left behind so many items, on n qubits; a no behind some with their number
pub data SaysBehind (n front : ℕ) : Finding → Answer → Type 0 where
  plainly : {f : Finding} {answer : Answer} → IsPlain front f → Says n f answer → SaysBehind n front f answer
  behind : {input : Input} {bits : List ℕ} → 0 < front → input.qubits ≡ n → bits ≡ input.at → SaysBehind n front (no bits) (NoBehind input front)

-- the two lists of items are cut, and what is left of them comes to this, which claims that of the lists; the answer tells it
pub record IsLocalVerdict (n : ℕ) (I K : List (List Prim)) (answer : Answer) : Type 0 where
  pub cut : Cut
  pub is_cut : IsCut I K cut
  pub finding : Finding
  pub found : Finds n cut.first cut.second finding
  pub tells : Tells n I K cut finding
  pub told : SaysBehind n cut.front finding answer
