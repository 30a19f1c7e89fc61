-- What the readers of one command tell.
use Rattle.std.specs.Prelude.{◌≡◌, ℕ, true, false, List, [], ◌∷◌, Option, Some, None, Err}
use Rattle.ps_script.specs.declared.order.Order.{Order}
use Rattle.ps_script.specs.declared.script.Line.{Line}
use Rattle.ps_script.specs.declared.fault.ScriptFault.{ScriptFault}
use Rattle.ps_script.specs.declared.fault.ScriptFault.TheVariants.{Form, Session, Block, Memory}
use Rattle.ps_script.specs.Lines.{HasBlock, HasNoBlock}
use Rattle.ps_script.specs.Orders.{takes_block}
use Rattle.ps_script.specs.Reading.{Read, Asked, asked_of, behind, IsReading, IsOrderReading}

-- What stands behind a command line: a block, or none.
pub data IsBody (o : Order) (bytes text : List ℕ) (lines : ℕ) (rest : List ℕ) : Type 0 where
  with_block : takes_block o ≡ true → HasBlock bytes text lines rest → IsBody o bytes text lines rest
  without_block : takes_block o ≡ false → text ≡ [] → lines ≡ 0 → rest ≡ bytes → IsBody o bytes text lines rest

-- A block is wanted, and has no end.
pub record LacksBody (o : Order) (bytes : List ℕ) : Type 0 where
  pub wanted : takes_block o ≡ true
  pub missing : HasNoBlock bytes

abbrev pub asked_in : Option Line → List Asked
asked_in None = []
asked_in (Some l) = asked_of l ∷ []

-- Whatever the rest is read as, the bytes are read as that behind these commands.
abbrev pub LeadsOn : (n : ℕ) (bytes : List ℕ) (xs : List Asked) (m : ℕ) (rest : List ℕ) → Type 0
LeadsOn n bytes xs m rest = (r : Read) → IsReading m rest r → IsReading n bytes (behind xs r)

abbrev pub OrderLeadsOn : (n session : ℕ) (o : Order) (bytes : List ℕ) (xs : List Asked) (m : ℕ) (rest : List ℕ) → Type 0
OrderLeadsOn n session o bytes xs m rest = (r : Read) → IsReading m rest r → IsOrderReading n session o bytes (behind xs r)

-- P of the fault, want of memory aside.
abbrev pub FaultIs : ScriptFault → (Read → Type 0) → Type 0
FaultIs (Form n) P = P (Err (Form n))
FaultIs (Session n) P = P (Err (Session n))
FaultIs (Block n) P = P (Err (Block n))
FaultIs Memory P = Unit {0}
