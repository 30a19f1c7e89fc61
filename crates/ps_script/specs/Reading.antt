-- What bytes are read as: the commands of a script, or the first fault with its line.
use Rattle.std.specs.Prelude.{◌≡◌, ◌≢◌, ℕ, ◌+◌, ◌<◌, ◌≤◌, Bool, true, false, ◌==◌, List, [], ◌∷◌, ◌++◌, map, Result, Ok, Err}
use Rattle.ps_script.specs.declared.order.Order.{Order}
use Rattle.ps_script.specs.declared.order.Order.TheVariants.{Open, Splice, Retire, Ask, AskPhase, Prove, Sum, Show}
use Rattle.ps_script.specs.declared.command.Command.{Command}
use Rattle.ps_script.specs.declared.command.Command.TheVariants as command
use Rattle.ps_script.specs.declared.script.Line.{Line}
use Rattle.ps_script.specs.declared.script.Script.{Script}
use Rattle.ps_script.specs.declared.fault.ScriptFault.{ScriptFault}
use Rattle.ps_script.specs.declared.fault.ScriptFault.TheVariants.{Form, Session, Block, Memory}
use Rattle.ps_script.specs.Lines.{line_of, rest_of, HasBlock, HasNoBlock}
use Rattle.ps_script.specs.Orders.{Spells, SpellsNone, takes_block}

-- A command: its session, what its line asks, and its block, which is empty where it takes none.
pub record Asked : Type 0 where
  pub session : ℕ
  pub order : Order
  pub block : List ℕ

abbrev pub order_of : Command → Order
order_of (command.Open n text) = Open n
order_of (command.Splice p f t block) = Splice p f t
order_of (command.Retire p) = Retire p
order_of (command.Ask p q) = Ask p q
order_of (command.AskPhase p q) = AskPhase p q
order_of (command.Prove p q) = Prove p q
order_of (command.Sum p) = Sum p
order_of (command.Show p) = Show p

abbrev pub block_of : Command → List ℕ
block_of (command.Open n text) = text.value
block_of (command.Splice p f t block) = block.value
block_of (command.Retire p) = []
block_of (command.Ask p q) = []
block_of (command.AskPhase p q) = []
block_of (command.Prove p q) = []
block_of (command.Sum p) = []
block_of (command.Show p) = []

abbrev pub asked_of : Line → Asked
asked_of l = record { session = l.session; order = order_of l.command; block = block_of l.command }

abbrev pub Read : Type 0
Read = Result (List Asked) ScriptFault

-- What is read where these commands stand in front.
abbrev pub behind : List Asked → Read → Read
behind xs (Ok ys) = Ok (xs ++ ys)
behind xs (Err e) = Err e

-- An empty line, or one that begins with `#`.
abbrev pub is_skipped : List ℕ → Bool
is_skipped [] = true
is_skipped (b ∷ bs) = b == 35

mutual
  -- The bytes, whose first line is line n of the script, are read as r.
  pub data IsReading : (n : ℕ) (bytes : List ℕ) (r : Read) → Type 0 where
    at_end : {n : ℕ} {bytes : List ℕ} {r : Read} → bytes ≡ [] → r ≡ Ok [] → IsReading n bytes r
    at_line : {n : ℕ} {bytes : List ℕ} {r : Read} → bytes ≢ [] → IsLineReading n (line_of bytes) (rest_of bytes) r → IsReading n bytes r

  -- The same, by the first line and what stands behind it.
  pub data IsLineReading : (n : ℕ) (line rest : List ℕ) (r : Read) → Type 0 where
    skipped : {n : ℕ} {line rest : List ℕ} {r : Read} → is_skipped line ≡ true → IsReading (n + 1) rest r → IsLineReading n line rest r
    ordered : {n session : ℕ} {o : Order} {line rest : List ℕ} {r : Read} → is_skipped line ≡ false → Spells line session o
        → IsOrderReading n session o rest r → IsLineReading n line rest r
    formless : {n : ℕ} {line rest : List ℕ} {r : Read} → is_skipped line ≡ false → SpellsNone line → r ≡ Err (Form n) → IsLineReading n line rest r

  -- The same, by the order of the first line, and what stands behind the line.
  pub data IsOrderReading : (n session : ℕ) (o : Order) (rest : List ℕ) (r : Read) → Type 0 where
    above : {n session : ℕ} {o : Order} {rest : List ℕ} {r : Read} → 15 < session → r ≡ Err (Session n) → IsOrderReading n session o rest r
    plain : {n session : ℕ} {o : Order} {rest : List ℕ} {r s : Read} → session ≤ 15 → takes_block o ≡ false → IsReading (n + 1) rest s
        → r ≡ behind (record { session = session; order = o; block = [] } ∷ []) s → IsOrderReading n session o rest r
    blocked : {n session lines : ℕ} {o : Order} {rest text after : List ℕ} {r s : Read} → session ≤ 15 → takes_block o ≡ true
        → HasBlock rest text lines after → IsReading (n + 1 + lines) after s
        → r ≡ behind (record { session = session; order = o; block = text } ∷ []) s → IsOrderReading n session o rest r
    unended : {n session : ℕ} {o : Order} {rest : List ℕ} {r : Read} → session ≤ 15 → takes_block o ≡ true → HasNoBlock rest
        → r ≡ Err (Block n) → IsOrderReading n session o rest r

-- The commands of an answer.
abbrev pub lines_of : Result Script ScriptFault → Read
lines_of (Ok s) = Ok (map asked_of s.lines)
lines_of (Err e) = Err e

-- P of the answer, want of memory aside.
abbrev pub Known : Read → (Read → Type 0) → Type 0
Known (Ok xs) P = P (Ok xs)
Known (Err (Form n)) P = P (Err (Form n))
Known (Err (Session n)) P = P (Err (Session n))
Known (Err (Block n)) P = P (Err (Block n))
Known (Err Memory) P = Unit {0}

-- And of no other answer.
abbrev pub Only : Read → (Read → Type 0) → Type 0
Only r P = Known r (λ a. (b : Read) → P b → b ≡ a)
