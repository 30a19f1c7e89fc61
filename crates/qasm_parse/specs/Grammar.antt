-- Expressions, on terminals.
use Rattle.std.specs.Prelude.{◌≡◌, ◌≢◌, ℕ, ◌+◌, ◌-◌, ◌<◌, ◌≤◌, List, [], ◌∷◌, ◌++◌, length, get_or, Option, Some, None, Result, Ok, Err}
use Rattle.qasm_parse.specs.declared.sort.Sort.{Sort}
use Rattle.qasm_parse.specs.declared.sort.Sort.TheVariants.{End, Pi, Function, Id, Whole, Decimal, Open, Close, Plus, Minus, Times, Over, Power}
use Rattle.qasm_parse.specs.declared.sort.Mark.{Mark}
use Rattle.qasm_parse.specs.declared.sort.Mark.TheVariants.{Number as NumberOp, Pi as PiOp, Id as IdOp, Neg, Add, Sub, Mul, Div, Pow, Func}
use Rattle.qasm_parse.specs.declared.sort.Level.{Level}
use Rattle.qasm_parse.specs.declared.sort.Level.TheVariants.{Sums, Products}
use Rattle.qasm_parse.specs.declared.fault.ParseFault.{ParseFault}
use Rattle.qasm_parse.specs.declared.fault.ParseFault.TheVariants.{Syntax, Deep, Memory}

-- the terminal at a place, and End past the last
abbrev pub at : List Sort → ℕ → Sort
at ts i = get_or ts i End

-- what a chain's operands are joined by
abbrev pub sign_of : Level → Sort → Option Mark
sign_of Sums Plus = Some Add
sign_of Sums Minus = Some Sub
sign_of Products Times = Some Mul
sign_of Products Over = Some Div
sign_of level s = None

-- the operation of an atom of one terminal
abbrev pub leaf_of : Sort → ℕ → Option Mark
leaf_of Whole i = Some (NumberOp i)
leaf_of Decimal i = Some (NumberOp i)
leaf_of Pi i = Some PiOp
leaf_of Id i = Some (IdOp i)
leaf_of s i = None

-- what is read from a place on: operations in postfix order and the place behind them, or the first fault
pub data Found : Type 0 where
  done : List Mark → ℕ → Found
  bad : ParseFault → Found

-- operations before what is found behind them, and one behind them
abbrev pub front : List Mark → Found → Found
front es (done fs j) = done (es ++ fs) j
front es (bad f) = bad f

abbrev pub behind : Found → Mark → Found
behind (done es j) e = done (es ++ (e ∷ [])) j
behind (bad f) e = bad f

-- the parts of an expression: a chain and what may follow its first operand, a signed operand, a power, an atom
pub data Part : Type 0 where
  chain : Level → Part
  tail : Level → Part
  signed : Part
  power : Part
  atom : Part

-- expr = product { (+ | -) product }, product = signed { (* | /) signed }
abbrev pub operand : Level → Part
operand Sums = chain Products
operand Products = signed

-- Reads ts part room i found: with so many room, the part from place i on is what is found.
pub data Reads (ts : List Sort) : Part → ℕ → ℕ → Found → Type 0 where
  chained : {level : Level} {room i j : ℕ} {es : List Mark} {r : Found} → Reads ts (operand level) room i (done es j) → Reads ts (tail level) room j r → Reads ts (chain level) room i (front es r)
  chained_bad : {level : Level} {room i : ℕ} {f : ParseFault} → Reads ts (operand level) room i (bad f) → Reads ts (chain level) room i (bad f)
  more : {level : Level} {room i j : ℕ} {e : Mark} {es : List Mark} {r : Found} → sign_of level (at ts i) ≡ Some e → Reads ts (operand level) room (i + 1) (done es j) → Reads ts (tail level) room j r → Reads ts (tail level) room i (front (es ++ (e ∷ [])) r)
  more_bad : {level : Level} {room i : ℕ} {e : Mark} {f : ParseFault} → sign_of level (at ts i) ≡ Some e → Reads ts (operand level) room (i + 1) (bad f) → Reads ts (tail level) room i (bad f)
  stop : {level : Level} {room i : ℕ} → sign_of level (at ts i) ≡ None → Reads ts (tail level) room i (done [] i)
  -- signed = - signed | power
  negated : {room i : ℕ} {r : Found} → at ts i ≡ Minus → 0 < room → Reads ts signed (room - 1) (i + 1) r → Reads ts signed room i (behind r Neg)
  negated_deep : {room i : ℕ} → at ts i ≡ Minus → room ≡ 0 → Reads ts signed room i (bad (Deep i))
  unsigned : {room i : ℕ} {r : Found} → at ts i ≢ Minus → Reads ts power room i r → Reads ts signed room i r
  -- power = atom [ ^ signed ]
  based : {room i j : ℕ} {es : List Mark} → Reads ts atom room i (done es j) → at ts j ≢ Power → Reads ts power room i (done es j)
  based_bad : {room i : ℕ} {f : ParseFault} → Reads ts atom room i (bad f) → Reads ts power room i (bad f)
  raised : {room i j : ℕ} {es : List Mark} {r : Found} → Reads ts atom room i (done es j) → at ts j ≡ Power → 0 < room → Reads ts signed (room - 1) (j + 1) r → Reads ts power room i (front es (behind r Pow))
  raised_deep : {room i j : ℕ} {es : List Mark} → Reads ts atom room i (done es j) → at ts j ≡ Power → room ≡ 0 → Reads ts power room i (bad (Deep j))
  -- atom = number | pi | id | ( expr ) | function ( expr )
  leaf : {room i : ℕ} {e : Mark} → leaf_of (at ts i) i ≡ Some e → Reads ts atom room i (done (e ∷ []) (i + 1))
  grouped : {room i j : ℕ} {es : List Mark} → at ts i ≡ Open → 0 < room → Reads ts (chain Sums) (room - 1) (i + 1) (done es j) → at ts j ≡ Close → Reads ts atom room i (done es (j + 1))
  grouped_open : {room i j : ℕ} {es : List Mark} → at ts i ≡ Open → 0 < room → Reads ts (chain Sums) (room - 1) (i + 1) (done es j) → at ts j ≢ Close → Reads ts atom room i (bad (Syntax j))
  grouped_bad : {room i : ℕ} {f : ParseFault} → at ts i ≡ Open → 0 < room → Reads ts (chain Sums) (room - 1) (i + 1) (bad f) → Reads ts atom room i (bad f)
  grouped_deep : {room i : ℕ} → at ts i ≡ Open → room ≡ 0 → Reads ts atom room i (bad (Deep i))
  called : {room i j : ℕ} {es : List Mark} → at ts i ≡ Function → 0 < room → at ts (i + 1) ≡ Open → Reads ts (chain Sums) (room - 1) (i + 2) (done es j) → at ts j ≡ Close → Reads ts atom room i (done (Func ∷ []) (j + 1))
  called_open : {room i j : ℕ} {es : List Mark} → at ts i ≡ Function → 0 < room → at ts (i + 1) ≡ Open → Reads ts (chain Sums) (room - 1) (i + 2) (done es j) → at ts j ≢ Close → Reads ts atom room i (bad (Syntax j))
  called_bad : {room i : ℕ} {f : ParseFault} → at ts i ≡ Function → 0 < room → at ts (i + 1) ≡ Open → Reads ts (chain Sums) (room - 1) (i + 2) (bad f) → Reads ts atom room i (bad f)
  called_short : {room i : ℕ} → at ts i ≡ Function → 0 < room → at ts (i + 1) ≢ Open → Reads ts atom room i (bad (Syntax (i + 1)))
  called_deep : {room i : ℕ} → at ts i ≡ Function → room ≡ 0 → Reads ts atom room i (bad (Deep i))
  wrong : {room i : ℕ} → leaf_of (at ts i) i ≡ None → at ts i ≢ Open → at ts i ≢ Function → Reads ts atom room i (bad (Syntax i))

-- What a function answered that reads a part and puts its operations behind old ones, want of memory aside.
abbrev pub Answers : List Sort → Part → ℕ → ℕ → List Mark → List Mark → Result ℕ ParseFault → Type 0
Answers ts part room i old new (Ok j) = (es : List Mark) × (new ≡ old ++ es) × Reads ts part room i (done es j)
Answers ts part room i old new (Err Memory) = Unit {0}
Answers ts part room i old new (Err f) = Reads ts part room i (bad f)

-- it goes on, and not past the end
abbrev pub GoesOn : List Sort → ℕ → Result ℕ ParseFault → Type 0
GoesOn ts i (Ok j) = (i < j) × (j ≤ length ts)
GoesOn ts i (Err f) = Unit {0}
