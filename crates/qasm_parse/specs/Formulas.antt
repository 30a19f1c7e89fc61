-- Expressions of a text.
use Rattle.std.specs.Prelude.{◌≡◌, ℕ, zero, suc, ◌+◌, ◌-◌, ℤ, List, [], ◌∷◌, ◌++◌, get_or}
use Rattle.qasm_lex.specs.declared.types.Token.{Token}
use Rattle.qasm_lex.specs.declared.types.Kind.TheVariants.{Sign}
use Rattle.qasm_angle.specs.declared.types.Op.{Op}
use Rattle.qasm_angle.specs.declared.types.Op.TheVariants.{Number as NumberOp, Pi as PiOp, Id as IdOp, Neg as NegOp, Add as AddOp, Sub as SubOp, Mul as MulOp, Div as DivOp, Pow as PowOp, Func as FuncOp}
use Rattle.qasm_parse.specs.declared.sort.Sort.{Sort}
use Rattle.qasm_parse.specs.declared.sort.Sort.TheVariants.{Id as IdSort}
use Rattle.qasm_parse.specs.declared.sort.Mark.{Mark}
use Rattle.qasm_parse.specs.declared.sort.Mark.TheVariants.{Number, Pi, Id, Neg, Add, Sub, Mul, Div, Pow, Func}
use Rattle.qasm_parse.specs.declared.sort.Level.TheVariants.{Sums}
use Rattle.qasm_parse.specs.declared.program.Span.{Span}
use Rattle.qasm_parse.specs.declared.program.Formula.{Formula}
use Rattle.qasm_parse.specs.declared.fault.ParseFault.{ParseFault}
use Rattle.qasm_parse.specs.Grammar.{at, done, bad, chain, Reads}
use Rattle.qasm_parse.specs.Sorts.{spelling}
use Rattle.qasm_parse.specs.Phrases.{Got, got, miss, span_of}
use Rattle.qasm_parse.specs.Numbers.{IsNumeral}

-- the identifier at a place, where one stands there
abbrev pub id_at : Sort → Span → List Span
id_at IdSort p = p ∷ []
id_at s p = []

-- the identifiers among the next n tokens
unfoldable pub ids : List Token → List Sort → ℕ → ℕ → List Span
ids tk ts i zero = []
ids tk ts i (suc n) = ids tk ts i n ++ id_at (at ts (i + n)) (span_of tk (i + n))

-- how many identifiers stand among the next n tokens
abbrev pub counts : Sort → ℕ
counts IdSort = 1
counts s = 0

unfoldable pub id_count : List Sort → ℕ → ℕ → ℕ
id_count ts i zero = 0
id_count ts i (suc n) = id_count ts i n + counts (at ts (i + n))

-- the bytes of token i, and none past the last
abbrev pub text_at : List ℕ → List Token → ℕ → List ℕ
text_at bytes tk i = spelling bytes (get_or tk i (record { kind = Sign; from = 0; to = 0 }))

-- the operation of a mark, in an expression that begins at token i
pub data OpIs (bytes : List ℕ) (tk : List Token) (ts : List Sort) (i : ℕ) : Mark → Op → Type 0 where
  number_is : {k digits : ℕ} {ten : ℤ} → IsNumeral (text_at bytes tk k) digits ten → OpIs bytes tk ts i (Number k) (NumberOp digits ten)
  id_is : {k n : ℕ} → n ≡ id_count ts i (k - i) → OpIs bytes tk ts i (Id k) (IdOp n)
  pi_is : OpIs bytes tk ts i Pi PiOp
  neg_is : OpIs bytes tk ts i Neg NegOp
  add_is : OpIs bytes tk ts i Add AddOp
  sub_is : OpIs bytes tk ts i Sub SubOp
  mul_is : OpIs bytes tk ts i Mul MulOp
  div_is : OpIs bytes tk ts i Div DivOp
  pow_is : OpIs bytes tk ts i Pow PowOp
  func_is : OpIs bytes tk ts i Func FuncOp

-- and those of marks, one by one
pub data OpsAre (bytes : List ℕ) (tk : List Token) (ts : List Sort) (i : ℕ) : List Mark → List Op → Type 0 where
  no_op : OpsAre bytes tk ts i [] []
  one_op : {m : Mark} {op : Op} {ms : List Mark} {ops : List Op} → OpIs bytes tk ts i m op → OpsAre bytes tk ts i ms ops → OpsAre bytes tk ts i (m ∷ ms) (op ∷ ops)

-- An expression from token i on, with at most 128 constructs open: its operations, all its identifiers, and its first byte.
pub data IsFormula (bytes : List ℕ) (tk : List Token) (ts : List Sort) (i : ℕ) : Got Formula → Type 0 where
  formula : {j : ℕ} {ms : List Mark} {f : Formula} → Reads ts (chain Sums) 128 i (done ms j) → OpsAre bytes tk ts i ms f.expr → f.ids ≡ ids tk ts i (j - i) → f.from ≡ (span_of tk i).from → IsFormula bytes tk ts i (got f j)
  no_formula : {f : ParseFault} → Reads ts (chain Sums) 128 i (bad f) → IsFormula bytes tk ts i (miss f)
