-- Expressions, as their operations nest.
use Rattle.std.specs.Prelude.{◌≡◌, ℕ, List, [], ◌∷◌, ◌++◌}
use Rattle.qasm_angle.specs.declared.types.Op.{Op}
use Rattle.qasm_angle.specs.declared.types.Op.TheVariants.{Number, Pi, Id, Neg, Add, Sub, Mul, Div, Pow, Func}

-- how many operands an operation takes
abbrev pub wants : Op → ℕ
wants (Number digits ten) = 0
wants Pi = 0
wants (Id i) = 0
wants Func = 0
wants Neg = 1
wants Add = 2
wants Sub = 2
wants Mul = 2
wants Div = 2
wants Pow = 2

-- an operation and its operands
pub data Tree : Type 0 where
  leaf : (op : Op) → wants op ≡ 0 → Tree
  one : (op : Op) → wants op ≡ 1 → Tree → Tree
  two : (op : Op) → wants op ≡ 2 → Tree → Tree → Tree

-- the operations in postfix order, each behind its operands
abbrev pub postfix : Tree → List Op
postfix (leaf op _) = op ∷ []
postfix (one op _ a) = postfix a ++ (op ∷ [])
postfix (two op _ a b) = postfix a ++ (postfix b ++ (op ∷ []))

-- the operations are one whole expression in postfix order
abbrev pub IsExpression : List Op → Type 0
IsExpression ops = (t : Tree) × (postfix t ≡ ops)
