-- The value of an expression, or its first fault.
use Rattle.std.specs.Prelude.{◌≡◌, ◌≤◌, List, length, Some, slice_get, Result, Ok, Err}
use Rattle.qasm_angle.specs.declared.types.Pair.{Pair}
use Rattle.qasm_angle.specs.declared.types.Op.{Op}
use Rattle.qasm_angle.specs.declared.types.Op.TheVariants.{Number, Pi, Id, Add, Sub, Mul, Div, Pow, Func}
use Rattle.qasm_angle.specs.declared.types.AngleFault.{AngleFault}
use Rattle.qasm_angle.specs.declared.types.AngleFault.TheVariants.{NoParameter, Function, Memory}
use Rattle.qasm_angle.specs.Fractions.{NumberIs}
use Rattle.qasm_angle.specs.Pairs.{OnReal, IsPi, IsNegation, IsSum, IsDifference, IsProduct, IsQuotient, IsPower}
use Rattle.qasm_angle.specs.Trees.{wants, Tree, leaf, one, two}

-- the value of an operation without operands; a parameter is found by its place
abbrev pub LeafIs : List Pair → Op → Result Pair AngleFault → Type 0
LeafIs params (Number digits ten) z = OnReal (NumberIs digits ten) z
LeafIs params Pi (Ok x) = IsPi x
LeafIs params (Id i) (Ok x) = slice_get params i ≡ Some x
LeafIs params (Id i) (Err NoParameter) = length params ≤ i
LeafIs params Func (Err Function) = Unit {0}
LeafIs params op z = ⊥

-- the value of an operation of two operands
abbrev pub JoinedIs : Op → Pair → Pair → Result Pair AngleFault → Type 0
JoinedIs Add x y z = IsSum x y z
JoinedIs Sub x y z = IsDifference x y z
JoinedIs Mul x y z = IsProduct x y z
JoinedIs Div x y z = IsQuotient x y z
JoinedIs Pow x y z = IsPower x y z
JoinedIs op x y z = ⊥

-- the operands are evaluated from left to right, and the first fault stands
pub data Values (params : List Pair) : Tree → Result Pair AngleFault → Type 0 where
  leaf_is : {op : Op} {w : wants op ≡ 0} {z : Result Pair AngleFault} → LeafIs params op z → Values params (leaf op w) z
  one_is : {op : Op} {w : wants op ≡ 1} {a : Tree} {x z : Pair} → Values params a (Ok x) → IsNegation x z → Values params (one op w a) (Ok z)
  one_fault : {op : Op} {w : wants op ≡ 1} {a : Tree} {f : AngleFault} → Values params a (Err f) → Values params (one op w a) (Err f)
  two_is : {op : Op} {w : wants op ≡ 2} {a b : Tree} {x y : Pair} {z : Result Pair AngleFault} → Values params a (Ok x) → Values params b (Ok y) → JoinedIs op x y z → Values params (two op w a b) z
  left_fault : {op : Op} {w : wants op ≡ 2} {a b : Tree} {f : AngleFault} → Values params a (Err f) → Values params (two op w a b) (Err f)
  right_fault : {op : Op} {w : wants op ≡ 2} {a b : Tree} {x : Pair} {f : AngleFault} → Values params a (Ok x) → Values params b (Err f) → Values params (two op w a b) (Err f)

-- what was answered, want of memory aside
abbrev pub Told : {A : Type 0} → Result A AngleFault → (Result A AngleFault → Type 0) → Type 0
Told (Err Memory) P = Unit {0}
Told r P = P r
