-- Operations done one after another on a stack: words for the contracts inside the crate.
use Rattle.std.specs.Prelude.{◌≡◌, ℕ, ◌+◌, ◌-◌, Bool, ◌&&◌, nat_eq, nat_le, List, [], ◌∷◌, Result, Ok, Err}
use Rattle.qasm_angle.specs.declared.types.Pair.{Pair}
use Rattle.qasm_angle.specs.declared.types.Op.{Op}
use Rattle.qasm_angle.specs.declared.types.AngleFault.{AngleFault}
use Rattle.qasm_angle.specs.declared.types.AngleFault.TheVariants.{Memory}
use Rattle.qasm_angle.specs.Pairs.{IsNegation}
use Rattle.qasm_angle.specs.Trees.{wants}
use Rattle.qasm_angle.specs.Values.{LeafIs, JoinedIs}

-- with so many operands on the stack the operations find theirs, and leave one
abbrev pub leaves_one : List Op → ℕ → Bool
leaves_one [] h = nat_eq h 1
leaves_one (op ∷ ops) h = nat_le (wants op) h && leaves_one ops (h + 1 - wants op)

-- what comes of operations on a stack, its top first
pub data Runs (params : List Pair) : List Op → List Pair → Result Pair AngleFault → Type 0 where
  ended : {x : Pair} → Runs params [] (x ∷ []) (Ok x)
  leaf_on : {op : Op} {ops : List Op} {st : List Pair} {x : Pair} {o : Result Pair AngleFault} → wants op ≡ 0 → LeafIs params op (Ok x) → Runs params ops (x ∷ st) o → Runs params (op ∷ ops) st o
  leaf_off : {op : Op} {ops : List Op} {st : List Pair} {f : AngleFault} → wants op ≡ 0 → LeafIs params op (Err f) → Runs params (op ∷ ops) st (Err f)
  one_on : {op : Op} {ops : List Op} {st : List Pair} {x z : Pair} {o : Result Pair AngleFault} → wants op ≡ 1 → IsNegation x z → Runs params ops (z ∷ st) o → Runs params (op ∷ ops) (x ∷ st) o
  two_on : {op : Op} {ops : List Op} {st : List Pair} {x y z : Pair} {o : Result Pair AngleFault} → wants op ≡ 2 → JoinedIs op x y (Ok z) → Runs params ops (z ∷ st) o → Runs params (op ∷ ops) (y ∷ (x ∷ st)) o
  two_off : {op : Op} {ops : List Op} {st : List Pair} {x y : Pair} {f : AngleFault} → wants op ≡ 2 → JoinedIs op x y (Err f) → Runs params (op ∷ ops) (y ∷ (x ∷ st)) (Err f)

-- what an operation makes of a stack, whatever comes after it
abbrev pub Stepped : List Pair → Op → List Pair → List Pair → Result (Unit {0}) AngleFault → Type 0
Stepped params op old new (Ok _) = (rest : List Op) (o : Result Pair AngleFault) → Runs params rest new o → Runs params (op ∷ rest) old o
Stepped params op old new (Err Memory) = Unit {0}
Stepped params op old new (Err f) = (rest : List Op) → Runs params (op ∷ rest) old (Err f)
