-- What applications come to: prims on the places of their arguments.
use Rattle.std.specs.Prelude.{◌≡◌, ◌≢◌, ℕ, suc, Some, List, [], ◌∷◌, ◌++◌, map, get_or, slice_get, Result, Ok, Err}
use Rattle.ps_prim.specs.declared.prims.Primitive.{Primitive as Prim}
use Rattle.ps_prim.specs.declared.prims.Primitive.TheVariants.{U as UPrim, Cx as CxPrim}
use Rattle.qasm_angle.specs.declared.types.Op.{Op}
use Rattle.qasm_angle.specs.declared.types.Pair.{Pair}
use Rattle.std.specs.declared.vec.Vec.{Vec}
use Rattle.std.specs.declared.alloc.Global.{Global}
use Rattle.qasm_angle.specs.declared.types.AngleFault.{AngleFault}
use Rattle.qasm_angle.specs.declared.types.AngleFault.TheVariants.{NotDyadic, AngleRange, NoParameter, Function, ByZero, Memory}
use Rattle.qasm_angle.specs.Trees.{Tree, postfix}
use Rattle.qasm_angle.specs.Values.{Values}
use Rattle.qasm_angle.specs.Angles.{IsAngle}
use Rattle.qasm_expand.specs.declared.defs.Called.{Called}
use Rattle.qasm_expand.specs.declared.defs.Called.TheVariants.{U, Cx, Def as ADef}
use Rattle.qasm_expand.specs.declared.defs.Inner.{Inner}
use Rattle.qasm_expand.specs.declared.defs.Def.{Def}
use Rattle.qasm_expand.specs.declared.broken.Stop.{Stop}
use Rattle.qasm_expand.specs.declared.broken.Broken.{Broken}
use Rattle.qasm_expand.specs.declared.broken.Broken.TheVariants.{Own, Inside}
use Rattle.qasm_expand.specs.Tables.{size_of}

-- ---- expressions
-- the value of an expression with these parameters, or its first fault
abbrev pub IsValue : List Pair → List Op → Result Pair AngleFault → Type 0
IsValue params ops r = (t : Tree) × (postfix t ≡ ops) × Values params t r

-- its value as an angle
pub data IsTurn (params : List Pair) (ops : List Op) : Result ℕ AngleFault → Type 0 where
  angle : {x : Pair} {r : Result ℕ AngleFault} → IsValue params ops (Ok x) → IsAngle x r → IsTurn params ops r
  no_turn : {f : AngleFault} → IsValue params ops (Err f) → IsTurn params ops (Err f)

abbrev pub behind_one : {X : Type 0} → X → Result (List X) Stop → Result (List X) Stop
behind_one x (Ok xs) = Ok (x ∷ xs)
behind_one x (Err s) = Err (record { at = suc s.at; fault = s.fault })

-- expressions one by one, each as Is says, up to the first fault, which is told with the number of its expression
pub data Each {X : Type 0} (Is : List Op → Result X AngleFault → Type 0) : List (List Op) → Result (List X) Stop → Type 0 where
  none : Each Is [] (Ok [])
  one : {e : List Op} {es : List (List Op)} {x : X} {r : Result (List X) Stop} → Is e (Ok x) → Each Is es r → Each Is (e ∷ es) (behind_one x r)
  stops : {e : List Op} {es : List (List Op)} {f : AngleFault} → Is e (Err f) → Each Is (e ∷ es) (Err (record { at = 0; fault = f }))

-- ---- replacing
-- the prim on qubits in place of places
abbrev pub on_qubits : List ℕ → Prim → Prim
on_qubits qs (UPrim theta phi lambda q) = UPrim theta phi lambda (get_or qs q 0)
on_qubits qs (CxPrim c t) = CxPrim (get_or qs c 0) (get_or qs t 0)

abbrev pub all_on : List ℕ → List Prim → List Prim
all_on qs gs = map (on_qubits qs) gs

-- ---- applications
abbrev pub fault_of : Broken → AngleFault
fault_of (Own s) = s.fault
fault_of (Inside f) = f

-- prims before what comes behind them
abbrev pub joined : List Prim → Result (List Prim) Broken → Result (List Prim) Broken
joined gs (Ok hs) = Ok (gs ++ hs)
joined gs (Err b) = Err b

-- what comes to prims: an application with its expressions, or applications of a body
pub data Job : Type 0 where
  call : Called → List (List Op) → Job
  rest : List Inner → Job

-- With these parameters the job comes to prims on the places of the arguments. In a body each application has its
-- parameters replaced by their values and its arguments by theirs. An application that comes to no prim is passed over whole.
pub data Comes (defs : List Def) : List Pair → Job → Result (List Prim) Broken → Type 0 where
  nothing : {params : List Pair} {gate : Called} {es : List (List Op)} → size_of defs gate ≡ 0 → Comes defs params (call gate es) (Ok [])
  universal : {params : List Pair} {es : List (List Op)} {theta phi lambda : ℕ} → Each (IsTurn params) es (Ok (theta ∷ phi ∷ lambda ∷ [])) → Comes defs params (call U es) (Ok (UPrim theta phi lambda 0 ∷ []))
  no_angle : {params : List Pair} {es : List (List Op)} {s : Stop} → Each (IsTurn params) es (Err s) → Comes defs params (call U es) (Err (Own s))
  controlled : {params : List Pair} → Comes defs params (call Cx []) (Ok (CxPrim 0 1 ∷ []))
  replaced : {params values : List Pair} {d : ℕ} {g : Def} {es : List (List Op)} {r : Result (List Prim) Broken} → g.size ≢ 0 → slice_get defs d ≡ Some g
      → Each (IsValue params) es (Ok values) → Comes defs values (rest g.body) r → Comes defs params (call (ADef d) es) r
  no_value : {params : List Pair} {d : ℕ} {g : Def} {es : List (List Op)} {s : Stop} → g.size ≢ 0 → slice_get defs d ≡ Some g
      → Each (IsValue params) es (Err s) → Comes defs params (call (ADef d) es) (Err (Own s))
  ended : {params : List Pair} → Comes defs params (rest []) (Ok [])
  applied : {params : List Pair} {i : Inner} {is : List Inner} {gs : List Prim} {r : Result (List Prim) Broken} → Comes defs params (call i.gate i.params) (Ok gs) → Comes defs params (rest is) r → Comes defs params (rest (i ∷ is)) (joined (all_on i.args gs) r)
  broken : {params : List Pair} {i : Inner} {is : List Inner} {b : Broken} → Comes defs params (call i.gate i.params) (Err b) → Comes defs params (rest (i ∷ is)) (Err (Inside (fault_of b)))

-- ---- what was answered
-- want of memory aside
abbrev pub unless_memory : AngleFault → Type 0 → Type 0
unless_memory NotDyadic P = P
unless_memory AngleRange P = P
unless_memory NoParameter P = P
unless_memory Function P = P
unless_memory ByZero P = P
unless_memory Memory P = Unit {0}

abbrev pub Answers : {X : Type 0} → Result (Vec X Global) Stop → (Result (List X) Stop → Type 0) → Type 0
Answers (Ok v) P = P (Ok v.items)
Answers (Err s) P = unless_memory s.fault (P (Err s))

abbrev pub Tells : Result (Vec Prim Global) Broken → (Result (List Prim) Broken → Type 0) → Type 0
Tells (Ok v) P = P (Ok v.items)
Tells (Err b) P = unless_memory (fault_of b) (P (Err b))
