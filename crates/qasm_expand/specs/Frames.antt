-- Bodies done application by application: words for the contracts inside the crate.
use Rattle.std.specs.Prelude.{◌≡◌, ◌<◌, ℕ, zero, suc, ◌+◌, Option, Some, None, List, [], ◌∷◌, ◌++◌, map, length, drop, reverse, get_or, slice_get, Result, Ok, Err, true}
use Rattle.ps_prim.specs.declared.prims.Primitive.{Primitive as Prim}
use Rattle.ps_prim.specs.declared.prims.Primitive.TheVariants.{U as UPrim}
use Rattle.std.specs.declared.vec.Vec.{Vec}
use Rattle.std.specs.declared.alloc.Global.{Global}
use Rattle.qasm_angle.specs.declared.types.Op.{Op}
use Rattle.qasm_angle.specs.declared.types.Pair.{Pair}
use Rattle.qasm_angle.specs.declared.types.AngleFault.{AngleFault}
use Rattle.qasm_expand.specs.declared.defs.Called.{Called}
use Rattle.qasm_expand.specs.declared.defs.Called.TheVariants.{U, Cx, Def as ADef}
use Rattle.qasm_expand.specs.declared.defs.Inner.{Inner}
use Rattle.qasm_expand.specs.declared.defs.Def.{Def}
use Rattle.qasm_expand.specs.declared.broken.Stop.{Stop}
use Rattle.qasm_expand.specs.declared.broken.Broken.{Broken}
use Rattle.qasm_expand.specs.declared.broken.Broken.TheVariants.{Inside}
use Rattle.qasm_expand.specs.declared.frame.Frame.{Frame}
use Rattle.qasm_expand.specs.declared.frame.Outcome.{Outcome}
use Rattle.qasm_expand.specs.declared.frame.Outcome.TheVariants.{Nothing, Prim as APrim, Body as ABody}
use Rattle.qasm_expand.specs.Tables.{params_of, args_of, is_earlier, all_below, all_different, body_size}
use Rattle.qasm_expand.specs.Bodies.{IsTurn, Each, on_qubits, fault_of, joined, all_on, call, rest, Comes, unless_memory}

-- ---- sound bodies
-- what is known of an application in the body of gate n that takes so many arguments
pub record InnerFits (defs : List Def) (n args : ℕ) (i : Inner) : Type 0 where
  pub earlier : is_earlier n i.gate ≡ true
  pub params : length i.params ≡ params_of defs i.gate
  pub takes : length i.args ≡ args_of defs i.gate
  pub below : all_below args i.args ≡ true
  pub different : all_different i.args ≡ true

abbrev pub BodyFits : List Def → ℕ → ℕ → List Inner → Type 0
BodyFits defs n args [] = Unit {0}
BodyFits defs n args (i ∷ is) = InnerFits defs n args i × BodyFits defs n args is

-- what is known of gate n
pub record DefFits (defs : List Def) (n : ℕ) (g : Def) : Type 0 where
  pub body : BodyFits defs n g.args g.body
  pub size : g.size ≡ body_size defs g.body

-- ---- what is left
abbrev pub body_of_def : Option Def → List Inner
body_of_def (Some d) = d.body
body_of_def None = []

abbrev pub left_of : List Def → Frame → List Inner
left_of defs f = drop f.next (body_of_def (slice_get defs f.def))

pub record FrameFits (defs : List Def) (f : Frame) : Type 0 where
  pub there : f.def < length defs
  pub takes : length f.places.items ≡ args_of defs (ADef f.def)

-- what frames come to, the innermost first
pub data Left (defs : List Def) : List Frame → Result (List Prim) Broken → Type 0 where
  all_done : Left defs [] (Ok [])
  one_done : {f : Frame} {fs : List Frame} {gs : List Prim} {r : Result (List Prim) Broken} → Comes defs f.values.items (rest (left_of defs f)) (Ok gs) → Left defs fs r → Left defs (f ∷ fs) (joined (all_on f.places.items gs) r)
  one_stops : {f : Frame} {fs : List Frame} {x : AngleFault} → Comes defs f.values.items (rest (left_of defs f)) (Err (Inside x)) → Left defs (f ∷ fs) (Err (Inside x))

-- ---- how much there is to do
abbrev pub works : (Called → ℕ) → List Inner → ℕ
works w [] = 0
works w (i ∷ is) = w i.gate + works w is

abbrev pub work : List Def → ℕ → Called → ℕ
work defs n U = 1
work defs n Cx = 1
work defs zero (ADef e) = 1
work defs (suc n) (ADef e) = 2 + works (work defs n) (body_of_def (slice_get defs e))

abbrev pub frame_work : List Def → Frame → ℕ
frame_work defs f = 1 + works (work defs f.def) (left_of defs f)

abbrev pub stack_work : List Def → List Frame → ℕ
stack_work defs [] = 0
stack_work defs (f ∷ fs) = frame_work defs f + stack_work defs fs

-- ---- what a step does
-- the frame of an application's body
pub record Opens (defs : List Def) (f : Frame) (i : Inner) (b : Frame) : Type 0 where
  pub fits : FrameFits defs b
  pub places : b.places.items ≡ map (λ q. get_or f.places.items q 0) i.args
  pub comes : (r : Result (List Prim) Broken) → Comes defs b.values.items (rest (left_of defs b)) r → Comes defs f.values.items (call i.gate i.params) r
  pub smaller : frame_work defs b < work defs f.def i.gate

-- what an application in a frame comes to
abbrev pub Does : List Def → Frame → Inner → Result Outcome AngleFault → Type 0
Does defs f i (Ok Nothing) = Comes defs f.values.items (call i.gate i.params) (Ok [])
Does defs f i (Ok (APrim g)) = (h : Prim) × (g ≡ on_qubits f.places.items (on_qubits i.args h)) × Comes defs f.values.items (call i.gate i.params) (Ok (h ∷ []))
Does defs f i (Ok (ABody b)) = Opens defs f i b
Does defs f i (Err x) = unless_memory x ((b : Broken) × (fault_of b ≡ x) × Comes defs f.values.items (call i.gate i.params) (Err b))

-- the frame of an application's body
abbrev pub OpensTo : List Def → Frame → Inner → Result Frame AngleFault → Type 0
OpensTo defs f i (Ok b) = Opens defs f i b
OpensTo defs f i (Err x) = unless_memory x ((b : Broken) × (fault_of b ≡ x) × Comes defs f.values.items (call i.gate i.params) (Err b))

-- frames, the innermost last, become others, and prims are made
abbrev pub Steps : List Def → List Frame → List Frame → List Prim → List Prim → Result (Unit {0}) AngleFault → Type 0
Steps defs old new out made (Ok _) = (more : List Prim) × (made ≡ out ++ more) × ((r : Result (List Prim) Broken) → Left defs (reverse new) r → Left defs (reverse old) (joined more r))
Steps defs old new out made (Err x) = unless_memory x (Left defs (reverse old) (Err (Inside x)))

-- all that a frame comes to
abbrev pub DoesAll : List Def → Frame → Result (Vec Prim Global) AngleFault → Type 0
DoesAll defs f (Ok v) = Left defs (f ∷ []) (Ok v.items)
DoesAll defs f (Err x) = unless_memory x (Left defs (f ∷ []) (Err (Inside x)))

-- a U with the turns that the expressions come to, on the qubit
abbrev pub Turned : List Pair → List (List Op) → ℕ → Result Prim Stop → Type 0
Turned params es q (Ok g) = (theta phi lambda : ℕ) × (g ≡ UPrim theta phi lambda q) × Each (IsTurn params) es (Ok (theta ∷ phi ∷ lambda ∷ []))
Turned params es q (Err s) = unless_memory s.fault (Each (IsTurn params) es (Err s))

abbrev pub TurnedIn : List Pair → List (List Op) → ℕ → Result Prim AngleFault → Type 0
TurnedIn params es q (Ok g) = (theta phi lambda : ℕ) × (g ≡ UPrim theta phi lambda q) × Each (IsTurn params) es (Ok (theta ∷ phi ∷ lambda ∷ []))
TurnedIn params es q (Err x) = unless_memory x ((s : Stop) × (s.fault ≡ x) × Each (IsTurn params) es (Err s))
