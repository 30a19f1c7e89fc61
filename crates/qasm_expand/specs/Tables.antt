-- Registers, gates and bound names.
use Rattle.std.specs.Prelude.{ℕ, ◌+◌, Bool, true, false, ◌&&◌, not, nat_eq, nat_le, nat_lt, min, Option, Some, None, List, [], ◌∷◌, ◌++◌, length, slice_get, bytes_eq, if◌then◌else◌}
use Rattle.qasm_angle.specs.declared.types.Op.{Op}
use Rattle.qasm_angle.specs.declared.types.Op.TheVariants.{Id}
use Rattle.qasm_expand.specs.declared.defs.Called.{Called}
use Rattle.qasm_expand.specs.declared.defs.Called.TheVariants.{U, Cx, Def as ADef}
use Rattle.qasm_expand.specs.declared.defs.Inner.{Inner}
use Rattle.qasm_expand.specs.declared.defs.Def.{Def}

-- a register: its name, whether it is of qubits, its first qubit (0 where it is not) and its size
pub record Register : Type 0 where
  pub name : List ℕ
  pub quantum : Bool
  pub first : ℕ
  pub size : ℕ

-- a name and the gate that it means
pub record Bound : Type 0 where
  pub name : List ℕ
  pub def : ℕ

-- the register of a name
unfoldable pub register_of : List Register → List ℕ → Option Register
register_of [] name = None
register_of (r ∷ rs) name = if bytes_eq r.name name then Some r else register_of rs name

-- the gate that a name means
unfoldable pub meaning : List Bound → List ℕ → Option ℕ
meaning [] name = None
meaning (b ∷ bs) name = if bytes_eq b.name name then Some b.def else meaning bs name

-- the name means the gate from now on: in its place where it was bound before, else as the last
unfoldable pub rebound : List Bound → List ℕ → ℕ → List Bound
rebound [] name def = record { name = name; def = def } ∷ []
rebound (b ∷ bs) name def = if bytes_eq b.name name then record { name = name; def = def } ∷ bs else b ∷ rebound bs name def

-- how many qubits the registers have
abbrev pub qubits_in : Register → ℕ
qubits_in r = if r.quantum then r.size else 0

unfoldable pub qubit_count : List Register → ℕ
qubit_count [] = 0
qubit_count (r ∷ rs) = qubits_in r + qubit_count rs

-- ---- what a gate takes, and what it comes to
abbrev pub params_of_def : Option Def → ℕ
params_of_def (Some d) = d.params
params_of_def None = 0

abbrev pub args_of_def : Option Def → ℕ
args_of_def (Some d) = d.args
args_of_def None = 0

abbrev pub size_of_def : Option Def → ℕ
size_of_def (Some d) = d.size
size_of_def None = 0

-- how many parameters, and how many arguments
abbrev pub params_of : List Def → Called → ℕ
params_of defs U = 3
params_of defs Cx = 0
params_of defs (ADef d) = params_of_def (slice_get defs d)

abbrev pub args_of : List Def → Called → ℕ
args_of defs U = 1
args_of defs Cx = 2
args_of defs (ADef d) = args_of_def (slice_get defs d)

-- how many prims, told as 4,097 where they are more than 4,096
abbrev pub size_of : List Def → Called → ℕ
size_of defs U = 1
size_of defs Cx = 1
size_of defs (ADef d) = size_of_def (slice_get defs d)

unfoldable pub prim_count : List Def → List Inner → ℕ
prim_count defs [] = 0
prim_count defs (i ∷ is) = size_of defs i.gate + prim_count defs is

abbrev pub body_size : List Def → List Inner → ℕ
body_size defs is = min (prim_count defs is) 4097

-- ---- what a table keeps
unfoldable pub is_among : ℕ → List ℕ → Bool
is_among q [] = false
is_among q (p ∷ ps) = if nat_eq q p then true else is_among q ps

unfoldable pub all_different : List ℕ → Bool
all_different [] = true
all_different (q ∷ qs) = not (is_among q qs) && all_different qs

unfoldable pub all_below : ℕ → List ℕ → Bool
all_below n [] = true
all_below n (q ∷ qs) = nat_lt q n && all_below n qs

unfoldable pub op_below : ℕ → Op → Bool
op_below n (Id i) = nat_lt i n
op_below n op = true

unfoldable pub ops_below : ℕ → List Op → Bool
ops_below n [] = true
ops_below n (op ∷ ops) = op_below n op && ops_below n ops

unfoldable pub exprs_below : ℕ → List (List Op) → Bool
exprs_below n [] = true
exprs_below n (e ∷ es) = ops_below n e && exprs_below n es

-- the gate stands among the first n
unfoldable pub is_earlier : ℕ → Called → Bool
is_earlier n U = true
is_earlier n Cx = true
is_earlier n (ADef d) = nat_lt d n

-- an application in the body of a gate that takes so many parameters and arguments, where these gates stand before it
unfoldable pub inner_sound : List Def → ℕ → ℕ → Inner → Bool
inner_sound defs params args i = is_earlier (length defs) i.gate
    && (nat_eq (length i.params) (params_of defs i.gate) && (exprs_below params i.params
    && (nat_eq (length i.args) (args_of defs i.gate) && (all_below args i.args && all_different i.args))))

unfoldable pub body_sound : List Def → ℕ → ℕ → List Inner → Bool
body_sound defs params args [] = true
body_sound defs params args (i ∷ is) = inner_sound defs params args i && body_sound defs params args is

abbrev pub def_sound : List Def → Def → Bool
def_sound defs d = body_sound defs d.params d.args d.body && nat_eq d.size (body_size defs d.body)

-- each gate behind the others is sound
unfoldable pub defs_sound_from : List Def → List Def → Bool
defs_sound_from before [] = true
defs_sound_from before (d ∷ ds) = def_sound before d && defs_sound_from (before ++ d ∷ []) ds

abbrev pub defs_sound : List Def → Bool
defs_sound defs = defs_sound_from [] defs

-- each name means one of the first n gates
unfoldable pub bound_sound : ℕ → List Bound → Bool
bound_sound n [] = true
bound_sound n (b ∷ bs) = nat_lt b.def n && bound_sound n bs

-- the quantum registers follow each other from this qubit on, each with a place, and classical ones have no first qubit
unfoldable pub registers_follow : ℕ → List Register → Bool
registers_follow from [] = true
registers_follow from (r ∷ rs) = nat_eq r.first (if r.quantum then from else 0) && (nat_lt 0 r.size && registers_follow (from + qubits_in r) rs)

abbrev pub registers_sound : List Register → Bool
registers_sound rs = registers_follow 0 rs && nat_le (qubit_count rs) 64
