-- The arguments of applications: qubits, and registers taken index by index.
use Rattle.std.specs.Prelude.{ℕ, zero, suc, ◌+◌, ◌≡◌, Bool, ◌||◌, not, nat_eq, nat_le, nat_lt, Option, Some, None, List, [], ◌∷◌, map, length, Result, Ok, Err, if◌then◌else◌}
use Rattle.ps_prim.specs.declared.prims.Primitive.{Primitive as Prim}
use Rattle.qasm_angle.specs.declared.types.Op.{Op}
use Rattle.qasm_parse.specs.declared.program.Span.{Span}
use Rattle.qasm_parse.specs.declared.program.Arg.{Arg}
use Rattle.qasm_parse.specs.declared.program.Formula.{Formula}
use Rattle.qasm_parse.specs.declared.program.Call.{Call}
use Rattle.qasm_expand.specs.declared.defs.Called.{Called}
use Rattle.qasm_expand.specs.declared.defs.Def.{Def}
use Rattle.qasm_expand.specs.declared.broken.Broken.{Broken}
use Rattle.qasm_expand.specs.declared.broken.Broken.TheVariants.{Own, Inside}
use Rattle.qasm_expand.specs.declared.target.Target.{Target}
use Rattle.qasm_expand.specs.declared.target.Target.TheVariants.{Single, Whole}
use Rattle.qasm_expand.specs.declared.target.Aimed.{Aimed}
use Rattle.qasm_expand.specs.declared.fault.FaultName.TheVariants.{Unknown, Arity, Range, Sizes, RepeatedQubit, TooMany}
use Rattle.qasm_expand.specs.declared.fault.ReadFault.{ReadFault}
use Rattle.qasm_expand.specs.Tables.{Register, Bound, register_of, size_of, is_among}
use Rattle.qasm_expand.specs.Checks.{spelled, number_at, and_then, fault, unless, refuse, of_angle}
use Rattle.qasm_expand.specs.Gates.{called, wrong_arity, arg_names, before}
use Rattle.qasm_expand.specs.Bodies.{call, Comes, all_on}

-- the argument of a register: the register, or its place of this number
abbrev pub indexed : Register → List ℕ → Span → Option Span → Result Target ReadFault
indexed r bytes name None = Ok (Whole r.first r.size)
indexed r bytes name (Some p) = refuse (nat_le r.size (number_at bytes p)) Range name (Ok (Single (r.first + number_at bytes p)))

-- no register is there, or it is not of qubits
abbrev pub of_register : Option Register → List ℕ → Arg → Result Target ReadFault
of_register None bytes a = fault Unknown a.name
of_register (Some r) bytes a = refuse (not r.quantum) Unknown a.name (indexed r bytes a.name a.index)

abbrev pub target_of : List ℕ → List Register → Arg → Result Target ReadFault
target_of bytes registers a = of_register (register_of registers (spelled bytes a.name)) bytes a

unfoldable pub targets_of : List ℕ → List Register → List Arg → Result (List Target) ReadFault
targets_of bytes registers [] = Ok []
targets_of bytes registers (a ∷ args) = and_then (target_of bytes registers a) (λ t. before t (targets_of bytes registers args))

-- the first register whose size is not that of the registers before it
unfoldable pub first_uneven : Option ℕ → List Target → List Span → Option Span
first_uneven size [] ps = None
first_uneven size (t ∷ ts) [] = None
first_uneven size (Single q ∷ ts) (p ∷ ps) = first_uneven size ts ps
first_uneven None (Whole q n ∷ ts) (p ∷ ps) = first_uneven (Some n) ts ps
first_uneven (Some m) (Whole q n ∷ ts) (p ∷ ps) = if nat_eq m n then first_uneven (Some m) ts ps else Some p

-- how often the gate is applied: as often as a register has places, or once
unfoldable pub index_count : List Target → ℕ
index_count [] = 1
index_count (Single q ∷ ts) = index_count ts
index_count (Whole q n ∷ ts) = n

-- the qubits at an index; a single one is repeated
abbrev pub qubit_at : ℕ → Target → ℕ
qubit_at i (Single q) = q
qubit_at i (Whole q n) = q + i

abbrev pub qubits_at : List Target → ℕ → List ℕ
qubits_at ts i = map (qubit_at i) ts

-- the first qubit that stands before it, at the place of its argument
unfoldable pub repeat_at : List ℕ → List ℕ → List Span → Option Span
repeat_at seen [] ps = None
repeat_at seen (q ∷ qs) [] = None
repeat_at seen (q ∷ qs) (p ∷ ps) = if is_among q seen then Some p else repeat_at (q ∷ seen) qs ps

abbrev pub or_else : {A : Type 0} → Option A → Option A → Option A
or_else (Some a) o = Some a
or_else None o = o

-- of so many indices from i on, the first with a repeated qubit
unfoldable pub repeat_from : List Target → List Span → ℕ → ℕ → Option Span
repeat_from ts ps i zero = None
repeat_from ts ps i (suc n) = or_else (repeat_at [] (qubits_at ts i) ps) (repeat_from ts ps (i + 1) n)

-- the prims of the gate are more than 4,096, or the items more than 65,536, with so many there already
abbrev pub too_many : List Def → Called → ℕ → ℕ → Bool
too_many defs gate made more = nat_lt 4096 (size_of defs gate) || nat_lt 65536 (made + more)

-- in order: the gate is known, it takes so many, the arguments are there, the sizes of registers agree, no index has a
-- qubit twice, and the prims and items are not too many
abbrev pub aimed : List ℕ → List Register → List Def → List Bound → ℕ → Call → Result Aimed ReadFault
aimed bytes registers defs bound made c =
    and_then (called bytes bound c.gate c.at) (λ gate.
    refuse (wrong_arity defs gate (length c.params) (length c.args)) Arity c.at (
    and_then (targets_of bytes registers c.args) (λ ts.
    unless Sizes (first_uneven None ts (arg_names c.args)) (
    unless RepeatedQubit (repeat_from ts (arg_names c.args) 0 (index_count ts)) (
    refuse (too_many defs gate made (index_count ts)) TooMany c.at (
    Ok (record { gate = gate; targets = ts })))))))

-- an item for each index, so many from i on
unfoldable pub items_from : List Prim → List Target → ℕ → ℕ → List (List Prim)
items_from gs ts i zero = []
items_from gs ts i (suc n) = all_on (qubits_at ts i) gs ∷ items_from gs ts (i + 1) n

-- the first byte of an expression, and 0 past the last
unfoldable pub expression_at : List Formula → ℕ → ℕ
expression_at [] k = 0
expression_at (f ∷ fs) zero = f.from
expression_at (f ∷ fs) (suc k) = expression_at fs k

-- a fault of an expression is at its first byte, and one inside a body at the gate
abbrev pub broken_at : Call → Broken → ReadFault
broken_at c (Own s) = of_angle s.fault (expression_at c.params s.at)
broken_at c (Inside f) = of_angle f c.at.from

abbrev pub items_or_fault : Call → List Target → Result (List Prim) Broken → Result (List (List Prim)) ReadFault
items_or_fault c ts (Ok gs) = Ok (items_from gs ts 0 (index_count ts))
items_or_fault c ts (Err b) = Err (broken_at c b)

abbrev pub exprs_of : List Formula → List (List Op)
exprs_of fs = map (λ f. f.expr) fs

-- the items of an application, with so many there already; outside bodies no identifier is a parameter
pub data Applies (bytes : List ℕ) (registers : List Register) (defs : List Def) (bound : List Bound) (made : ℕ) (c : Call) : Result (List (List Prim)) ReadFault → Type 0 where
  missed : {f : ReadFault} → aimed bytes registers defs bound made c ≡ Err f → Applies bytes registers defs bound made c (Err f)
  applies : {a : Aimed} {r : Result (List Prim) Broken} → aimed bytes registers defs bound made c ≡ Ok a → Comes defs [] (call a.gate (exprs_of c.params)) r → Applies bytes registers defs bound made c (items_or_fault c a.targets r)
