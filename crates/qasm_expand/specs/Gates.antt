-- Defining a gate: its body with every name resolved, or the first fault.
use Rattle.std.specs.Prelude.{ℕ, suc, Bool, ◌||◌, not, nat_eq, Option, Some, None, List, [], ◌∷◌, ◌++◌, length, map, bytes_eq, get_or, option_map, Result, Ok, Err, if◌then◌else◌}
use Rattle.qasm_angle.specs.declared.types.Op.{Op}
use Rattle.qasm_angle.specs.declared.types.Op.TheVariants.{Id}
use Rattle.qasm_parse.specs.declared.program.Span.{Span}
use Rattle.qasm_parse.specs.declared.program.Arg.{Arg}
use Rattle.qasm_parse.specs.declared.program.Formula.{Formula}
use Rattle.qasm_parse.specs.declared.program.Call.{Call}
use Rattle.qasm_parse.specs.declared.program.Called.{Called as Word}
use Rattle.qasm_parse.specs.declared.program.Called.TheVariants.{U as UWord, Cx as CxWord, Named}
use Rattle.qasm_parse.specs.declared.program.Inner.{Inner as Stated}
use Rattle.qasm_parse.specs.declared.program.Inner.TheVariants.{Apply, Barrier}
use Rattle.qasm_expand.specs.declared.defs.Called.{Called}
use Rattle.qasm_expand.specs.declared.defs.Called.TheVariants.{U, Cx, Def as ADef}
use Rattle.qasm_expand.specs.declared.defs.Inner.{Inner}
use Rattle.qasm_expand.specs.declared.defs.Def.{Def}
use Rattle.qasm_expand.specs.declared.fault.FaultName.TheVariants.{Unknown, Arity, RepeatedQubit, NoParameter, Redeclared}
use Rattle.qasm_expand.specs.declared.fault.ReadFault.{ReadFault}
use Rattle.qasm_expand.specs.Tables.{Bound, meaning, params_of, args_of, body_size, is_among}
use Rattle.qasm_expand.specs.Checks.{spelled, and_then, or_fault, unless, refuse}

-- the place of a name in a list of names
unfoldable pub place_of : List (List ℕ) → List ℕ → Option ℕ
place_of [] name = None
place_of (w ∷ ws) name = if bytes_eq w name then Some 0 else option_map suc (place_of ws name)

-- the bytes of places
abbrev pub names : List ℕ → List Span → List (List ℕ)
names bytes ps = map (spelled bytes) ps

-- the place, where its name stands before it, or else what comes behind
abbrev pub again : Option ℕ → Span → Option Span → Option Span
again (Some i) p behind = Some p
again None p behind = behind

-- the first place whose name stands before it
unfoldable pub first_again : List ℕ → List (List ℕ) → List Span → Option Span
first_again bytes seen [] = None
first_again bytes seen (p ∷ ps) = again (place_of seen (spelled bytes p)) p (first_again bytes (seen ++ spelled bytes p ∷ []) ps)

-- ---- an application in a body
-- the gate that a word means
abbrev pub called : List ℕ → List Bound → Word → Span → Result Called ReadFault
called bytes bound UWord p = Ok U
called bytes bound CxWord p = Ok Cx
called bytes bound Named p = or_fault Unknown p (option_map ADef (meaning bound (spelled bytes p)))

-- it does not take so many parameters, or so many arguments
abbrev pub wrong_arity : List Def → Called → ℕ → ℕ → Bool
wrong_arity defs gate params args = not (nat_eq params (params_of defs gate)) || not (nat_eq args (args_of defs gate))

abbrev pub before : {A E : Type 0} → A → Result (List A) E → Result (List A) E
before a (Ok rest) = Ok (a ∷ rest)
before a (Err e) = Err e

-- the places of names among the formal arguments
unfoldable pub places : List ℕ → List (List ℕ) → List Span → Result (List ℕ) ReadFault
places bytes formals [] = Ok []
places bytes formals (p ∷ ps) = and_then (or_fault Unknown p (place_of formals (spelled bytes p))) (λ i. before i (places bytes formals ps))

-- the first argument whose place stands before it
unfoldable pub first_repeated : List ℕ → List ℕ → List Span → Option Span
first_repeated seen [] ps = None
first_repeated seen (q ∷ qs) [] = None
first_repeated seen (q ∷ qs) (p ∷ ps) = if is_among q seen then Some p else first_repeated (q ∷ seen) qs ps

-- the places of identifiers among the formal parameters
unfoldable pub numbers : List ℕ → List (List ℕ) → List Span → Result (List ℕ) ReadFault
numbers bytes formals [] = Ok []
numbers bytes formals (p ∷ ps) = and_then (or_fault NoParameter p (place_of formals (spelled bytes p))) (λ i. before i (numbers bytes formals ps))

-- the expression by the numbers of parameters in place of those of its identifiers
abbrev pub renumbered : List ℕ → Op → Op
renumbered is (Id i) = Id (get_or is i 0)
renumbered is op = op

abbrev pub expression : List ℕ → List (List ℕ) → Formula → Result (List Op) ReadFault
expression bytes formals f = and_then (numbers bytes formals f.ids) (λ is. Ok (map (renumbered is) f.expr))

unfoldable pub expressions : List ℕ → List (List ℕ) → List Formula → Result (List (List Op)) ReadFault
expressions bytes formals [] = Ok []
expressions bytes formals (f ∷ fs) = and_then (expression bytes formals f) (λ e. before e (expressions bytes formals fs))

abbrev pub arg_names : List Arg → List Span
arg_names args = map (λ a. a.name) args

-- in order: the gate is known, it takes so many, the arguments are formal ones and different, and the identifiers formal parameters
abbrev pub inner_of : List ℕ → List Def → List Bound → List (List ℕ) → List (List ℕ) → Call → Result Inner ReadFault
inner_of bytes defs bound params args c =
    and_then (called bytes bound c.gate c.at) (λ gate.
    refuse (wrong_arity defs gate (length c.params) (length c.args)) Arity c.at (
    and_then (places bytes args (arg_names c.args)) (λ qs.
    unless RepeatedQubit (first_repeated [] qs (arg_names c.args)) (
    and_then (expressions bytes params c.params) (λ es.
    Ok (record { gate = gate; params = es; args = qs }))))))

-- the applications of a body; a barrier is on formal arguments, and does nothing
unfoldable pub body_of : List ℕ → List Def → List Bound → List (List ℕ) → List (List ℕ) → List Stated → Result (List Inner) ReadFault
body_of bytes defs bound params args [] = Ok []
body_of bytes defs bound params args (Apply c ∷ ss) = and_then (inner_of bytes defs bound params args c) (λ i. before i (body_of bytes defs bound params args ss))
body_of bytes defs bound params args (Barrier ps ∷ ss) = and_then (places bytes args ps) (λ qs. body_of bytes defs bound params args ss)

-- the gate of a definition: no parameter and no argument twice, and the body
abbrev pub def_of : List ℕ → List Def → List Bound → List Span → List Span → List Stated → Result Def ReadFault
def_of bytes defs bound params args body =
    unless Redeclared (first_again bytes [] params) (
    unless Redeclared (first_again bytes [] args) (
    and_then (body_of bytes defs bound (names bytes params) (names bytes args) body) (λ is.
    Ok (record { params = length params; args = length args; size = body_size defs is; body = is }))))
