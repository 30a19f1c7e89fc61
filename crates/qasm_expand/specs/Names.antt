-- Lists of names as they are kept, what a step over a body does, and what a call answered.
use Rattle.std.specs.Prelude.{◌≡◌, ℕ, Option, Some, None, List, ◌∷◌, ◌++◌, Result, Ok, Err}
use Rattle.qasm_parse.specs.declared.program.Inner.{Inner as Stated}
use Rattle.qasm_expand.specs.declared.defs.Inner.{Inner}
use Rattle.qasm_expand.specs.declared.defs.Def.{Def}
use Rattle.qasm_expand.specs.declared.fault.ReadFault.{ReadFault}
use Rattle.qasm_expand.specs.declared.fault.ReadFault.TheVariants.{Fault, Memory}
use Rattle.qasm_expand.specs.Tables.{Bound, meaning}
use Rattle.qasm_parse.specs.declared.program.Statement.{Statement}
use Rattle.qasm_expand.specs.Gates.{body_of}
use Rattle.qasm_expand.specs.Library.{Gates, all_defined, kept_or}

-- a list before what comes behind it
abbrev pub put_before : {A E : Type 0} → List A → Result (List A) E → Result (List A) E
put_before xs (Ok ys) = Ok (xs ++ ys)
put_before xs (Err e) = Err e

-- nothing more is known than that all is well, or the fault
abbrev pub checked : {A E : Type 0} → Result A E → Result (Unit {0}) E
checked (Ok a) = Ok tt
checked (Err e) = Err e

-- a statement of a body leads from these applications so far to those, or to its fault, whatever comes behind it; want of memory aside
abbrev pub Led : Result (Unit {0}) ReadFault → List ℕ → List Def → List Bound → List (List ℕ) → List (List ℕ) → Stated → List Inner → List Inner → Type 0
Led (Ok u) bytes defs bound params args s old new = (ss : List Stated) → put_before old (body_of bytes defs bound params args (s ∷ ss)) ≡ put_before new (body_of bytes defs bound params args ss)
Led (Err (Fault name at)) bytes defs bound params args s old new = (ss : List Stated) → body_of bytes defs bound params args (s ∷ ss) ≡ Err (Fault name at)
Led (Err Memory) bytes defs bound params args s old new = Unit {0}

-- a statement leads from these gates to those, or to its fault, whatever comes behind it; want of memory aside
abbrev pub Defines : Result (Unit {0}) ReadFault → List ℕ → Statement → Gates → Gates → Type 0
Defines (Ok u) bytes s old new = (ss : List Statement) → all_defined bytes old (s ∷ ss) ≡ all_defined bytes new ss
Defines (Err (Fault name at)) bytes s old new = (ss : List Statement) → all_defined bytes old (s ∷ ss) ≡ Err (Fault name at)
Defines (Err Memory) bytes s old new = Unit {0}

-- a name is bound, where there is one and it means no gate yet
abbrev pub kept_at : Option Bound → List Bound → List Bound
kept_at None bound = bound
kept_at (Some b) bound = kept_or (meaning bound b.name) bound b
