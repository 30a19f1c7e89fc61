-- The spellings of places, and faults with their places.
use Rattle.std.specs.Prelude.{ℕ, Bool, true, false, Option, Some, None, List, Result, Ok, Err, slice_range}
use Rattle.qasm_lex.specs.declared.types.LexFault.{LexFault}
use Rattle.qasm_lex.specs.declared.types.LexFault.TheVariants.{BadByte as LexBadByte, BadNumber as LexBadNumber, OpenString as LexOpenString, Memory as LexMemory}
use Rattle.qasm_angle.specs.declared.types.AngleFault.{AngleFault}
use Rattle.qasm_angle.specs.declared.types.AngleFault.TheVariants.{NotDyadic as AngleNotDyadic, AngleRange as AngleAngleRange, NoParameter as AngleNoParameter, Function as AngleFunction, ByZero as AngleByZero, Memory as AngleMemory}
use Rattle.qasm_parse.specs.declared.fault.ParseFault.{ParseFault}
use Rattle.qasm_parse.specs.declared.fault.ParseFault.TheVariants.{Version as ParseVersion, Syntax as ParseSyntax, NotUnitary as ParseNotUnitary, Include as ParseInclude, Opaque as ParseOpaque, Deep as ParseDeep, Memory as ParseMemory}
use Rattle.qasm_parse.specs.declared.program.Span.{Span}
use Rattle.qasm_parse.specs.Numbers.{decimal}
use Rattle.qasm_expand.specs.declared.fault.FaultName.{FaultName}
use Rattle.qasm_expand.specs.declared.fault.FaultName.TheVariants.{BadByte, BadNumber, OpenString, Version, Syntax, NotUnitary, Include, Opaque, Deep, NotDyadic, AngleRange, NoParameter, Function, ByZero}
use Rattle.qasm_expand.specs.declared.fault.ReadFault.{ReadFault}
use Rattle.qasm_expand.specs.declared.fault.ReadFault.TheVariants.{Fault, Memory}

-- the bytes of a place
abbrev pub spelled : List ℕ → Span → List ℕ
spelled bytes p = slice_range bytes p.from p.to

-- the whole number that they spell
abbrev pub number_at : List ℕ → Span → ℕ
number_at bytes p = decimal (spelled bytes p)

-- what is known goes on, and a fault stands
abbrev pub and_then : {A B E : Type 0} → Result A E → (A → Result B E) → Result B E
and_then (Ok a) f = f a
and_then (Err e) f = Err e

-- a fault with this name at the first byte of a place
abbrev pub fault : {A : Type 0} → FaultName → Span → Result A ReadFault
fault name p = Err (Fault name p.from)

-- the thing, or else the fault
abbrev pub or_fault : {A : Type 0} → FaultName → Span → Option A → Result A ReadFault
or_fault name p (Some a) = Ok a
or_fault name p None = fault name p

-- the fault, where it is told
abbrev pub unless : {A : Type 0} → FaultName → Option Span → Result A ReadFault → Result A ReadFault
unless name (Some p) r = fault name p
unless name None r = r

-- the fault at the place, where that is so
abbrev pub refuse : {A : Type 0} → Bool → FaultName → Span → Result A ReadFault → Result A ReadFault
refuse true name p r = fault name p
refuse false name p r = r

-- a fault of tokens, of the grammar, and of an expression
abbrev pub of_tokens : LexFault → ReadFault
of_tokens (LexBadByte at) = Fault BadByte at
of_tokens (LexBadNumber at) = Fault BadNumber at
of_tokens (LexOpenString at) = Fault OpenString at
of_tokens LexMemory = Memory

abbrev pub of_grammar : ParseFault → ReadFault
of_grammar (ParseVersion at) = Fault Version at
of_grammar (ParseSyntax at) = Fault Syntax at
of_grammar (ParseNotUnitary at) = Fault NotUnitary at
of_grammar (ParseInclude at) = Fault Include at
of_grammar (ParseOpaque at) = Fault Opaque at
of_grammar (ParseDeep at) = Fault Deep at
of_grammar ParseMemory = Memory

abbrev pub of_angle : AngleFault → ℕ → ReadFault
of_angle AngleNotDyadic at = Fault NotDyadic at
of_angle AngleAngleRange at = Fault AngleRange at
of_angle AngleNoParameter at = Fault NoParameter at
of_angle AngleFunction at = Fault Function at
of_angle AngleByZero at = Fault ByZero at
of_angle AngleMemory at = Memory

-- what was answered, want of memory aside
abbrev pub Known : {A : Type 0} → Result A ReadFault → (Result A ReadFault → Type 0) → Type 0
Known (Ok a) P = P (Ok a)
Known (Err (Fault name at)) P = P (Err (Fault name at))
Known (Err Memory) P = Unit {0}
