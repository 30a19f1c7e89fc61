-- The names of the faults of texts.
use Rattle.std.specs.Prelude.{ℕ, List, codes}
use Rattle.qasm_expand.specs.declared.fault.FaultName.{FaultName}
use Rattle.qasm_expand.specs.declared.fault.FaultName.TheVariants.{BadByte, BadNumber, OpenString, Version, Syntax, NotUnitary, Include, Opaque, Deep, NotDyadic, AngleRange, NoParameter, Function, ByZero, Unknown, Arity, Redeclared, Range, RepeatedQubit, Sizes, TooMany, NoQubits}

abbrev pub fault_name : FaultName → List ℕ
fault_name BadByte = codes "BadByte"
fault_name BadNumber = codes "BadNumber"
fault_name OpenString = codes "OpenString"
fault_name Version = codes "Version"
fault_name Syntax = codes "Syntax"
fault_name NotUnitary = codes "NotUnitary"
fault_name Include = codes "Include"
fault_name Opaque = codes "Opaque"
fault_name Deep = codes "Deep"
fault_name NotDyadic = codes "NotDyadic"
fault_name AngleRange = codes "AngleRange"
fault_name NoParameter = codes "NoParameter"
fault_name Function = codes "Function"
fault_name ByZero = codes "ByZero"
fault_name Unknown = codes "Unknown"
fault_name Arity = codes "Arity"
fault_name Redeclared = codes "Redeclared"
fault_name Range = codes "Range"
fault_name RepeatedQubit = codes "RepeatedQubit"
fault_name Sizes = codes "Sizes"
fault_name TooMany = codes "TooMany"
fault_name NoQubits = codes "NoQubits"
