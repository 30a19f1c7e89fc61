-- The places in a program are those of tokens of the text.
use Rattle.std.specs.Prelude.{◌<◌, ◌≤◌, ℕ, List, length, Option, Some, None, All}
use Rattle.qasm_angle.specs.declared.types.Op.{Op}
use Rattle.qasm_angle.specs.declared.types.Op.TheVariants.{Id}
use Rattle.qasm_parse.specs.declared.program.Span.{Span}
use Rattle.qasm_parse.specs.declared.program.Arg.{Arg}
use Rattle.qasm_parse.specs.declared.program.Formula.{Formula}
use Rattle.qasm_parse.specs.declared.program.Call.{Call}
use Rattle.qasm_parse.specs.declared.program.Inner.{Inner}
use Rattle.qasm_parse.specs.declared.program.Inner.TheVariants.{Apply as ApplyInner, Barrier as BarrierInner}
use Rattle.qasm_parse.specs.declared.program.Statement.{Statement}
use Rattle.qasm_parse.specs.declared.program.Statement.TheVariants.{Include, Qreg, Creg, Gate, Apply, Barrier}

-- within the text, and not empty
abbrev pub SpanIn : List ℕ → Span → Type 0
SpanIn bytes p = (p.from < p.to) × (p.to ≤ length bytes)

abbrev pub IndexIn : List ℕ → Option Span → Type 0
IndexIn bytes (Some p) = SpanIn bytes p
IndexIn bytes None = Unit {0}

abbrev pub ArgIn : List ℕ → Arg → Type 0
ArgIn bytes a = SpanIn bytes a.name × IndexIn bytes a.index

-- the number of an identifier is below n
abbrev pub IdBelow : ℕ → Op → Type 0
IdBelow n (Id i) = i < n
IdBelow n op = Unit {0}

-- all identifiers of the expression are among those that are listed
abbrev pub FormulaIn : List ℕ → Formula → Type 0
FormulaIn bytes f = All (SpanIn bytes) f.ids × All (IdBelow (length f.ids)) f.expr

abbrev pub CallIn : List ℕ → Call → Type 0
CallIn bytes c = SpanIn bytes c.at × All (FormulaIn bytes) c.params × All (ArgIn bytes) c.args

abbrev pub InnerIn : List ℕ → Inner → Type 0
InnerIn bytes (ApplyInner c) = CallIn bytes c
InnerIn bytes (BarrierInner names) = All (SpanIn bytes) names

abbrev pub StatementIn : List ℕ → Statement → Type 0
StatementIn bytes (Include p) = SpanIn bytes p
StatementIn bytes (Qreg name size) = SpanIn bytes name × SpanIn bytes size
StatementIn bytes (Creg name size) = SpanIn bytes name × SpanIn bytes size
StatementIn bytes (Gate name params args body) = SpanIn bytes name × All (SpanIn bytes) params × All (SpanIn bytes) args × All (InnerIn bytes) body
StatementIn bytes (Apply c) = CallIn bytes c
StatementIn bytes (Barrier args) = All (ArgIn bytes) args
