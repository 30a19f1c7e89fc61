-- Statements, blocks and texts.
use Rattle.std.specs.Prelude.{◌≡◌, ◌≢◌, ℕ, ◌+◌, Bool, true, false, List, [], ◌∷◌, length, get_or, Result, Ok, Err}
use Rattle.qasm_lex.specs.declared.types.Token.{Token}
use Rattle.qasm_lex.specs.declared.types.Kind.TheVariants.{Sign}
use Rattle.qasm_parse.specs.declared.sort.Sort.{Sort}
use Rattle.qasm_parse.specs.declared.sort.Sort.TheVariants.{End, OpenQasm, Include as IncludeWord, Qreg as QregWord, Creg as CregWord, Gate as GateWord, Opaque as OpaqueWord, Barrier as BarrierWord, Outside, Universal, Cx as CxWord, Id, Whole, Library, Text, Semicolon, Comma, Open, Close, OpenBracket, CloseBracket, OpenBrace, CloseBrace}
use Rattle.qasm_parse.specs.declared.program.Span.{Span}
use Rattle.qasm_parse.specs.declared.program.Call.{Call}
use Rattle.qasm_parse.specs.declared.program.Called.TheVariants.{U, Cx, Named}
use Rattle.qasm_parse.specs.declared.program.Inner.{Inner}
use Rattle.qasm_parse.specs.declared.program.Inner.TheVariants.{Apply as ApplyInner, Barrier as BarrierInner}
use Rattle.qasm_parse.specs.declared.program.Statement.{Statement}
use Rattle.qasm_parse.specs.declared.program.Statement.TheVariants.{Include, Qreg, Creg, Gate, Apply, Barrier}
use Rattle.qasm_parse.specs.declared.phrases.Form.{Form}
use Rattle.qasm_parse.specs.declared.phrases.Form.TheVariants.{Bare, Indexed}
use Rattle.qasm_parse.specs.declared.whence.Whence.{Whence}
use Rattle.qasm_parse.specs.declared.whence.Whence.TheVariants.{Text as TextWhence, Block}
use Rattle.qasm_parse.specs.declared.whence.Bits.{Bits}
use Rattle.qasm_parse.specs.declared.whence.Bits.TheVariants.{Quantum, Classical}
use Rattle.qasm_parse.specs.declared.fault.ParseFault.{ParseFault}
use Rattle.qasm_parse.specs.declared.fault.ParseFault.TheVariants.{Version, Syntax, NotUnitary, Include as IncludeFault, Opaque, Deep, Memory}
use Rattle.qasm_parse.specs.Grammar.{at}
use Rattle.qasm_parse.specs.Sorts.{is_version, sorts_of}
use Rattle.qasm_parse.specs.Phrases.{Got, got, miss, put, Gives, After, Then, Listed, Enclosed, span_of, IsSpan, IsArg}
use Rattle.qasm_parse.specs.Formulas.{IsFormula, text_at}

-- apply = "U" "(" exprs ")" arg ";" | "CX" arg "," arg ";" | id [ "(" [ exprs ] ")" ] args ";"
pub data IsCall (bytes : List ℕ) (tk : List Token) (ts : List Sort) (form : Form) (i : ℕ) : Got Call → Type 0 where
  universal : {r : Got Call} → at ts i ≡ Universal
      → After ts Open (Then (Listed ts (IsFormula bytes tk ts)) (λ params. After ts Close (Then (IsArg tk ts form) (λ a. After ts Semicolon (Gives (record { gate = U; at = span_of tk i; params = params; args = a ∷ [] })))))) (i + 1) r
      → IsCall bytes tk ts form i r
  controlled : {r : Got Call} → at ts i ≡ CxWord
      → Then (IsArg tk ts form) (λ a. After ts Comma (Then (IsArg tk ts form) (λ b. After ts Semicolon (Gives (record { gate = Cx; at = span_of tk i; params = []; args = a ∷ (b ∷ []) }))))) (i + 1) r
      → IsCall bytes tk ts form i r
  applied : {r : Got Call} → at ts i ≡ Id
      → Then (Enclosed ts (IsFormula bytes tk ts)) (λ params. Then (Listed ts (IsArg tk ts form)) (λ args. After ts Semicolon (Gives (record { gate = Named; at = span_of tk i; params = params; args = args })))) (i + 1) r
      → IsCall bytes tk ts form i r

-- what an application begins with
abbrev pub begins_call : Sort → Bool
begins_call Universal = true
begins_call CxWord = true
begins_call Id = true
begins_call s = false

-- what a statement of a body begins with
abbrev pub begins_inner : Sort → Bool
begins_inner Universal = true
begins_inner CxWord = true
begins_inner Id = true
begins_inner BarrierWord = true
begins_inner Outside = true
begins_inner OpaqueWord = true
begins_inner s = false

-- inner = an application on bare ids | "barrier" ids ";"
pub data IsInner (bytes : List ℕ) (tk : List Token) (ts : List Sort) (i : ℕ) : Got Inner → Type 0 where
  applies : {r : Got Inner} → Then (IsCall bytes tk ts Bare) (λ call. Gives (ApplyInner call)) i r → IsInner bytes tk ts i r
  separates : {r : Got Inner} → at ts i ≡ BarrierWord → Then (Listed ts (IsSpan tk ts Id)) (λ names. After ts Semicolon (Gives (BarrierInner names))) (i + 1) r → IsInner bytes tk ts i r
  not_unitary : at ts i ≡ Outside → IsInner bytes tk ts i (miss (NotUnitary i))
  is_opaque : at ts i ≡ OpaqueWord → IsInner bytes tk ts i (miss (Opaque i))
  wrong : begins_inner (at ts i) ≡ false → IsInner bytes tk ts i (miss (Syntax i))

-- { inner } "}"
pub data IsBody (bytes : List ℕ) (tk : List Token) (ts : List Sort) : ℕ → Got (List Inner) → Type 0 where
  closed : {i : ℕ} → at ts i ≡ CloseBrace → IsBody bytes tk ts i (got [] (i + 1))
  inner : {i j : ℕ} {s : Inner} {r : Got (List Inner)} → at ts i ≢ CloseBrace → IsInner bytes tk ts i (got s j) → IsBody bytes tk ts j r → IsBody bytes tk ts i (put (s ∷ []) r)
  no_inner : {i : ℕ} {f : ParseFault} → at ts i ≢ CloseBrace → IsInner bytes tk ts i (miss f) → IsBody bytes tk ts i (miss f)

-- id "[" whole "]" ";"
abbrev pub IsRegister : List Token → List Sort → (Span → Span → Statement) → ℕ → Got Statement → Type 0
IsRegister tk ts make i r = Then (IsSpan tk ts Id) (λ name. After ts OpenBracket (Then (IsSpan tk ts Whole) (λ size. After ts CloseBracket (After ts Semicolon (Gives (make name size)))))) i r

-- the declaration of a register
abbrev pub made : Bits → Span → Span → Statement
made Quantum name size = Qreg name size
made Classical name size = Creg name size

-- what a declaration begins with
abbrev pub begins_declaration : Sort → Bool
begins_declaration IncludeWord = true
begins_declaration QregWord = true
begins_declaration CregWord = true
begins_declaration GateWord = true
begins_declaration s = false

-- the statements that declare: registers, gates and the library
pub data IsDeclaration (bytes : List ℕ) (tk : List Token) (ts : List Sort) (i : ℕ) : Got Statement → Type 0 where
  includes : {r : Got Statement} → at ts i ≡ IncludeWord → at ts (i + 1) ≡ Library → After ts Semicolon (Gives (Include (span_of tk (i + 1)))) (i + 2) r → IsDeclaration bytes tk ts i r
  other_text : at ts i ≡ IncludeWord → at ts (i + 1) ≡ Text → IsDeclaration bytes tk ts i (miss (IncludeFault (i + 1)))
  no_text : at ts i ≡ IncludeWord → at ts (i + 1) ≢ Library → at ts (i + 1) ≢ Text → IsDeclaration bytes tk ts i (miss (Syntax (i + 1)))
  quantum : {r : Got Statement} → at ts i ≡ QregWord → IsRegister tk ts (made Quantum) (i + 1) r → IsDeclaration bytes tk ts i r
  classical : {r : Got Statement} → at ts i ≡ CregWord → IsRegister tk ts (made Classical) (i + 1) r → IsDeclaration bytes tk ts i r
  defines : {r : Got Statement} → at ts i ≡ GateWord
      → Then (IsSpan tk ts Id) (λ name. Then (Enclosed ts (IsSpan tk ts Id)) (λ params. Then (Listed ts (IsSpan tk ts Id)) (λ args. After ts OpenBrace (Then (IsBody bytes tk ts) (λ body. Gives (Gate name params args body)))))) (i + 1) r
      → IsDeclaration bytes tk ts i r

-- what a statement begins with; in a block nothing is declared
abbrev pub begins : Whence → Sort → Bool
begins TextWhence IncludeWord = true
begins TextWhence QregWord = true
begins TextWhence CregWord = true
begins TextWhence GateWord = true
begins w s = begins_inner s

pub data IsStatement (bytes : List ℕ) (tk : List Token) (ts : List Sort) (whence : Whence) (i : ℕ) : Got Statement → Type 0 where
  apply : {r : Got Statement} → Then (IsCall bytes tk ts Indexed) (λ call. Gives (Apply call)) i r → IsStatement bytes tk ts whence i r
  barrier : {r : Got Statement} → at ts i ≡ BarrierWord → Then (Listed ts (IsArg tk ts Indexed)) (λ args. After ts Semicolon (Gives (Barrier args))) (i + 1) r → IsStatement bytes tk ts whence i r
  declares : {r : Got Statement} → whence ≡ TextWhence → IsDeclaration bytes tk ts i r → IsStatement bytes tk ts whence i r
  outside : at ts i ≡ Outside → IsStatement bytes tk ts whence i (miss (NotUnitary i))
  opaquely : at ts i ≡ OpaqueWord → IsStatement bytes tk ts whence i (miss (Opaque i))
  no_statement : begins whence (at ts i) ≡ false → IsStatement bytes tk ts whence i (miss (Syntax i))

-- statements up to the end
pub data IsProgram (bytes : List ℕ) (tk : List Token) (ts : List Sort) (whence : Whence) : ℕ → Got (List Statement) → Type 0 where
  over : {i : ℕ} → at ts i ≡ End → IsProgram bytes tk ts whence i (got [] i)
  statement : {i j : ℕ} {s : Statement} {r : Got (List Statement)} → at ts i ≢ End → IsStatement bytes tk ts whence i (got s j) → IsProgram bytes tk ts whence j r → IsProgram bytes tk ts whence i (put (s ∷ []) r)
  faulty : {i : ℕ} {f : ParseFault} → at ts i ≢ End → IsStatement bytes tk ts whence i (miss f) → IsProgram bytes tk ts whence i (miss f)

-- "OPENQASM" version ";" { statement }
pub data IsText (bytes : List ℕ) (tk : List Token) (ts : List Sort) : Got (List Statement) → Type 0 where
  no_word : at ts 0 ≢ OpenQasm → IsText bytes tk ts (miss (Version 0))
  no_version : at ts 0 ≡ OpenQasm → is_version (text_at bytes tk 1) ≡ false → IsText bytes tk ts (miss (Version 1))
  no_sign : at ts 0 ≡ OpenQasm → is_version (text_at bytes tk 1) ≡ true → at ts 2 ≢ Semicolon → IsText bytes tk ts (miss (Version 2))
  text : {r : Got (List Statement)} → at ts 0 ≡ OpenQasm → is_version (text_at bytes tk 1) ≡ true → at ts 2 ≡ Semicolon → IsProgram bytes tk ts TextWhence 3 r → IsText bytes tk ts r

-- the offset of token n, and of the end past the last
abbrev pub offset : List ℕ → List Token → ℕ → ℕ
offset bytes tk n = (get_or tk n (record { kind = Sign; from = length bytes; to = length bytes })).from

-- a fault by the offset of its token
abbrev pub placed : List ℕ → List Token → ParseFault → ParseFault
placed bytes tk (Version n) = Version (offset bytes tk n)
placed bytes tk (Syntax n) = Syntax (offset bytes tk n)
placed bytes tk (NotUnitary n) = NotUnitary (offset bytes tk n)
placed bytes tk (IncludeFault n) = IncludeFault (offset bytes tk n)
placed bytes tk (Opaque n) = Opaque (offset bytes tk n)
placed bytes tk (Deep n) = Deep (offset bytes tk n)
placed bytes tk Memory = Memory

abbrev pub answer : List ℕ → List Token → Got (List Statement) → Result (List Statement) ParseFault
answer bytes tk (got s j) = Ok s
answer bytes tk (miss f) = Err (placed bytes tk f)

-- what a whole text with these tokens is: its statements, or its first fault
abbrev pub OfText : List ℕ → List Token → Result (List Statement) ParseFault → Type 0
OfText bytes tk r = (g : Got (List Statement)) × IsText bytes tk (sorts_of bytes tk) g × (r ≡ answer bytes tk g)

-- and what a block is
abbrev pub OfBlock : List ℕ → List Token → Result (List Statement) ParseFault → Type 0
OfBlock bytes tk r = (g : Got (List Statement)) × IsProgram bytes tk (sorts_of bytes tk) Block 0 g × (r ≡ answer bytes tk g)

-- what was answered, want of memory aside
abbrev pub Known : Result (List Statement) ParseFault → (Result (List Statement) ParseFault → Type 0) → Type 0
Known (Err Memory) P = Unit {0}
Known r P = P r

-- and nothing else could have been answered
abbrev pub Only : Result (List Statement) ParseFault → (Result (List Statement) ParseFault → Type 0) → Type 0
Only r P = Known r (λ a. (b : Result (List Statement) ParseFault) → P b → b ≡ a)
