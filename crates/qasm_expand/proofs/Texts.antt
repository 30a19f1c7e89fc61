-- What the statements of a text and of a block are, from its tokens and its grammar; and what the text is.
use Rattle.std.proofs.Common.{◌≡◌, ℕ, sym, subst, List, Result, Ok, Err}
use Rattle.qasm_lex.specs.declared.types.Token.{Token}
use Rattle.qasm_lex.specs.declared.types.LexFault.{LexFault}
use Rattle.qasm_lex.specs.declared.types.LexFault.TheVariants as lex
use Rattle.qasm_lex.specs.Tokens.{Reads, Told}
use Rattle.qasm_parse.specs.declared.fault.ParseFault.{ParseFault}
use Rattle.qasm_parse.specs.declared.fault.ParseFault.TheVariants as parse
use Rattle.qasm_parse.specs.declared.program.Statement.{Statement}
use Rattle.qasm_parse.specs.Statements.{OfText, OfBlock, Known as KnownProgram}
use Rattle.qasm_expand.specs.declared.state.State.{State}
use Rattle.qasm_expand.specs.declared.fault.ReadFault.{ReadFault}
use Rattle.qasm_expand.specs.declared.fault.ReadFault.TheVariants.{Fault, Memory}
use Rattle.qasm_expand.specs.declared.tables.Circuit.{Circuit}
use Rattle.qasm_expand.specs.Checks.{of_tokens, of_grammar, Known}
use Rattle.qasm_expand.specs.Library.{TextIs, bad_tokens, by_grammar, BlockIs, bad_block_tokens, by_block_grammar}
use Rattle.qasm_expand.specs.States.{Became}
use Rattle.qasm_expand.specs.Statements.{Expands}
use Rattle.qasm_expand.specs.Circuits.{CircuitOf, nothing_yet, closed, ReadsText, misread, expanded, TableOf, behind_text, ReadsBlock, misread_block, expanded_block}
use Rattle.qasm_expand.specs.Reading.{CircuitTold, ItemsTold}
use Rattle.ps_prim.specs.declared.prims.Primitive.{Primitive as Prim}

-- ---- statements
pub text_ok : (bytes : List ℕ) (tk xs : List Token) (ss : List Statement) → Reads bytes 0 (Ok tk) → xs ≡ tk → OfText bytes xs (Ok ss) → TextIs bytes (Ok ss)
text_ok bytes tk xs ss h e p = by_grammar {r = Ok ss} h (subst (λ z. OfText bytes z (Ok ss)) e p)

told : (bytes : List ℕ) (tk xs : List Token) (f : ParseFault) → Reads bytes 0 (Ok tk) → xs ≡ tk → OfText bytes xs (Err f) → TextIs bytes (Err (of_grammar f))
told bytes tk xs f h e p = by_grammar {r = Err f} h (subst (λ z. OfText bytes z (Err f)) e p)

pub text_err : (bytes : List ℕ) (tk xs : List Token) (f : ParseFault) → Reads bytes 0 (Ok tk) → xs ≡ tk → KnownProgram (Err f) (OfText bytes xs) → Known {A = List Statement} (Err (of_grammar f)) (TextIs bytes)
text_err bytes tk xs (parse.Version n) h e p = told bytes tk xs (parse.Version n) h e p
text_err bytes tk xs (parse.Syntax n) h e p = told bytes tk xs (parse.Syntax n) h e p
text_err bytes tk xs (parse.NotUnitary n) h e p = told bytes tk xs (parse.NotUnitary n) h e p
text_err bytes tk xs (parse.Include n) h e p = told bytes tk xs (parse.Include n) h e p
text_err bytes tk xs (parse.Opaque n) h e p = told bytes tk xs (parse.Opaque n) h e p
text_err bytes tk xs (parse.Deep n) h e p = told bytes tk xs (parse.Deep n) h e p
text_err bytes tk xs parse.Memory h e p = tt

pub text_lex : (bytes : List ℕ) (f : LexFault) → Told f (λ g. Reads bytes 0 (Err g)) → Known {A = List Statement} (Err (of_tokens f)) (TextIs bytes)
text_lex bytes (lex.BadByte n) h = bad_tokens h
text_lex bytes (lex.BadNumber n) h = bad_tokens h
text_lex bytes (lex.OpenString n) h = bad_tokens h
text_lex bytes lex.Memory h = tt

pub block_ok : (bytes : List ℕ) (tk xs : List Token) (ss : List Statement) → Reads bytes 0 (Ok tk) → xs ≡ tk → OfBlock bytes xs (Ok ss) → BlockIs bytes (Ok ss)
block_ok bytes tk xs ss h e p = by_block_grammar {r = Ok ss} h (subst (λ z. OfBlock bytes z (Ok ss)) e p)

told_block : (bytes : List ℕ) (tk xs : List Token) (f : ParseFault) → Reads bytes 0 (Ok tk) → xs ≡ tk → OfBlock bytes xs (Err f) → BlockIs bytes (Err (of_grammar f))
told_block bytes tk xs f h e p = by_block_grammar {r = Err f} h (subst (λ z. OfBlock bytes z (Err f)) e p)

pub block_err : (bytes : List ℕ) (tk xs : List Token) (f : ParseFault) → Reads bytes 0 (Ok tk) → xs ≡ tk → KnownProgram (Err f) (OfBlock bytes xs) → Known {A = List Statement} (Err (of_grammar f)) (BlockIs bytes)
block_err bytes tk xs (parse.Version n) h e p = told_block bytes tk xs (parse.Version n) h e p
block_err bytes tk xs (parse.Syntax n) h e p = told_block bytes tk xs (parse.Syntax n) h e p
block_err bytes tk xs (parse.NotUnitary n) h e p = told_block bytes tk xs (parse.NotUnitary n) h e p
block_err bytes tk xs (parse.Include n) h e p = told_block bytes tk xs (parse.Include n) h e p
block_err bytes tk xs (parse.Opaque n) h e p = told_block bytes tk xs (parse.Opaque n) h e p
block_err bytes tk xs (parse.Deep n) h e p = told_block bytes tk xs (parse.Deep n) h e p
block_err bytes tk xs parse.Memory h e p = tt

pub block_lex : (bytes : List ℕ) (f : LexFault) → Told f (λ g. Reads bytes 0 (Err g)) → Known {A = List Statement} (Err (of_tokens f)) (BlockIs bytes)
block_lex bytes (lex.BadByte n) h = bad_block_tokens h
block_lex bytes (lex.BadNumber n) h = bad_block_tokens h
block_lex bytes (lex.OpenString n) h = bad_block_tokens h
block_lex bytes lex.Memory h = tt

-- a fault in place of another by an equation
pub known_by : (P : Result (List Statement) ReadFault → Type 0) (f g : ReadFault) → g ≡ f → Known {A = List Statement} (Err f) P → Known {A = List Statement} (Err g) P
known_by P f g e h = subst (λ z. Known {A = List Statement} (Err z) P) (sym e) h

-- ---- the text
pub circuit_misread : (text : List ℕ) (f : ReadFault) → Known {A = List Statement} (Err f) (TextIs text) → CircuitTold (Err f) (ReadsText text)
circuit_misread text (Fault name at) h = misread h
circuit_misread text Memory h = tt

pub circuit_faulty : (text : List ℕ) (ss : List Statement) (st new : State) (f : ReadFault) → TextIs text (Ok ss) → st ≡ nothing_yet → Became {A = Unit {0}} (Err f) new (Expands text st ss) → CircuitTold (Err f) (ReadsText text)
circuit_faulty text ss st new (Fault name at) h e x = expanded {r = Err (Fault name at)} h (subst (λ z. Expands text z ss (Err (Fault name at))) e x)
circuit_faulty text ss st new Memory h e x = tt

pub circuit_ended : (text : List ℕ) (ss : List Statement) (st new : State) (r : Result Circuit ReadFault) → TextIs text (Ok ss) → st ≡ nothing_yet → Expands text st ss (Ok new) → CircuitTold r (λ a. a ≡ closed text (Ok new)) → CircuitTold r (ReadsText text)
circuit_ended text ss st new (Ok c) h e x q = subst (ReadsText text) (sym q) (expanded {r = Ok new} h (subst (λ z. Expands text z ss (Ok new)) e x))
circuit_ended text ss st new (Err (Fault name at)) h e x q = subst (ReadsText text) (sym q) (expanded {r = Ok new} h (subst (λ z. Expands text z ss (Ok new)) e x))
circuit_ended text ss st new (Err Memory) h e x q = tt

-- nothing else, where there is one
pub circuit_only : (r : Result Circuit ReadFault) (P : Result CircuitOf ReadFault → Type 0) → ((a b : Result CircuitOf ReadFault) → P a → P b → b ≡ a) → CircuitTold r P → CircuitTold r (λ a. (b : Result CircuitOf ReadFault) → P b → b ≡ a)
circuit_only (Ok c) P one h = λ b k. one _ b h k
circuit_only (Err (Fault name at)) P one h = λ b k. one _ b h k
circuit_only (Err Memory) P one h = tt

-- ---- the block
pub block_misread : (t : TableOf) (block : List ℕ) (f : ReadFault) → Known {A = List Statement} (Err f) (BlockIs block) → ItemsTold (Err f) (ReadsBlock t block)
block_misread t block (Fault name at) h = misread_block h
block_misread t block Memory h = tt

pub block_faulty : (t : TableOf) (block : List ℕ) (ss : List Statement) (st new : State) (f : ReadFault) → BlockIs block (Ok ss) → st ≡ behind_text t → Became {A = Unit {0}} (Err f) new (Expands block st ss) → ItemsTold (Err f) (ReadsBlock t block)
block_faulty t block ss st new (Fault name at) h e x = expanded_block {r = Err (Fault name at)} h (subst (λ z. Expands block z ss (Err (Fault name at))) e x)
block_faulty t block ss st new Memory h e x = tt

pub block_ended : (t : TableOf) (block : List ℕ) (ss : List Statement) (st new : State) → BlockIs block (Ok ss) → st ≡ behind_text t → Expands block st ss (Ok new) → ReadsBlock t block (Ok new.items)
block_ended t block ss st new h e x = expanded_block {r = Ok new} h (subst (λ z. Expands block z ss (Ok new)) e x)

pub items_only : (r : Result (List (List Prim)) ReadFault) (P : Result (List (List Prim)) ReadFault → Type 0) → ((a b : Result (List (List Prim)) ReadFault) → P a → P b → b ≡ a) → ItemsTold r P → ItemsTold r (λ a. (b : Result (List (List Prim)) ReadFault) → P b → b ≡ a)
items_only (Ok c) P one h = λ b k. one _ b h k
items_only (Err (Fault name at)) P one h = λ b k. one _ b h k
items_only (Err Memory) P one h = tt
