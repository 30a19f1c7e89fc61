-- The text of the library is read without a fault, and its gates are defined without one behind any others: computed.
use Rattle.std.proofs.Common.{◌≡◌, ℕ, true, Option, Some, None, List, [], append-nil, is_some, is_ok, Result, Ok, Err, refl, sym, ◌∙◌, ap, subst}
use Rattle.qasm_lex.specs.declared.types.Token.{Token}
use Rattle.qasm_lex.specs.Tokens.{Reads}
use Rattle.qasm_lex.proofs.PlainTokens.{begun_by, between, step, closing, cut, cut_reads}
use Rattle.qasm_parse.specs.declared.sort.Sort.{Sort}
use Rattle.qasm_parse.specs.declared.program.Statement.{Statement}
use Rattle.qasm_parse.specs.Phrases.{got}
use Rattle.qasm_parse.specs.Sorts.{sorts_of}
use Rattle.qasm_parse.specs.Formulas.{ids, id_count}
use Rattle.qasm_parse.specs.Statements.{IsText}
use Rattle.qasm_parse.proofs.SameSort.{number_of, test_by}
use Rattle.qasm_parse.proofs.Readers.{read_as, gives_reader, then_reader, after_reader, listed_next, listed_reader, enclosed_reader, tail_by, has_room, signed_by, power_by, group_by, atom_by, part_by, part_reader, numeral_by, op_reader, ops_reader, formula_reader, span_reader, bare_reader, formulas_reader, universal_reader, controlled_reader, named_reader, call_reader, inner_reader, body_next, body_reader, names_reader, gate_reader, program_next, program_reader, text_by, text_reader}
use Rattle.qasm_parse.proofs.Readers as readers
use Rattle.qasm_expand.specs.declared.defs.Def.{Def}
use Rattle.qasm_expand.specs.declared.fault.ReadFault.{ReadFault}
use Rattle.qasm_expand.specs.Tables.{meaning, rebound, prim_count, is_among}
use Rattle.qasm_expand.specs.Gates.{place_of, first_again, places, first_repeated, numbers, expressions}
use Rattle.qasm_expand.specs.Gates as gates
use Rattle.qasm_expand.specs.Library.{library_text, TextIs, by_grammar, Gates, all_defined, IsFaultless}
use Rattle.qasm_expand.proofs.GatesBehind.{gates_behind, on_ok, all_defined_behind}
use Rattle.qasm_expand.proofs.Once.{one_text_is}

-- ---- its tokens
abbrev or_none : Option (List Token) → List Token
or_none (Some ts) = ts
or_none None = []

unfoldable library_tokens : List Token
library_tokens = or_none (cut library_text between 0)

all_cut : cut library_text between 0 ≡ Some library_tokens
unfolding library_tokens library_text cut step closing begun_by
all_cut = refl

library_cut : Reads library_text 0 (Ok library_tokens)
library_cut = cut_reads library_text library_tokens all_cut

unfoldable library_sorts : List Sort
library_sorts = sorts_of library_text library_tokens

sorts_are : library_sorts ≡ sorts_of library_text library_tokens
unfolding library_sorts
sorts_are = refl

-- ---- its statements
abbrev TextRead : Type 0
TextRead = Option ((ss : List Statement) × (j : ℕ) × IsText library_text library_tokens library_sorts (got ss j))

unfoldable library_read : TextRead
library_read = text_reader library_text library_tokens library_sorts

-- all that is computed
unfoldable read_with : Type 0
unfolding library_read library_sorts library_tokens library_text cut step closing begun_by number_of test_by read_as gives_reader then_reader after_reader listed_next listed_reader enclosed_reader tail_by has_room signed_by power_by group_by atom_by part_by part_reader numeral_by op_reader ops_reader formula_reader span_reader bare_reader formulas_reader universal_reader controlled_reader named_reader call_reader inner_reader body_next body_reader names_reader readers.body_of gate_reader program_next program_reader text_by text_reader
read_with = Unit {0}

is_read : is_some library_read ≡ true
unfolding read_with
is_read = refl

abbrev statements_of : TextRead → List Statement
statements_of (Some x) = x.0
statements_of None = []

unfoldable library_statements : List Statement
library_statements = statements_of library_read

reading : (o : TextRead) → is_some o ≡ true → (j : ℕ) × IsText library_text library_tokens library_sorts (got (statements_of o) j)
reading (Some x) e = (x.1, x.2)
reading None e = absurd (cc)

library_is : TextIs library_text (Ok library_statements)
unfolding library_statements
library_is =
    let p : (j : ℕ) × IsText library_text library_tokens library_sorts (got (statements_of library_read) j) = reading library_read is_read in
    let t : IsText library_text library_tokens (sorts_of library_text library_tokens) (got (statements_of library_read) p.0) = subst (λ ts. IsText library_text library_tokens ts (got (statements_of library_read) p.0)) sorts_are p.1 in
    by_grammar {r = Ok (statements_of library_read)} library_cut (got (statements_of library_read) p.0, t, refl)

-- ---- its gates
is_defined : is_ok (all_defined library_text (record { defs = []; bound = [] }) library_statements) ≡ true
unfolding read_with library_statements all_defined meaning rebound prim_count is_among place_of first_again places first_repeated numbers expressions ids id_count gates.body_of
is_defined = refl

gates_of : (r : Result Gates ReadFault) → is_ok r ≡ true → (g : Gates) × (r ≡ Ok g)
gates_of (Ok g) e = (g, refl)
gates_of (Err f) e = absurd (cc)

library_gates : (front : List Def) → (g : Gates) × (all_defined library_text (record { defs = front; bound = [] }) library_statements ≡ Ok g)
library_gates front =
    let none : Gates = record { defs = []; bound = [] } in
    let p : (g : Gates) × (all_defined library_text none library_statements ≡ Ok g) = gates_of (all_defined library_text none library_statements) is_defined in (
      gates_behind front p.0,
      ap (λ z. all_defined library_text (record { defs = z; bound = [] }) library_statements) (sym (append-nil front))
          ∙ all_defined_behind front library_text none library_statements ∙ ap (on_ok (gates_behind front)) p.1,
    )

pub library_faultless : IsFaultless library_text
library_faultless = (library_statements, library_is, library_gates)

-- ---- so there is no fault
pub no_library_fault : (f : ReadFault) → TextIs library_text (Err f) → ⊥
no_library_fault f h = apart (one_text_is library_text (Err f) (Ok library_statements) h library_is) where
  apart : ◌≡◌ {A = Result (List Statement) ReadFault} (Err f) (Ok library_statements) → ⊥
  apart e = cc

pub no_gate_fault : (front : List Def) (ss : List Statement) (f : ReadFault) → TextIs library_text (Ok ss) → all_defined library_text (record { defs = front; bound = [] }) ss ≡ Err f → ⊥
no_gate_fault front ss f h e =
    let p : (g : Gates) × (all_defined library_text (record { defs = front; bound = [] }) library_statements ≡ Ok g) = library_gates front in
    apart p.0 (sym p.1 ∙ ap (all_defined library_text (record { defs = front; bound = [] })) (same (one_text_is library_text (Ok library_statements) (Ok ss) library_is h)) ∙ e)
  where
    same : ◌≡◌ {A = Result (List Statement) ReadFault} (Ok library_statements) (Ok ss) → library_statements ≡ ss
    same d = cc

    apart : (g : Gates) → ◌≡◌ {A = Result Gates ReadFault} (Ok g) (Err f) → ⊥
    apart g d = cc
