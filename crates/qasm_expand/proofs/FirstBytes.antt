-- The first bytes of expressions are within the text.
use Rattle.std.proofs.Common.{ℕ, ◌+◌, ◌≤◌, inl, inr, List, [], ◌∷◌, length, ap, arith}
use Rattle.std.specs.Prelude.{All}
use Rattle.std.proofs.lemmas.Bool.{cases_lt}
use Rattle.std.proofs.lemmas.List.{get_or_past}
use Rattle.std.proofs.lemmas.List.Elements.{All-nil}
use Rattle.qasm_lex.specs.declared.types.Token.{Token}
use Rattle.qasm_lex.specs.declared.types.Kind.TheVariants.{Sign}
use Rattle.qasm_parse.specs.declared.sort.Sort.{Sort}
use Rattle.qasm_parse.specs.declared.sort.Sort.TheVariants.{Id, Whole, Semicolon, Comma, Open, Close, OpenBracket, CloseBracket, OpenBrace}
use Rattle.qasm_parse.specs.declared.program.Span.{Span}
use Rattle.qasm_parse.specs.declared.program.Arg.{Arg}
use Rattle.qasm_parse.specs.declared.program.Formula.{Formula}
use Rattle.qasm_parse.specs.declared.program.Call.{Call}
use Rattle.qasm_parse.specs.declared.program.Called.TheVariants.{U as UWord, Cx as CxWord, Named}
use Rattle.qasm_parse.specs.declared.program.Statement.{Statement}
use Rattle.qasm_parse.specs.declared.program.Statement.TheVariants as statement
use Rattle.qasm_parse.specs.declared.phrases.Form.TheVariants.{Indexed}
use Rattle.qasm_parse.specs.declared.whence.Whence.{Whence}
use Rattle.qasm_parse.specs.declared.whence.Whence.TheVariants.{Text as TextWhence}
use Rattle.qasm_parse.specs.declared.whence.Bits.{Bits}
use Rattle.qasm_parse.specs.declared.whence.Bits.TheVariants.{Quantum, Classical}
use Rattle.qasm_parse.specs.Sorts.{IsWithin}
use Rattle.qasm_parse.specs.Phrases.{Got, got, miss, Gives, After, Then, Listed, Enclosed, IsSpan, IsArg, span_of}
use Rattle.qasm_parse.specs.Formulas.{IsFormula, formula, no_formula}
use Rattle.qasm_parse.specs.Statements.{IsCall, universal, controlled, applied, IsBody, IsRegister, made, IsDeclaration, includes, other_text, no_text, quantum, classical, defines, IsStatement, apply, barrier, declares, outside, opaquely, no_statement, IsProgram, over, statement, faulty, IsText, no_word, no_version, no_sign, text}
use Rattle.qasm_parse.proofs.Within.{On, Has, gives_has, after_has, then_has, put_has, listed_has, enclosed_has}

module _ (bytes : List ℕ) where
  abbrev pub FormulaFrom : Formula → Type 0
  FormulaFrom f = f.from ≤ length bytes

  abbrev pub StatementFrom : Statement → Type 0
  StatementFrom (statement.Apply c) = All FormulaFrom c.params
  StatementFrom s = Unit {0}

  abbrev Any : {A : Type 0} → A → Type 0
  Any a = Unit {0}

  module _ (tk : List Token) (ts : List Sort) (in_it : All (IsWithin bytes) tk) where
    anything : {A : Type 0} (thing : ℕ → Got A → Type 0) → Has Any thing
    anything thing i (got a j) h = tt
    anything thing i (miss f) h = tt

    span_from : (i : ℕ) → (span_of tk i).from ≤ length bytes
    span_from i = elim (cases_lt i (length tk)) [
      | inl lt ↦ (let p = in_it i (record { kind = Sign; from = 0; to = 0 }) lt in let x = p.0 in let y = p.1 in omega arith)
      | inr le ↦ (let e = ap (λ (t : Token). t.from) (get_or_past tk i (record { kind = Sign; from = 0; to = 0 }) le) in omega arith)
    ]

    formula_from : Has FormulaFrom (IsFormula bytes tk ts)
    formula_from i g (formula {f = f} h o e p) = let l = span_from i in omega arith
    formula_from i g (no_formula h) = tt

    abbrev CallFrom : Call → Type 0
    CallFrom c = All FormulaFrom c.params

    call_from : Has CallFrom (IsCall bytes tk ts Indexed)
    call_from i g (universal e h) =
        let last = λ (ps : List Formula) (a : Arg). After ts Semicolon (Gives (record { gate = UWord; at = span_of tk i; params = ps; args = a ∷ [] })) in
        let rest = λ (ps : List Formula). After ts Close (Then (IsArg tk ts Indexed) (last ps)) in
        after_has ts Open CallFrom (Then (Listed ts (IsFormula bytes tk ts)) rest) (then_has (All FormulaFrom) CallFrom (Listed ts (IsFormula bytes tk ts)) rest (listed_has ts FormulaFrom (IsFormula bytes tk ts) formula_from)
        (λ ps q. after_has ts Close CallFrom (Then (IsArg tk ts Indexed) (last ps)) (then_has Any CallFrom (IsArg tk ts Indexed) (last ps) (anything (IsArg tk ts Indexed))
        (λ a _. after_has ts Semicolon CallFrom (Gives (record { gate = UWord; at = span_of tk i; params = ps; args = a ∷ [] })) (gives_has CallFrom (record { gate = UWord; at = span_of tk i; params = ps; args = a ∷ [] }) q))))) (i + 1) g h
    call_from i g (controlled e h) =
        let last = λ (a b : Arg). After ts Semicolon (Gives (record { gate = CxWord; at = span_of tk i; params = []; args = a ∷ (b ∷ []) })) in
        let rest = λ (a : Arg). After ts Comma (Then (IsArg tk ts Indexed) (last a)) in
        then_has Any CallFrom (IsArg tk ts Indexed) rest (anything (IsArg tk ts Indexed)) (λ a _. after_has ts Comma CallFrom (Then (IsArg tk ts Indexed) (last a)) (then_has Any CallFrom (IsArg tk ts Indexed) (last a) (anything (IsArg tk ts Indexed))
        (λ b _. after_has ts Semicolon CallFrom (Gives (record { gate = CxWord; at = span_of tk i; params = []; args = a ∷ (b ∷ []) })) (gives_has CallFrom (record { gate = CxWord; at = span_of tk i; params = []; args = a ∷ (b ∷ []) }) (All-nil FormulaFrom))))) (i + 1) g h
    call_from i g (applied e h) =
        let last = λ (ps : List Formula) (us : List Arg). After ts Semicolon (Gives (record { gate = Named; at = span_of tk i; params = ps; args = us })) in
        let rest = λ (ps : List Formula). Then (Listed ts (IsArg tk ts Indexed)) (last ps) in
        then_has (All FormulaFrom) CallFrom (Enclosed ts (IsFormula bytes tk ts)) rest (enclosed_has ts FormulaFrom (IsFormula bytes tk ts) formula_from)
        (λ ps q. then_has Any CallFrom (Listed ts (IsArg tk ts Indexed)) (last ps) (anything (Listed ts (IsArg tk ts Indexed)))
        (λ us _. after_has ts Semicolon CallFrom (Gives (record { gate = Named; at = span_of tk i; params = ps; args = us })) (gives_has CallFrom (record { gate = Named; at = span_of tk i; params = ps; args = us }) q))) (i + 1) g h

    made_from : (bits : Bits) (name size : Span) → StatementFrom (made bits name size)
    made_from Quantum name size = tt
    made_from Classical name size = tt

    register_from : (bits : Bits) → Has StatementFrom (IsRegister tk ts (made bits))
    register_from bits i g h =
        let last = λ (name size : Span). After ts Semicolon (Gives (made bits name size)) in
        let close = λ (name size : Span). After ts CloseBracket (last name size) in
        let rest = λ (name : Span). After ts OpenBracket (Then (IsSpan tk ts Whole) (close name)) in
        then_has Any StatementFrom (IsSpan tk ts Id) rest (anything (IsSpan tk ts Id))
        (λ name _. after_has ts OpenBracket StatementFrom (Then (IsSpan tk ts Whole) (close name)) (then_has Any StatementFrom (IsSpan tk ts Whole) (close name) (anything (IsSpan tk ts Whole))
        (λ size _. after_has ts CloseBracket StatementFrom (last name size) (after_has ts Semicolon StatementFrom (Gives (made bits name size)) (gives_has StatementFrom (made bits name size) (made_from bits name size)))))) i g h

    declaration_from : Has StatementFrom (IsDeclaration bytes tk ts)
    declaration_from i g (includes e f h) = after_has ts Semicolon StatementFrom (Gives (statement.Include (span_of tk (i + 1)))) (gives_has StatementFrom (statement.Include (span_of tk (i + 1))) tt) (i + 2) g h
    declaration_from i g (other_text e f) = tt
    declaration_from i g (no_text e n m) = tt
    declaration_from i g (quantum e h) = register_from Quantum (i + 1) g h
    declaration_from i g (classical e h) = register_from Classical (i + 1) g h
    declaration_from i g (defines e h) =
        let body = λ (name : Span) (ps us : List Span). Then (IsBody bytes tk ts) (λ body. Gives (statement.Gate name ps us body)) in
        let args = λ (name : Span) (ps : List Span). Then (Listed ts (IsSpan tk ts Id)) (λ us. After ts OpenBrace (body name ps us)) in
        let params = λ (name : Span). Then (Enclosed ts (IsSpan tk ts Id)) (args name) in
        then_has Any StatementFrom (IsSpan tk ts Id) params (anything (IsSpan tk ts Id))
        (λ name _. then_has Any StatementFrom (Enclosed ts (IsSpan tk ts Id)) (args name) (anything (Enclosed ts (IsSpan tk ts Id)))
        (λ ps _. then_has Any StatementFrom (Listed ts (IsSpan tk ts Id)) (λ us. After ts OpenBrace (body name ps us)) (anything (Listed ts (IsSpan tk ts Id)))
        (λ us _. after_has ts OpenBrace StatementFrom (body name ps us) (then_has Any StatementFrom (IsBody bytes tk ts) (λ b. Gives (statement.Gate name ps us b)) (anything (IsBody bytes tk ts))
        (λ b _. gives_has StatementFrom (statement.Gate name ps us b) tt))))) (i + 1) g h

    statement_from : (w : Whence) → Has StatementFrom (IsStatement bytes tk ts w)
    statement_from w i g (apply h) = then_has CallFrom StatementFrom (IsCall bytes tk ts Indexed) (λ c. Gives (statement.Apply c)) call_from (λ c q. gives_has StatementFrom (statement.Apply c) q) i g h
    statement_from w i g (barrier e h) = then_has Any StatementFrom (Listed ts (IsArg tk ts Indexed)) (λ us. After ts Semicolon (Gives (statement.Barrier us))) (anything (Listed ts (IsArg tk ts Indexed)))
        (λ us _. after_has ts Semicolon StatementFrom (Gives (statement.Barrier us)) (gives_has StatementFrom (statement.Barrier us) tt)) (i + 1) g h
    statement_from w i g (declares e h) = declaration_from i g h
    statement_from w i g (outside e) = tt
    statement_from w i g (opaquely e) = tt
    statement_from w i g (no_statement e) = tt

    pub program_from : (w : Whence) → Has (All StatementFrom) (IsProgram bytes tk ts w)
    program_from w i g (over e) = All-nil StatementFrom
    program_from w i g (statement {j = j} {s = s} {r = r} n h k) = put_has StatementFrom s r (statement_from w i (got s j) h) (program_from w j r k)
    program_from w i g (faulty n h) = tt

    pub text_from : (g : Got (List Statement)) → IsText bytes tk ts g → On (All StatementFrom) g
    text_from g (no_word n) = tt
    text_from g (no_version e v) = tt
    text_from g (no_sign e v n) = tt
    text_from g (text e v s h) = program_from TextWhence 3 g h
