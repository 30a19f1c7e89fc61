-- What is read of a text stands in it.
use Rattle.std.proofs.Common.{◌≡◌, ℕ, suc, zero, ◌+◌, ◌-◌, List, [], ◌∷◌, length, refl, sym, ◌∙◌, subst, arith, Some, None, inl, inr, Ok}
use Rattle.std.specs.Prelude.{All}
use Rattle.std.proofs.lemmas.List.{get_or_past, length-map}
use Rattle.std.proofs.lemmas.List.Elements.{All-nil, All-cons, All-append}
use Rattle.std.proofs.lemmas.Bool.{cases_lt}
use Rattle.qasm_lex.specs.declared.types.Token.{Token}
use Rattle.qasm_lex.specs.declared.types.Kind.TheVariants.{Sign}
use Rattle.qasm_lex.specs.Tokens.{Reads}
use Rattle.qasm_parse.specs.declared.sort.Sort.{Sort}
use Rattle.qasm_parse.specs.declared.sort.Sort.TheVariants.{End, OpenQasm, Include as IncludeWord, Qreg as QregWord, Creg as CregWord, Gate as GateWord, Opaque as OpaqueWord, Barrier as BarrierWord, Outside, Universal, Cx as CxWord, Pi, Function, Id, Other, Whole, Decimal, Library, Text, Semicolon, Comma, Open, Close, OpenBracket, CloseBracket, OpenBrace, CloseBrace, Plus, Minus, Times, Over, Power}
use Rattle.qasm_parse.specs.declared.program.Span.{Span}
use Rattle.qasm_parse.specs.declared.program.Arg.{Arg}
use Rattle.qasm_parse.specs.declared.program.Formula.{Formula}
use Rattle.qasm_parse.specs.declared.program.Called.TheVariants.{U, Cx, Named}
use Rattle.qasm_parse.specs.declared.program.Inner.TheVariants.{Apply as ApplyInner, Barrier as BarrierInner}
use Rattle.qasm_parse.specs.declared.program.Statement.{Statement}
use Rattle.qasm_parse.specs.declared.program.Statement.TheVariants.{Include, Gate, Apply, Barrier}
use Rattle.qasm_parse.specs.declared.phrases.Form.{Form}
use Rattle.qasm_parse.specs.declared.phrases.Form.TheVariants.{Bare, Indexed}
use Rattle.qasm_parse.specs.declared.whence.Whence.{Whence}
use Rattle.qasm_parse.specs.declared.whence.Whence.TheVariants.{Text as TextWhence, Block}
use Rattle.qasm_parse.specs.declared.whence.Bits.{Bits}
use Rattle.qasm_parse.specs.declared.whence.Bits.TheVariants.{Quantum, Classical}
use Rattle.qasm_parse.specs.Grammar.{at, chain}
use Rattle.qasm_parse.specs.Sorts.{IsWithin, sort_of, sorts_of}
use Rattle.qasm_parse.specs.Phrases.{Got, got, miss, put, Gives, After, after, elsewhere, Then, then, missed, Listed, final, next, missing, Enclosed, absent, empty, full, IsSpan, there, other, IsArg, bare, plain, indexed, no_name, span_of}
use Rattle.qasm_parse.specs.Formulas.{IsFormula, formula, no_formula, ids, id_at}
use Rattle.qasm_parse.specs.Statements.{IsCall, universal, controlled, applied, IsInner, applies, separates, not_unitary, is_opaque, wrong, IsBody, closed, inner, no_inner, IsRegister, made, IsDeclaration, includes, other_text, no_text, quantum, classical, defines, IsStatement, apply, barrier, declares, outside, opaquely, no_statement, IsProgram, over, statement, faulty, IsText, no_word, no_version, no_sign, text, answer, OfText, OfBlock}
use Rattle.qasm_parse.specs.Places.{SpanIn, ArgIn, FormulaIn, CallIn, InnerIn, StatementIn}
use Rattle.qasm_parse.specs.declared.sort.Level.TheVariants.{Sums}
use Rattle.qasm_parse.proofs.Cut.{all_within}
use Rattle.qasm_parse.proofs.Ranks.{formula_below}

-- a fact on what was got, where something was
abbrev pub On : {A : Type 0} → (A → Type 0) → Got A → Type 0
On Q (got a j) = Q a
On Q (miss f) = Unit {0}

-- each thing that is got has the fact
abbrev pub Has : {A : Type 0} → (A → Type 0) → (ℕ → Got A → Type 0) → Type 0
Has {A} Q thing = (i : ℕ) (g : Got A) → thing i g → On Q g

pub gives_has : {A : Type 0} (Q : A → Type 0) (a : A) → Q a → Has Q (Gives a)
gives_has Q a q i g e = subst (On Q) (sym e) q

pub after_has : {B : Type 0} (ts : List Sort) (s : Sort) (Q : B → Type 0) (rest : ℕ → Got B → Type 0) → Has Q rest → Has Q (After ts s rest)
after_has ts s Q rest h i g (after e k) = h (i + 1) g k
after_has ts s Q rest h i g (elsewhere n) = tt

pub then_has : {A B : Type 0} (P : A → Type 0) (Q : B → Type 0) (thing : ℕ → Got A → Type 0) (rest : A → ℕ → Got B → Type 0) → Has P thing → ((a : A) → P a → Has Q (rest a)) → Has Q (Then thing rest)
then_has P Q thing rest h k i g (then {a = a} {j = j} x y) = k a (h i (got a j) x) j g y
then_has P Q thing rest h k i g (missed x) = tt

pub put_has : {A : Type 0} (Q : A → Type 0) (a : A) (g : Got (List A)) → Q a → On (All Q) g → On (All Q) (put (a ∷ []) g)
put_has Q a (got xs j) q h = All-cons Q a xs q h
put_has Q a (miss f) q h = tt

pub listed_has : {A : Type 0} (ts : List Sort) (Q : A → Type 0) (thing : ℕ → Got A → Type 0) → Has Q thing → Has (All Q) (Listed ts thing)
listed_has ts Q thing h i g (final {j = j} {a = a} x n) = All-cons Q a [] (h i (got a j) x) (All-nil Q)
listed_has ts Q thing h i g (next {j = j} {a = a} {r = r} x c k) = put_has Q a r (h i (got a j) x) (listed_has ts Q thing h (j + 1) r k)
listed_has ts Q thing h i g (missing x) = tt

pub enclosed_has : {A : Type 0} (ts : List Sort) (Q : A → Type 0) (thing : ℕ → Got A → Type 0) → Has Q thing → Has (All Q) (Enclosed ts thing)
enclosed_has ts Q thing h i g (absent n) = All-nil Q
enclosed_has ts Q thing h i g (empty e f) = All-nil Q
enclosed_has ts Q thing h i g (full e n k) =
    then_has (All Q) (All Q) (Listed ts thing) (λ xs. After ts Close (Gives xs)) (listed_has ts Q thing h) (λ xs q. after_has ts Close (All Q) (Gives xs) (gives_has (All Q) xs q)) (i + 1) g k

module _ (bytes : List ℕ) (tk : List Token) (ts : List Sort) (in_it : All (IsWithin bytes) tk) (same : length tk ≡ length ts) where
  span_in : (i : ℕ) (s : Sort) → at ts i ≡ s → (s ≡ End → ⊥) → SpanIn bytes (span_of tk i)
  span_in i s e n = elim (cases_lt i (length ts)) [
    | inl lt ↦ in_it i (record { kind = Sign; from = 0; to = 0 }) (omega arith)
    | inr le ↦ absurd (n (sym e ∙ get_or_past ts i End le))
  ]

  span_has : (s : Sort) → (s ≡ End → ⊥) → Has (SpanIn bytes) (IsSpan tk ts s)
  span_has s n i g (there e) = span_in i s e n
  span_has s n i g (other _) = tt

  id_has : Has (SpanIn bytes) (IsSpan tk ts Id)
  id_has = span_has Id (λ e. cc)

  whole_has : Has (SpanIn bytes) (IsSpan tk ts Whole)
  whole_has = span_has Whole (λ e. cc)

  arg_has : (form : Form) → Has (ArgIn bytes) (IsArg tk ts form)
  arg_has Bare i g (bare h) = then_has (SpanIn bytes) (ArgIn bytes) (IsSpan tk ts Id) (λ name. Gives (record { name = name; index = None })) id_has (λ name q. gives_has (ArgIn bytes) (record { name = name; index = None }) (q, tt)) i g h
  arg_has Indexed i g (plain {j = j} {name = name} h n) = (id_has i (got name j) h, tt)
  arg_has Indexed i g (indexed {j = j} {name = name} h c k) =
      let q = id_has i (got name j) h in
      then_has (SpanIn bytes) (ArgIn bytes) (IsSpan tk ts Whole) (λ index. After ts CloseBracket (Gives (record { name = name; index = Some index }))) whole_has
      (λ index r. after_has ts CloseBracket (ArgIn bytes) (Gives (record { name = name; index = Some index })) (gives_has (ArgIn bytes) (record { name = name; index = Some index }) (q, r))) (j + 1) g k
  arg_has Indexed i g (no_name h) = tt

  one_id : (k : ℕ) (s : Sort) → at ts k ≡ s → All (SpanIn bytes) (id_at s (span_of tk k))
  one_id k End e = All-nil (SpanIn bytes)
  one_id k OpenQasm e = All-nil (SpanIn bytes)
  one_id k IncludeWord e = All-nil (SpanIn bytes)
  one_id k QregWord e = All-nil (SpanIn bytes)
  one_id k CregWord e = All-nil (SpanIn bytes)
  one_id k GateWord e = All-nil (SpanIn bytes)
  one_id k OpaqueWord e = All-nil (SpanIn bytes)
  one_id k BarrierWord e = All-nil (SpanIn bytes)
  one_id k Outside e = All-nil (SpanIn bytes)
  one_id k Universal e = All-nil (SpanIn bytes)
  one_id k CxWord e = All-nil (SpanIn bytes)
  one_id k Pi e = All-nil (SpanIn bytes)
  one_id k Function e = All-nil (SpanIn bytes)
  one_id k Id e = All-cons (SpanIn bytes) (span_of tk k) [] (span_in k Id e (λ z. cc)) (All-nil (SpanIn bytes))
  one_id k Other e = All-nil (SpanIn bytes)
  one_id k Whole e = All-nil (SpanIn bytes)
  one_id k Decimal e = All-nil (SpanIn bytes)
  one_id k Library e = All-nil (SpanIn bytes)
  one_id k Text e = All-nil (SpanIn bytes)
  one_id k Semicolon e = All-nil (SpanIn bytes)
  one_id k Comma e = All-nil (SpanIn bytes)
  one_id k Open e = All-nil (SpanIn bytes)
  one_id k Close e = All-nil (SpanIn bytes)
  one_id k OpenBracket e = All-nil (SpanIn bytes)
  one_id k CloseBracket e = All-nil (SpanIn bytes)
  one_id k OpenBrace e = All-nil (SpanIn bytes)
  one_id k CloseBrace e = All-nil (SpanIn bytes)
  one_id k Plus e = All-nil (SpanIn bytes)
  one_id k Minus e = All-nil (SpanIn bytes)
  one_id k Times e = All-nil (SpanIn bytes)
  one_id k Over e = All-nil (SpanIn bytes)
  one_id k Power e = All-nil (SpanIn bytes)

  ids_in : (i n : ℕ) → All (SpanIn bytes) (ids tk ts i n)
  unfolding ids
  ids_in i zero = All-nil (SpanIn bytes)
  ids_in i (suc n) = All-append (SpanIn bytes) (ids tk ts i n) (id_at (at ts (i + n)) (span_of tk (i + n))) (ids_in i n) (one_id (i + n) (at ts (i + n)) refl)

  formula_has : Has (FormulaIn bytes) (IsFormula bytes tk ts)
  formula_has i g (formula {j = j} {ms = ms} {f = f} h o e p) = (subst (All (SpanIn bytes)) (sym e) (ids_in i (j - i)), formula_below bytes tk ts (chain Sums) 128 i j ms f.expr f.ids h o e)
  formula_has i g (no_formula h) = tt

  call_has : (form : Form) → Has (CallIn bytes) (IsCall bytes tk ts form)
  call_has form i g (universal e h) =
      let q = span_in i Universal e (λ z. cc) in
      let last = λ (ps : List Formula) (a : Arg). After ts Semicolon (Gives (record { gate = U; at = span_of tk i; params = ps; args = a ∷ [] })) in
      let rest = λ (ps : List Formula). After ts Close (Then (IsArg tk ts form) (last ps)) in
      after_has ts Open (CallIn bytes) (Then (Listed ts (IsFormula bytes tk ts)) rest)
      (then_has (All (FormulaIn bytes)) (CallIn bytes) (Listed ts (IsFormula bytes tk ts)) rest (listed_has ts (FormulaIn bytes) (IsFormula bytes tk ts) formula_has)
      (λ ps p. after_has ts Close (CallIn bytes) (Then (IsArg tk ts form) (last ps)) (then_has (ArgIn bytes) (CallIn bytes) (IsArg tk ts form) (last ps) (arg_has form)
      (λ a r. after_has ts Semicolon (CallIn bytes) (Gives (record { gate = U; at = span_of tk i; params = ps; args = a ∷ [] })) (gives_has (CallIn bytes) (record { gate = U; at = span_of tk i; params = ps; args = a ∷ [] }) (q, p, All-cons (ArgIn bytes) a [] r (All-nil (ArgIn bytes))))))))
      (i + 1) g h
  call_has form i g (controlled e h) =
      let q = span_in i CxWord e (λ z. cc) in
      let last = λ (a b : Arg). After ts Semicolon (Gives (record { gate = Cx; at = span_of tk i; params = []; args = a ∷ (b ∷ []) })) in
      let rest = λ (a : Arg). After ts Comma (Then (IsArg tk ts form) (last a)) in
      then_has (ArgIn bytes) (CallIn bytes) (IsArg tk ts form) rest (arg_has form)
      (λ a p. after_has ts Comma (CallIn bytes) (Then (IsArg tk ts form) (last a)) (then_has (ArgIn bytes) (CallIn bytes) (IsArg tk ts form) (last a) (arg_has form)
      (λ b r. after_has ts Semicolon (CallIn bytes) (Gives (record { gate = Cx; at = span_of tk i; params = []; args = a ∷ (b ∷ []) })) (gives_has (CallIn bytes) (record { gate = Cx; at = span_of tk i; params = []; args = a ∷ (b ∷ []) }) (q, All-nil (FormulaIn bytes), All-cons (ArgIn bytes) a (b ∷ []) p (All-cons (ArgIn bytes) b [] r (All-nil (ArgIn bytes))))))))
      (i + 1) g h
  call_has form i g (applied e h) =
      let q = span_in i Id e (λ z. cc) in
      let last = λ (ps : List Formula) (us : List Arg). After ts Semicolon (Gives (record { gate = Named; at = span_of tk i; params = ps; args = us })) in
      let rest = λ (ps : List Formula). Then (Listed ts (IsArg tk ts form)) (last ps) in
      then_has (All (FormulaIn bytes)) (CallIn bytes) (Enclosed ts (IsFormula bytes tk ts)) rest (enclosed_has ts (FormulaIn bytes) (IsFormula bytes tk ts) formula_has)
      (λ ps p. then_has (All (ArgIn bytes)) (CallIn bytes) (Listed ts (IsArg tk ts form)) (last ps) (listed_has ts (ArgIn bytes) (IsArg tk ts form) (arg_has form))
      (λ us r. after_has ts Semicolon (CallIn bytes) (Gives (record { gate = Named; at = span_of tk i; params = ps; args = us })) (gives_has (CallIn bytes) (record { gate = Named; at = span_of tk i; params = ps; args = us }) (q, p, r))))
      (i + 1) g h

  names_has : Has (All (SpanIn bytes)) (Listed ts (IsSpan tk ts Id))
  names_has = listed_has ts (SpanIn bytes) (IsSpan tk ts Id) id_has

  inner_has : Has (InnerIn bytes) (IsInner bytes tk ts)
  inner_has i g (applies h) = then_has (CallIn bytes) (InnerIn bytes) (IsCall bytes tk ts Bare) (λ c. Gives (ApplyInner c)) (call_has Bare) (λ c q. gives_has (InnerIn bytes) (ApplyInner c) q) i g h
  inner_has i g (separates e h) = then_has (All (SpanIn bytes)) (InnerIn bytes) (Listed ts (IsSpan tk ts Id)) (λ ns. After ts Semicolon (Gives (BarrierInner ns))) names_has (λ ns q. after_has ts Semicolon (InnerIn bytes) (Gives (BarrierInner ns)) (gives_has (InnerIn bytes) (BarrierInner ns) q)) (i + 1) g h
  inner_has i g (not_unitary e) = tt
  inner_has i g (is_opaque e) = tt
  inner_has i g (wrong e) = tt

  body_has : Has (All (InnerIn bytes)) (IsBody bytes tk ts)
  body_has i g (closed e) = All-nil (InnerIn bytes)
  body_has i g (inner {j = j} {s = s} {r = r} n h k) = put_has (InnerIn bytes) s r (inner_has i (got s j) h) (body_has j r k)
  body_has i g (no_inner n h) = tt

  made_in : (bits : Bits) (name size : Span) → SpanIn bytes name → SpanIn bytes size → StatementIn bytes (made bits name size)
  made_in Quantum name size p q = (p, q)
  made_in Classical name size p q = (p, q)

  register_has : (bits : Bits) → Has (StatementIn bytes) (IsRegister tk ts (made bits))
  register_has bits i g h =
      let last = λ (name size : Span). After ts Semicolon (Gives (made bits name size)) in
      let close = λ (name size : Span). After ts CloseBracket (last name size) in
      let rest = λ (name : Span). After ts OpenBracket (Then (IsSpan tk ts Whole) (close name)) in
      then_has (SpanIn bytes) (StatementIn bytes) (IsSpan tk ts Id) rest id_has
      (λ name p. after_has ts OpenBracket (StatementIn bytes) (Then (IsSpan tk ts Whole) (close name)) (then_has (SpanIn bytes) (StatementIn bytes) (IsSpan tk ts Whole) (close name) whole_has
      (λ size q. after_has ts CloseBracket (StatementIn bytes) (last name size) (after_has ts Semicolon (StatementIn bytes) (Gives (made bits name size)) (gives_has (StatementIn bytes) (made bits name size) (made_in bits name size p q)))))) i g h

  declaration_has : Has (StatementIn bytes) (IsDeclaration bytes tk ts)
  declaration_has i g (includes e f h) = after_has ts Semicolon (StatementIn bytes) (Gives (Include (span_of tk (i + 1)))) (gives_has (StatementIn bytes) (Include (span_of tk (i + 1))) (span_in (i + 1) Library f (λ z. cc))) (i + 2) g h
  declaration_has i g (other_text e f) = tt
  declaration_has i g (no_text e n m) = tt
  declaration_has i g (quantum e h) = register_has Quantum (i + 1) g h
  declaration_has i g (classical e h) = register_has Classical (i + 1) g h
  declaration_has i g (defines e h) =
      let body = λ (name : Span) (ps us : List Span). Then (IsBody bytes tk ts) (λ body. Gives (Gate name ps us body)) in
      let args = λ (name : Span) (ps : List Span). Then (Listed ts (IsSpan tk ts Id)) (λ us. After ts OpenBrace (body name ps us)) in
      let params = λ (name : Span). Then (Enclosed ts (IsSpan tk ts Id)) (args name) in
      then_has (SpanIn bytes) (StatementIn bytes) (IsSpan tk ts Id) params id_has
      (λ name p. then_has (All (SpanIn bytes)) (StatementIn bytes) (Enclosed ts (IsSpan tk ts Id)) (args name) (enclosed_has ts (SpanIn bytes) (IsSpan tk ts Id) id_has)
      (λ ps q. then_has (All (SpanIn bytes)) (StatementIn bytes) (Listed ts (IsSpan tk ts Id)) (λ us. After ts OpenBrace (body name ps us)) names_has
      (λ us r. after_has ts OpenBrace (StatementIn bytes) (body name ps us) (then_has (All (InnerIn bytes)) (StatementIn bytes) (IsBody bytes tk ts) (λ b. Gives (Gate name ps us b)) body_has
      (λ b s. gives_has (StatementIn bytes) (Gate name ps us b) (p, q, r, s)))))) (i + 1) g h

  statement_has : (w : Whence) → Has (StatementIn bytes) (IsStatement bytes tk ts w)
  statement_has w i g (apply h) = then_has (CallIn bytes) (StatementIn bytes) (IsCall bytes tk ts Indexed) (λ c. Gives (Apply c)) (call_has Indexed) (λ c q. gives_has (StatementIn bytes) (Apply c) q) i g h
  statement_has w i g (barrier e h) = then_has (All (ArgIn bytes)) (StatementIn bytes) (Listed ts (IsArg tk ts Indexed)) (λ us. After ts Semicolon (Gives (Barrier us))) (listed_has ts (ArgIn bytes) (IsArg tk ts Indexed) (arg_has Indexed)) (λ us q. after_has ts Semicolon (StatementIn bytes) (Gives (Barrier us)) (gives_has (StatementIn bytes) (Barrier us) q)) (i + 1) g h
  statement_has w i g (declares e h) = declaration_has i g h
  statement_has w i g (outside e) = tt
  statement_has w i g (opaquely e) = tt
  statement_has w i g (no_statement e) = tt

  program_has : (w : Whence) → Has (All (StatementIn bytes)) (IsProgram bytes tk ts w)
  program_has w i g (over e) = All-nil (StatementIn bytes)
  program_has w i g (statement {j = j} {s = s} {r = r} n h k) = put_has (StatementIn bytes) s r (statement_has w i (got s j) h) (program_has w j r k)
  program_has w i g (faulty n h) = tt

  text_has : (g : Got (List Statement)) → IsText bytes tk ts g → On (All (StatementIn bytes)) g
  text_has g (no_word n) = tt
  text_has g (no_version e v) = tt
  text_has g (no_sign e v n) = tt
  text_has g (text e v s h) = program_has TextWhence 3 g h

as_answer : (bytes : List ℕ) (tk : List Token) (g : Got (List Statement)) (xs : List Statement) → Ok xs ≡ answer bytes tk g → On (All (StatementIn bytes)) g → All (StatementIn bytes) xs
as_answer bytes tk (got ys j) xs e h = let f : xs ≡ ys = cc in subst (All (StatementIn bytes)) (sym f) h
as_answer bytes tk (miss f) xs e h = absurd (cc)

-- what a text or a block is stands in it
pub text_within : (bytes : List ℕ) (tk : List Token) (xs : List Statement) → Reads bytes 0 (Ok tk) → OfText bytes tk (Ok xs) → All (StatementIn bytes) xs
text_within bytes tk xs c (g, h, e) = as_answer bytes tk g xs e (text_has bytes tk (sorts_of bytes tk) (all_within bytes tk c) (sym (length-map tk (sort_of bytes))) g h)

pub block_within : (bytes : List ℕ) (tk : List Token) (xs : List Statement) → Reads bytes 0 (Ok tk) → OfBlock bytes tk (Ok xs) → All (StatementIn bytes) xs
block_within bytes tk xs c (g, h, e) = as_answer bytes tk g xs e (program_has bytes tk (sorts_of bytes tk) (all_within bytes tk c) (sym (length-map tk (sort_of bytes))) Block 0 g h)
