-- The faults of a text and of a block are within it.
use Rattle.std.proofs.Common.{◌≡◌, ℕ, zero, suc, ◌+◌, ◌≤◌, Bool, true, false, not, nat_eq, Option, Some, None, inl, inr, List, [], ◌∷◌, ◌++◌, length, Result, Ok, Err, refl, sym, ap, subst, arith, if◌then◌else◌}
use Rattle.std.specs.Prelude.{All, map, option_map, nat_le, nat_lt, ◌&&◌, is_some, IfErr}
use Rattle.std.proofs.lemmas.Bool.{cases_lt}
use Rattle.std.proofs.lemmas.List.{get_or_past}
use Rattle.std.proofs.lemmas.List.Elements.{All-head, All-tail, All-weaker, All-map}
use Rattle.ps_prim.specs.declared.prims.Primitive.{Primitive as Prim}
use Rattle.qasm_lex.specs.declared.types.Token.{Token}
use Rattle.qasm_lex.specs.declared.types.Kind.TheVariants.{Sign}
use Rattle.qasm_lex.specs.declared.types.LexFault.{LexFault}
use Rattle.qasm_lex.specs.declared.types.LexFault.TheVariants as lex
use Rattle.qasm_lex.specs.Tokens.{IsFault, Reads, finished, gap, token, bad}
use Rattle.qasm_lex.specs.Tokens as tokens
use Rattle.qasm_angle.specs.declared.types.AngleFault.{AngleFault}
use Rattle.qasm_angle.specs.declared.types.AngleFault.TheVariants as angle
use Rattle.qasm_parse.specs.declared.fault.ParseFault.{ParseFault}
use Rattle.qasm_parse.specs.declared.fault.ParseFault.TheVariants as parse
use Rattle.qasm_parse.specs.declared.program.Span.{Span}
use Rattle.qasm_parse.specs.declared.program.Arg.{Arg}
use Rattle.qasm_parse.specs.declared.program.Formula.{Formula}
use Rattle.qasm_parse.specs.declared.program.Call.{Call}
use Rattle.qasm_parse.specs.declared.program.Called.{Called as Word}
use Rattle.qasm_parse.specs.declared.program.Called.TheVariants.{U as UWord, Cx as CxWord, Named}
use Rattle.qasm_parse.specs.declared.program.Inner.{Inner as Stated}
use Rattle.qasm_parse.specs.declared.program.Inner.TheVariants.{Apply as ApplyInner, Barrier as BarrierInner}
use Rattle.qasm_parse.specs.declared.program.Statement.{Statement}
use Rattle.qasm_parse.specs.declared.program.Statement.TheVariants as statement
use Rattle.qasm_parse.specs.declared.whence.Whence.TheVariants.{Block}
use Rattle.qasm_parse.specs.Sorts.{IsWithin, sorts_of}
use Rattle.qasm_parse.specs.Phrases.{Got, got, miss}
use Rattle.qasm_parse.specs.Statements.{made, offset, placed, answer, OfText, OfBlock}
use Rattle.qasm_parse.specs.Places.{SpanIn, IndexIn, ArgIn, FormulaIn, CallIn, InnerIn, StatementIn}
use Rattle.qasm_parse.proofs.Cut.{all_within}
use Rattle.qasm_parse.proofs.Within.{On, text_within, block_within}
use Rattle.qasm_expand.specs.declared.fault.FaultName.{FaultName}
use Rattle.qasm_expand.specs.declared.fault.FaultName.TheVariants.{Unknown, Arity, Redeclared, Range, RepeatedQubit, Sizes, TooMany, NoParameter, NoQubits}
use Rattle.qasm_expand.specs.declared.fault.ReadFault.{ReadFault}
use Rattle.qasm_expand.specs.declared.fault.ReadFault.TheVariants.{Fault, Memory}
use Rattle.qasm_expand.specs.Checks.{spelled, number_at, and_then, or_fault, unless, refuse, of_tokens, of_grammar, of_angle}
use Rattle.qasm_expand.specs.declared.broken.Broken.{Broken}
use Rattle.qasm_expand.specs.declared.broken.Broken.TheVariants.{Own, Inside}
use Rattle.qasm_expand.specs.declared.defs.Called.TheVariants.{Def as ADef}
use Rattle.qasm_expand.specs.declared.defs.Def.{Def}
use Rattle.qasm_expand.specs.declared.state.State.{State}
use Rattle.qasm_expand.specs.declared.tables.Circuit.{Circuit}
use Rattle.qasm_expand.specs.declared.target.Target.{Target}
use Rattle.qasm_expand.specs.declared.target.Target.TheVariants.{Single, Whole as WholeTarget}
use Rattle.qasm_expand.specs.Tables.{Register, Bound, meaning, register_of, qubit_count, is_among}
use Rattle.qasm_expand.specs.Gates.{place_of, names, again, first_again, called, wrong_arity, before, places, first_repeated, numbers, renumbered, expression, expressions, arg_names, inner_of, body_of, def_of}
use Rattle.qasm_expand.specs.Library.{TextIs, bad_tokens, by_grammar, BlockIs, bad_block_tokens, by_block_grammar, parsed, is_own, defined, defining}
use Rattle.qasm_expand.specs.Targets.{indexed, of_register, target_of, targets_of, first_uneven, index_count, qubits_at, repeat_at, or_else, repeat_from, too_many, aimed, expression_at, broken_at, items_or_fault, Applies, missed, applies}
use Rattle.qasm_expand.specs.Statements as taking
use Rattle.qasm_expand.specs.Statements.{bad_size, declared_as, behind, past, Takes, Expands, ended, taken}
use Rattle.qasm_expand.specs.Circuits.{TableOf, CircuitOf, nothing_yet, circuit_of, closed, ReadsText, misread, expanded, behind_text, items_of, ReadsBlock, misread_block, expanded_block}
use Rattle.qasm_expand.specs.Reading.{CircuitTold, ItemsTold}
use Rattle.qasm_expand.specs.Places.{IsInside, IsPlaced}
use Rattle.qasm_expand.proofs.FirstBytes.{FormulaFrom, StatementFrom, text_from, program_from}

module _ (bytes : List ℕ) where
  -- the fault, where there is one, is inside
  abbrev pub Fails : {A : Type 0} → Result A ReadFault → Type 0
  Fails (Ok a) = Unit {0}
  Fails (Err f) = IsInside bytes f

  -- ---- tokens
  lex_inside : (a : ℕ) (f : LexFault) → IsFault bytes a f → IsInside bytes (of_tokens f)
  lex_inside a (lex.BadByte n) (g, h) = let lt = g.inside in let e = h.0 in omega arith
  lex_inside a (lex.BadNumber n) (g, h) = let lt = g.inside in let e = h.0 in omega arith
  lex_inside a (lex.OpenString n) (g, h) = let lt = g.inside in let e = h.0 in omega arith
  lex_inside a lex.Memory h = tt

  abbrev LexFails : Result (List Token) LexFault → Type 0
  LexFails (Ok ts) = Unit {0}
  LexFails (Err f) = IsInside bytes (of_tokens f)

  before_fails : (t : Token) (r : Result (List Token) LexFault) → LexFails r → LexFails (tokens.before t r)
  before_fails t (Ok ts) h = tt
  before_fails t (Err f) h = h

  reads_inside : (a : ℕ) (r : Result (List Token) LexFault) → Reads bytes a r → LexFails r
  reads_inside a r (finished e) = tt
  reads_inside a r (gap {b = b} lt g h) = reads_inside b r h
  reads_inside a r (token {b = b} {kind = k} {r = s} t h) = before_fails (record { kind = k; from = a; to = b }) s (reads_inside b s h)
  reads_inside a r (bad {f = f} h) = lex_inside a f h

  -- ---- the grammar
  offset_inside : (tk : List Token) → All (IsWithin bytes) tk → (n : ℕ) → offset bytes tk n ≤ length bytes
  offset_inside tk in_it n = elim (cases_lt n (length tk)) [
    | inl lt ↦ (let p = in_it n (record { kind = Sign; from = length bytes; to = length bytes }) lt in let x = p.0 in let y = p.1 in omega arith)
    | inr le ↦ (let e = ap (λ (t : Token). t.from) (get_or_past tk n (record { kind = Sign; from = length bytes; to = length bytes }) le) in omega arith)
  ]

  placed_inside : (tk : List Token) → All (IsWithin bytes) tk → (f : ParseFault) → IsInside bytes (of_grammar (placed bytes tk f))
  placed_inside tk h (parse.Version n) = offset_inside tk h n
  placed_inside tk h (parse.Syntax n) = offset_inside tk h n
  placed_inside tk h (parse.NotUnitary n) = offset_inside tk h n
  placed_inside tk h (parse.Include n) = offset_inside tk h n
  placed_inside tk h (parse.Opaque n) = offset_inside tk h n
  placed_inside tk h (parse.Deep n) = offset_inside tk h n
  placed_inside tk h parse.Memory = tt

  answer_inside : (tk : List Token) → All (IsWithin bytes) tk → (g : Got (List Statement)) (r : Result (List Statement) ParseFault) → r ≡ answer bytes tk g → Fails (parsed r)
  answer_inside tk h (got ss j) r e = subst (λ z. Fails (parsed z)) (sym e) tt
  answer_inside tk h (miss f) r e = subst (λ z. Fails (parsed z)) (sym e) (placed_inside tk h f)

  text_fails : (r : Result (List Statement) ReadFault) → TextIs bytes r → Fails r
  text_fails r (bad_tokens {f = f} h) = reads_inside 0 (Err f) h
  text_fails r (by_grammar {tk = tk} {r = x} h (g, _, e)) = answer_inside tk (all_within bytes tk h) g x e

  block_fails : (r : Result (List Statement) ReadFault) → BlockIs bytes r → Fails r
  block_fails r (bad_block_tokens {f = f} h) = reads_inside 0 (Err f) h
  block_fails r (by_block_grammar {tk = tk} {r = x} h (g, _, e)) = answer_inside tk (all_within bytes tk h) g x e

  -- all spans of a statement, and the first bytes of its expressions
  abbrev pub Stands : Statement → Type 0
  Stands s = StatementIn bytes s × StatementFrom bytes s

  from_answer : (tk : List Token) (g : Got (List Statement)) (ss : List Statement) → Ok ss ≡ answer bytes tk g → On (All (StatementFrom bytes)) g → All (StatementFrom bytes) ss
  from_answer tk (got us j) ss e h = let f : ss ≡ us = cc in subst (All (StatementFrom bytes)) (sym f) h
  from_answer tk (miss f) ss e h = absurd (cc)

  both_stand : (ss : List Statement) → All (StatementIn bytes) ss → All (StatementFrom bytes) ss → All Stands ss
  both_stand ss h k i d lt = (h i d lt, k i d lt)

  parsed_ok : (x : Result (List Statement) ParseFault) (ss : List Statement) → parsed x ≡ Ok ss → x ≡ Ok ss
  parsed_ok (Ok us) ss e = let f : us ≡ ss = cc in ap Ok f
  parsed_ok (Err f) ss e = absurd (cc)

  text_stands : (r : Result (List Statement) ReadFault) (ss : List Statement) → TextIs bytes r → r ≡ Ok ss → All Stands ss
  text_stands r ss (bad_tokens h) e = absurd (cc)
  text_stands r ss (by_grammar {tk = tk} {r = x} h p) e =
      let q : OfText bytes tk (Ok ss) = subst (OfText bytes tk) (parsed_ok x ss e) p in
      both_stand ss (text_within bytes tk ss h q) (from_answer tk q.0 ss q.2 (text_from bytes tk (sorts_of bytes tk) (all_within bytes tk h) q.0 q.1))

  block_stands : (r : Result (List Statement) ReadFault) (ss : List Statement) → BlockIs bytes r → r ≡ Ok ss → All Stands ss
  block_stands r ss (bad_block_tokens h) e = absurd (cc)
  block_stands r ss (by_block_grammar {tk = tk} {r = x} h p) e =
      let q : OfBlock bytes tk (Ok ss) = subst (OfBlock bytes tk) (parsed_ok x ss e) p in
      both_stand ss (block_within bytes tk ss h q) (from_answer tk q.0 ss q.2 (program_from bytes tk (sorts_of bytes tk) (all_within bytes tk h) Block 0 q.0 q.1))

  -- ---- checks
  -- the name may be told of a place
  abbrev Tells : FaultName → Type 0
  Tells name = (at : ℕ) → at ≤ length bytes → IsInside bytes (Fault name at)

  span_at : (p : Span) → SpanIn bytes p → p.from ≤ length bytes
  span_at p (x, y) = omega arith

  then_fails : {A B : Type 0} (r : Result A ReadFault) (k : A → Result B ReadFault) → Fails r → ((a : A) → Fails (k a)) → Fails (and_then r k)
  then_fails (Ok a) k h g = g a
  then_fails (Err f) k h g = h

  unless_fails : {A : Type 0} (name : FaultName) → Tells name → (o : Option Span) (r : Result A ReadFault) → IndexIn bytes o → Fails r → Fails (unless name o r)
  unless_fails name t (Some p) r h g = t p.from (span_at p h)
  unless_fails name t None r h g = g

  refuse_fails : {A : Type 0} (name : FaultName) → Tells name → (b : Bool) (p : Span) (r : Result A ReadFault) → SpanIn bytes p → Fails r → Fails (refuse b name p r)
  refuse_fails name t true p r h g = t p.from (span_at p h)
  refuse_fails name t false p r h g = g

  or_fails : {A : Type 0} (name : FaultName) → Tells name → (p : Span) (o : Option A) → SpanIn bytes p → Fails (or_fault name p o)
  or_fails name t p (Some a) h = tt
  or_fails name t p None h = t p.from (span_at p h)

  before_gates : {A : Type 0} (a : A) (r : Result (List A) ReadFault) → Fails r → Fails (before a r)
  before_gates a (Ok as') h = tt
  before_gates a (Err f) h = h

  arg_names_in : (args : List Arg) → All (ArgIn bytes) args → All (SpanIn bytes) (arg_names args)
  arg_names_in args h = All-map (SpanIn bytes) (λ (a : Arg). a.name) args (All-weaker (ArgIn bytes) (λ a. SpanIn bytes a.name) (λ a k. k.0) args h)

  -- ---- definitions
  called_fails : (bound : List Bound) (w : Word) (p : Span) → SpanIn bytes p → Fails (called bytes bound w p)
  called_fails bound UWord p h = tt
  called_fails bound CxWord p h = tt
  called_fails bound Named p h = or_fails Unknown (λ at l. l) p (option_map ADef (meaning bound (spelled bytes p))) h

  again_in : (i : Option ℕ) (p : Span) (q : Option Span) → SpanIn bytes p → IndexIn bytes q → IndexIn bytes (again i p q)
  again_in (Some i) p q h k = h
  again_in None p q h k = k

  first_again_in : (seen : List (List ℕ)) (ps : List Span) → All (SpanIn bytes) ps → IndexIn bytes (first_again bytes seen ps)
  unfolding first_again
  first_again_in seen [] h = tt
  first_again_in seen (p ∷ ps) h = again_in (place_of seen (spelled bytes p)) p (first_again bytes (seen ++ spelled bytes p ∷ []) ps) (All-head (SpanIn bytes) p ps h) (first_again_in (seen ++ spelled bytes p ∷ []) ps (All-tail (SpanIn bytes) p ps h))

  places_fails : (formals : List (List ℕ)) (ps : List Span) → All (SpanIn bytes) ps → Fails (places bytes formals ps)
  unfolding places
  places_fails formals [] h = tt
  places_fails formals (p ∷ ps) h =
      then_fails (or_fault Unknown p (place_of formals (spelled bytes p))) (λ i. before i (places bytes formals ps)) (or_fails Unknown (λ at l. l) p (place_of formals (spelled bytes p)) (All-head (SpanIn bytes) p ps h))
      (λ i. before_gates i (places bytes formals ps) (places_fails formals ps (All-tail (SpanIn bytes) p ps h)))

  numbers_fails : (formals : List (List ℕ)) (ps : List Span) → All (SpanIn bytes) ps → Fails (numbers bytes formals ps)
  unfolding numbers
  numbers_fails formals [] h = tt
  numbers_fails formals (p ∷ ps) h =
      then_fails (or_fault NoParameter p (place_of formals (spelled bytes p))) (λ i. before i (numbers bytes formals ps)) (or_fails NoParameter (λ at l. l) p (place_of formals (spelled bytes p)) (All-head (SpanIn bytes) p ps h))
      (λ i. before_gates i (numbers bytes formals ps) (numbers_fails formals ps (All-tail (SpanIn bytes) p ps h)))

  one_of : (b : Bool) (p : Span) (o : Option Span) → SpanIn bytes p → IndexIn bytes o → IndexIn bytes (if b then Some p else o)
  one_of true p o h k = h
  one_of false p o h k = k

  first_repeated_in : (seen qs : List ℕ) (ps : List Span) → All (SpanIn bytes) ps → IndexIn bytes (first_repeated seen qs ps)
  unfolding first_repeated
  first_repeated_in seen [] ps h = tt
  first_repeated_in seen (q ∷ qs) [] h = tt
  first_repeated_in seen (q ∷ qs) (p ∷ ps) h = one_of (is_among q seen) p (first_repeated (q ∷ seen) qs ps) (All-head (SpanIn bytes) p ps h) (first_repeated_in (q ∷ seen) qs ps (All-tail (SpanIn bytes) p ps h))

  expressions_fails : (formals : List (List ℕ)) (fs : List Formula) → All (FormulaIn bytes) fs → Fails (expressions bytes formals fs)
  unfolding expressions
  expressions_fails formals [] h = tt
  expressions_fails formals (f ∷ fs) h =
      then_fails (expression bytes formals f) (λ e. before e (expressions bytes formals fs))
      (then_fails (numbers bytes formals f.ids) (λ is. Ok (map (renumbered is) f.expr)) (numbers_fails formals f.ids (All-head (FormulaIn bytes) f fs h).0) (λ is. tt))
      (λ e. before_gates e (expressions bytes formals fs) (expressions_fails formals fs (All-tail (FormulaIn bytes) f fs h)))

  module _ (defs : List Def) (bound : List Bound) where
    inner_fails : (params args : List (List ℕ)) (c : Call) → CallIn bytes c → Fails (inner_of bytes defs bound params args c)
    inner_fails params args c (at, fs, us) =
        let ns = arg_names_in c.args us in
        then_fails (called bytes bound c.gate c.at) _ (called_fails bound c.gate c.at at) (λ gate.
        refuse_fails Arity (λ n l. l) (wrong_arity defs gate (length c.params) (length c.args)) c.at _ at
        (then_fails (places bytes args (arg_names c.args)) _ (places_fails args (arg_names c.args) ns) (λ qs.
        unless_fails RepeatedQubit (λ n l. l) (first_repeated [] qs (arg_names c.args)) _ (first_repeated_in [] qs (arg_names c.args) ns)
        (then_fails (expressions bytes params c.params) _ (expressions_fails params c.params fs) (λ es. tt)))))

    body_fails : (params args : List (List ℕ)) (ss : List Stated) → All (InnerIn bytes) ss → Fails (body_of bytes defs bound params args ss)
    unfolding body_of
    body_fails params args [] h = tt
    body_fails params args (ApplyInner c ∷ ss) h =
        then_fails (inner_of bytes defs bound params args c) (λ i. before i (body_of bytes defs bound params args ss)) (inner_fails params args c (All-head (InnerIn bytes) (ApplyInner c) ss h))
        (λ i. before_gates i (body_of bytes defs bound params args ss) (body_fails params args ss (All-tail (InnerIn bytes) (ApplyInner c) ss h)))
    body_fails params args (BarrierInner ps ∷ ss) h =
        then_fails (places bytes args ps) (λ qs. body_of bytes defs bound params args ss) (places_fails args ps (All-head (InnerIn bytes) (BarrierInner ps) ss h)) (λ qs. body_fails params args ss (All-tail (InnerIn bytes) (BarrierInner ps) ss h))

    def_fails : (params args : List Span) (body : List Stated) → All (SpanIn bytes) params → All (SpanIn bytes) args → All (InnerIn bytes) body → Fails (def_of bytes defs bound params args body)
    def_fails params args body p q h =
        unless_fails Redeclared (λ n l. l) (first_again bytes [] params) _ (first_again_in [] params p)
        (unless_fails Redeclared (λ n l. l) (first_again bytes [] args) _ (first_again_in [] args q)
        (then_fails (body_of bytes defs bound (names bytes params) (names bytes args) body) _ (body_fails (names bytes params) (names bytes args) body h) (λ is. tt)))

  defining_fails : (st : State) (name : Span) (params args : List Span) (body : List Stated) → StatementIn bytes (statement.Gate name params args body) → Fails (defining bytes st name params args body)
  defining_fails st name params args body (n, p, q, h) =
      refuse_fails Redeclared (λ at l. l) (is_own st (spelled bytes name)) name _ n
      (then_fails (defined bytes (record { defs = st.defs; bound = st.bound }) name params args body) _ (then_fails (def_of bytes st.defs st.bound params args body) _ (def_fails st.defs st.bound params args body p q h) (λ d. tt)) (λ g. tt))

  declared_fails : (q : Bool) (st : State) (name size : Span) → SpanIn bytes name → SpanIn bytes size → Fails (declared_as q bytes st name size)
  declared_fails q st name size n s =
      refuse_fails Redeclared (λ at l. l) (is_some (register_of st.registers (spelled bytes name))) name _ n
      (refuse_fails Range (λ at l. l) (bad_size (number_at bytes size)) size _ s
      (refuse_fails TooMany (λ at l. l) (q && nat_lt 64 (qubit_count st.registers + number_at bytes size)) size _ s tt))

  -- ---- applications
  indexed_fails : (r : Register) (name : Span) (o : Option Span) → SpanIn bytes name → Fails (indexed r bytes name o)
  indexed_fails r name None h = tt
  indexed_fails r name (Some p) h = refuse_fails Range (λ at l. l) (nat_le r.size (number_at bytes p)) name _ h tt

  register_fails : (o : Option Register) (a : Arg) → ArgIn bytes a → Fails (of_register o bytes a)
  register_fails None a h = span_at a.name h.0
  register_fails (Some r) a h = refuse_fails Unknown (λ at l. l) (not r.quantum) a.name _ h.0 (indexed_fails r a.name a.index h.0)

  targets_fails : (rs : List Register) (args : List Arg) → All (ArgIn bytes) args → Fails (targets_of bytes rs args)
  unfolding targets_of
  targets_fails rs [] h = tt
  targets_fails rs (a ∷ args) h =
      then_fails (target_of bytes rs a) (λ t. before t (targets_of bytes rs args)) (register_fails (register_of rs (spelled bytes a.name)) a (All-head (ArgIn bytes) a args h))
      (λ t. before_gates t (targets_of bytes rs args) (targets_fails rs args (All-tail (ArgIn bytes) a args h)))

  uneven_in : (size : Option ℕ) (ts : List Target) (ps : List Span) → All (SpanIn bytes) ps → IndexIn bytes (first_uneven size ts ps)
  unfolding first_uneven
  uneven_in size [] ps h = tt
  uneven_in size (t ∷ ts) [] h = tt
  uneven_in size (Single q ∷ ts) (p ∷ ps) h = uneven_in size ts ps (All-tail (SpanIn bytes) p ps h)
  uneven_in None (WholeTarget q n ∷ ts) (p ∷ ps) h = uneven_in (Some n) ts ps (All-tail (SpanIn bytes) p ps h)
  uneven_in (Some m) (WholeTarget q n ∷ ts) (p ∷ ps) h = by (nat_eq m n) (uneven_in (Some m) ts ps (All-tail (SpanIn bytes) p ps h)) where
    by : (b : Bool) → IndexIn bytes (first_uneven (Some m) ts ps) → IndexIn bytes (if b then first_uneven (Some m) ts ps else Some p)
    by true k = k
    by false k = All-head (SpanIn bytes) p ps h

  repeat_in : (seen qs : List ℕ) (ps : List Span) → All (SpanIn bytes) ps → IndexIn bytes (repeat_at seen qs ps)
  unfolding repeat_at
  repeat_in seen [] ps h = tt
  repeat_in seen (q ∷ qs) [] h = tt
  repeat_in seen (q ∷ qs) (p ∷ ps) h = one_of (is_among q seen) p (repeat_at (q ∷ seen) qs ps) (All-head (SpanIn bytes) p ps h) (repeat_in (q ∷ seen) qs ps (All-tail (SpanIn bytes) p ps h))

  else_in : (o q : Option Span) → IndexIn bytes o → IndexIn bytes q → IndexIn bytes (or_else o q)
  else_in (Some p) q h k = h
  else_in None q h k = k

  repeats_in : (ts : List Target) (ps : List Span) (i n : ℕ) → All (SpanIn bytes) ps → IndexIn bytes (repeat_from ts ps i n)
  unfolding repeat_from
  repeats_in ts ps i zero h = tt
  repeats_in ts ps i (suc n) h = else_in (repeat_at [] (qubits_at ts i) ps) (repeat_from ts ps (i + 1) n) (repeat_in [] (qubits_at ts i) ps h) (repeats_in ts ps (i + 1) n h)

  aimed_fails : (rs : List Register) (defs : List Def) (bound : List Bound) (made : ℕ) (c : Call) → CallIn bytes c → Fails (aimed bytes rs defs bound made c)
  aimed_fails rs defs bound made c (at, fs, us) =
      let ns = arg_names_in c.args us in
      then_fails (called bytes bound c.gate c.at) _ (called_fails bound c.gate c.at at) (λ gate.
      refuse_fails Arity (λ n l. l) (wrong_arity defs gate (length c.params) (length c.args)) c.at _ at
      (then_fails (targets_of bytes rs c.args) _ (targets_fails rs c.args us) (λ ts.
      unless_fails Sizes (λ n l. l) (first_uneven None ts (arg_names c.args)) _ (uneven_in None ts (arg_names c.args) ns)
      (unless_fails RepeatedQubit (λ n l. l) (repeat_from ts (arg_names c.args) 0 (index_count ts)) _ (repeats_in ts (arg_names c.args) 0 (index_count ts) ns)
      (refuse_fails TooMany (λ n l. l) (too_many defs gate made (index_count ts)) c.at _ at tt)))))

  angle_inside : (f : AngleFault) (at : ℕ) → at ≤ length bytes → IsInside bytes (of_angle f at)
  angle_inside angle.NotDyadic at l = l
  angle_inside angle.AngleRange at l = l
  angle_inside angle.NoParameter at l = l
  angle_inside angle.Function at l = l
  angle_inside angle.ByZero at l = l
  angle_inside angle.Memory at l = tt

  expression_in : (fs : List Formula) (k : ℕ) → All (FormulaFrom bytes) fs → expression_at fs k ≤ length bytes
  unfolding expression_at
  expression_in [] k h = omega arith
  expression_in (f ∷ fs) zero h = All-head (FormulaFrom bytes) f fs h
  expression_in (f ∷ fs) (suc k) h = expression_in fs k (All-tail (FormulaFrom bytes) f fs h)

  broken_inside : (c : Call) (b : Broken) → CallIn bytes c → All (FormulaFrom bytes) c.params → IsInside bytes (broken_at c b)
  broken_inside c (Own s) h k = angle_inside s.fault (expression_at c.params s.at) (expression_in c.params s.at k)
  broken_inside c (Inside f) h k = angle_inside f c.at.from (span_at c.at h.0)

  items_fails : (c : Call) (ts : List Target) (r : Result (List Prim) Broken) → CallIn bytes c → All (FormulaFrom bytes) c.params → Fails (items_or_fault c ts r)
  items_fails c ts (Ok gs) h k = tt
  items_fails c ts (Err b) h k = broken_inside c b h k

  applies_fails : (rs : List Register) (defs : List Def) (bound : List Bound) (made : ℕ) (c : Call) (r : Result (List (List Prim)) ReadFault) → CallIn bytes c → All (FormulaFrom bytes) c.params → Applies bytes rs defs bound made c r → Fails r
  applies_fails rs defs bound made c r h k (missed e) = subst Fails e (aimed_fails rs defs bound made c h)
  applies_fails rs defs bound made c r h k (applies {a = a} {r = x} e p) = items_fails c a.targets x h k

  -- ---- statements
  behind_fails : (st : State) (r : Result (List (List Prim)) ReadFault) → Fails r → Fails (behind st r)
  behind_fails st (Ok is) h = tt
  behind_fails st (Err f) h = h

  past_fails : (st : State) (r : Result (List Target) ReadFault) → Fails r → Fails (past st r)
  past_fails st (Ok ts) h = tt
  past_fails st (Err f) h = h

  takes_fails : (st : State) (s : Statement) (r : Result State ReadFault) → Stands s → Takes bytes st s r → Fails r
  takes_fails st s r h (taking.include i) = tt
  takes_fails st s r h (taking.quantum {name = n} {size = k}) = declared_fails true st n k h.0.0 h.0.1
  takes_fails st s r h (taking.classical {name = n} {size = k}) = declared_fails false st n k h.0.0 h.0.1
  takes_fails st s r h (taking.gate {name = n} {params = ps} {args = us} {body = ss}) = defining_fails st n ps us ss h.0
  takes_fails st s r h (taking.apply {c = c} {r = x} k) = behind_fails st x (applies_fails st.registers st.defs st.bound (length st.items) c x h.0 h.1 k)
  takes_fails st s r h (taking.barrier {args = us}) = past_fails st (targets_of bytes st.registers us) (targets_fails st.registers us h.0)

  expands_fails : (st : State) (ss : List Statement) (r : Result State ReadFault) → All Stands ss → Expands bytes st ss r → Fails r
  expands_fails st ss r h ended = tt
  expands_fails st us r h (taken {st' = x} {s = s} {ss = ss} t k) = expands_fails x ss r (All-tail Stands s ss h) k
  expands_fails st us r h (taking.faulty {s = s} {ss = ss} {f = f} t) = takes_fails st s (Err f) (All-head Stands s ss h) t

  -- ---- whole texts, and blocks
  placed_so : (name : FaultName) (at : ℕ) → IsInside bytes (Fault name at) → IsPlaced bytes (Fault name at)
  placed_so NoQubits at h = absurd h
  placed_so name at h = h

  inside_placed : (f : ReadFault) → IsInside bytes f → IsPlaced bytes f
  inside_placed (Fault name at) h = placed_so name at h
  inside_placed Memory h = tt

  closed_placed : (r : Result State ReadFault) → Fails r → IfErr (closed bytes r) (IsPlaced bytes)
  closed_placed (Ok st) h = by (nat_eq (qubit_count st.registers) 0) where
    by : (b : Bool) → IfErr (if b then Err (Fault NoQubits (length bytes)) else Ok (circuit_of st)) (IsPlaced bytes)
    by true = refl
    by false = tt
  closed_placed (Err f) h = inside_placed f h

  text_placed : (r : Result CircuitOf ReadFault) → ReadsText bytes r → IfErr r (IsPlaced bytes)
  text_placed r (misread {f = f} h) = inside_placed f (text_fails (Err f) h)
  text_placed r (expanded {ss = ss} {r = x} h k) = closed_placed x (expands_fails nothing_yet ss x (text_stands (Ok ss) ss h refl) k)

  made_items : (r : Result State ReadFault) → Fails r → IfErr (items_of r) (IsInside bytes)
  made_items (Ok st) h = tt
  made_items (Err f) h = h

  block_inside : (t : TableOf) (r : Result (List (List Prim)) ReadFault) → ReadsBlock t bytes r → IfErr r (IsInside bytes)
  block_inside t r (misread_block {f = f} h) = block_fails (Err f) h
  block_inside t r (expanded_block {ss = ss} {r = x} h k) = made_items x (expands_fails (behind_text t) ss x (block_stands (Ok ss) ss h refl) k)

  -- what was answered
  pub circuit_placed : (r : Result Circuit ReadFault) → CircuitTold r (ReadsText bytes) → IfErr r (IsPlaced bytes)
  circuit_placed (Ok c) h = tt
  circuit_placed (Err (Fault name at)) h = text_placed (Err (Fault name at)) h
  circuit_placed (Err Memory) h = tt

  pub items_inside : (t : TableOf) (r : Result (List (List Prim)) ReadFault) → ItemsTold r (ReadsBlock t bytes) → IfErr r (IsInside bytes)
  items_inside t (Ok is) h = tt
  items_inside t (Err (Fault name at)) h = block_inside t (Err (Fault name at)) h
  items_inside t (Err Memory) h = tt
