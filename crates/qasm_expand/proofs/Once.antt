-- There is one reading of a text and of a block, where there is one of each application.
use Rattle.std.proofs.Common.{◌≡◌, ℕ, refl, ap, sym, ◌∙◌, subst, List, [], length, Option, Some, None, Result, Ok, Err}
use Rattle.ps_prim.specs.declared.prims.Primitive.{Primitive as Prim}
use Rattle.qasm_lex.specs.declared.types.Token.{Token}
use Rattle.qasm_lex.specs.declared.types.LexFault.{LexFault}
use Rattle.qasm_lex.proofs.One.{one_reading}
use Rattle.qasm_angle.specs.declared.types.Pair.{Pair}
use Rattle.qasm_parse.specs.declared.fault.ParseFault.{ParseFault}
use Rattle.qasm_parse.specs.declared.program.Call.{Call}
use Rattle.qasm_parse.specs.declared.program.Statement.{Statement}
use Rattle.qasm_parse.specs.declared.whence.Whence.TheVariants.{Block}
use Rattle.qasm_parse.specs.Phrases.{Got}
use Rattle.qasm_parse.specs.Sorts.{sorts_of}
use Rattle.qasm_parse.specs.Statements.{IsText, IsProgram, OfText, OfBlock, answer}
use Rattle.qasm_parse.proofs.Single.{Single}
use Rattle.qasm_parse.proofs.Whole.{text_one, program_one}
use Rattle.qasm_expand.specs.declared.broken.Broken.{Broken}
use Rattle.qasm_expand.specs.declared.defs.Def.{Def}
use Rattle.qasm_expand.specs.declared.state.Shelf.{Shelf}
use Rattle.qasm_expand.specs.declared.state.State.{State}
use Rattle.qasm_expand.specs.declared.target.Aimed.{Aimed}
use Rattle.qasm_expand.specs.declared.fault.ReadFault.{ReadFault}
use Rattle.qasm_expand.specs.Tables.{Register, Bound}
use Rattle.qasm_expand.specs.Library.{library_text, parsed, TextIs, bad_tokens, by_grammar, BlockIs, bad_block_tokens, by_block_grammar, Gates, all_defined, with_library, Includes, first, again}
use Rattle.qasm_expand.specs.Bodies.{Job, Comes}
use Rattle.qasm_expand.specs.Targets.{aimed, items_or_fault, Applies, missed, applies}
use Rattle.qasm_expand.specs.Statements.{behind, Takes, include, quantum, classical, gate, apply, barrier, Expands, ended, taken, faulty}
use Rattle.qasm_expand.specs.Circuits.{TableOf, CircuitOf, nothing_yet, closed, ReadsText, misread, expanded, behind_text, items_of, ReadsBlock, misread_block, expanded_block}

-- one of what is told of a single thing
one_answer : (bytes : List ℕ) (tk : List Token) (P : Got (List Statement) → Type 0) → Single P → (a b : Result (List Statement) ParseFault)
    → ((g : Got (List Statement)) × P g × (a ≡ answer bytes tk g)) → ((g : Got (List Statement)) × P g × (b ≡ answer bytes tk g)) → a ≡ b
one_answer bytes tk P single a b (x, h, e) (y, g, f) = e ∙ ap (answer bytes tk) (single x y h g) ∙ sym f

one_grammar : (bytes : List ℕ) (tk : List Token) (a b : Result (List Statement) ParseFault) → OfText bytes tk a → OfText bytes tk b → a ≡ b
one_grammar bytes tk = one_answer bytes tk (IsText bytes tk (sorts_of bytes tk)) (text_one bytes tk (sorts_of bytes tk))

one_block_grammar : (bytes : List ℕ) (tk : List Token) (a b : Result (List Statement) ParseFault) → OfBlock bytes tk a → OfBlock bytes tk b → a ≡ b
one_block_grammar bytes tk = one_answer bytes tk (IsProgram bytes tk (sorts_of bytes tk) Block 0) (program_one bytes tk (sorts_of bytes tk) Block 0)

same_tokens : (s t : List Token) → ◌≡◌ {A = Result (List Token) LexFault} (Ok s) (Ok t) → t ≡ s
same_tokens s t e = cc

same_fault : (f g : LexFault) → ◌≡◌ {A = Result (List Token) LexFault} (Err f) (Err g) → f ≡ g
same_fault f g e = cc

apart : (s : List Token) (f : LexFault) → ◌≡◌ {A = Result (List Token) LexFault} (Ok s) (Err f) → ⊥
apart s f e = cc

pub one_text_is : (bytes : List ℕ) (a b : Result (List Statement) ReadFault) → TextIs bytes a → TextIs bytes b → a ≡ b
one_text_is bytes a b (bad_tokens {f = f} h) (bad_tokens {f = g} k) = ap (λ z. Err (Rattle.qasm_expand.specs.Checks.of_tokens z)) (same_fault f g (one_reading bytes 0 (Err f) (Err g) h k))
one_text_is bytes a b (bad_tokens {f = f} h) (by_grammar {tk = t} k _) = absurd (apart t f (one_reading bytes 0 (Ok t) (Err f) k h))
one_text_is bytes a b (by_grammar {tk = t} h _) (bad_tokens {f = f} k) = absurd (apart t f (one_reading bytes 0 (Ok t) (Err f) h k))
one_text_is bytes a b (by_grammar {tk = s} {r = x} h p) (by_grammar {tk = t} {r = y} k q) =
    let e : t ≡ s = same_tokens s t (one_reading bytes 0 (Ok s) (Ok t) h k) in
    ap parsed (one_grammar bytes s x y p (subst (λ z. OfText bytes z y) e q))

pub one_block_is : (bytes : List ℕ) (a b : Result (List Statement) ReadFault) → BlockIs bytes a → BlockIs bytes b → a ≡ b
one_block_is bytes a b (bad_block_tokens {f = f} h) (bad_block_tokens {f = g} k) = ap (λ z. Err (Rattle.qasm_expand.specs.Checks.of_tokens z)) (same_fault f g (one_reading bytes 0 (Err f) (Err g) h k))
one_block_is bytes a b (bad_block_tokens {f = f} h) (by_block_grammar {tk = t} k _) = absurd (apart t f (one_reading bytes 0 (Ok t) (Err f) k h))
one_block_is bytes a b (by_block_grammar {tk = t} h _) (bad_block_tokens {f = f} k) = absurd (apart t f (one_reading bytes 0 (Ok t) (Err f) h k))
one_block_is bytes a b (by_block_grammar {tk = s} {r = x} h p) (by_block_grammar {tk = t} {r = y} k q) =
    let e : t ≡ s = same_tokens s t (one_reading bytes 0 (Ok s) (Ok t) h k) in
    ap parsed (one_block_grammar bytes s x y p (subst (λ z. OfBlock bytes z y) e q))

not_both : (l : Option Shelf) (s : Shelf) → l ≡ None → l ≡ Some s → ⊥
not_both l s e d = absurd (none_some (sym e ∙ d)) where
  none_some : ◌≡◌ {A = Option Shelf} None (Some s) → ⊥
  none_some e = cc

same_statements : (s t : List Statement) → ◌≡◌ {A = Result (List Statement) ReadFault} (Ok s) (Ok t) → t ≡ s
same_statements s t e = cc

same_gates : (x y : Gates) → ◌≡◌ {A = Result Gates ReadFault} (Ok x) (Ok y) → x ≡ y
same_gates x y e = cc

one_include : (st : State) (a b : State) → Includes st a → Includes st b → a ≡ b
one_include st a b (first {ss = ss} {g = x} e h p) (first {ss = us} {g = y} d k q) =
    let f : us ≡ ss = same_statements ss us (one_text_is library_text (Ok ss) (Ok us) h k) in
    ap (with_library st) (same_gates x y (sym p ∙ ap (all_defined library_text (record { defs = st.defs; bound = [] })) (sym f) ∙ q))
one_include st a b (first e h p) (again {s = s} d) = absurd (not_both st.library s e d)
one_include st a b (again {s = s} d) (first e h p) = absurd (not_both st.library s e d)
one_include st a b (again e) (again d) = refl

same_aimed : (x y : Aimed) → ◌≡◌ {A = Result Aimed ReadFault} (Ok x) (Ok y) → x ≡ y
same_aimed x y e = cc

same_missed : {A : Type 0} (f g : ReadFault) → ◌≡◌ {A = Result Aimed ReadFault} (Err f) (Err g) → ◌≡◌ {A = Result A ReadFault} (Err f) (Err g)
same_missed f g e = cc

not_aimed : (x : Aimed) (f : ReadFault) → ◌≡◌ {A = Result Aimed ReadFault} (Ok x) (Err f) → ⊥
not_aimed x f e = cc

same_state : (s t : State) → ◌≡◌ {A = Result State ReadFault} (Ok s) (Ok t) → t ≡ s
same_state s t e = cc

not_state : (s : State) (f : ReadFault) → ◌≡◌ {A = Result State ReadFault} (Ok s) (Err f) → ⊥
not_state s f e = cc

not_statements : (s : List Statement) (f : ReadFault) → ◌≡◌ {A = Result (List Statement) ReadFault} (Ok s) (Err f) → ⊥
not_statements s f e = cc

fault_as : {A : Type 0} (f g : ReadFault) → ◌≡◌ {A = Result (List Statement) ReadFault} (Err f) (Err g) → ◌≡◌ {A = Result A ReadFault} (Err f) (Err g)
fault_as f g e = cc

-- there is one of each application
abbrev pub OneComes : Type 0
OneComes = (defs : List Def) (params : List Pair) (j : Job) (r s : Result (List Prim) Broken) → Comes defs params j r → Comes defs params j s → r ≡ s

module _ (one_comes : OneComes) where
  one_apply : (bytes : List ℕ) (rs : List Register) (defs : List Def) (bound : List Bound) (made : ℕ) (c : Call) (a b : Result (List (List Prim)) ReadFault)
      → Applies bytes rs defs bound made c a → Applies bytes rs defs bound made c b → a ≡ b
  one_apply bytes rs defs bound made c a b (missed {f = f} e) (missed {f = g} d) = same_missed f g (sym e ∙ d)
  one_apply bytes rs defs bound made c a b (missed {f = f} e) (applies {a = x} d _) = absurd (not_aimed x f (sym d ∙ e))
  one_apply bytes rs defs bound made c a b (applies {a = x} e _) (missed {f = f} d) = absurd (not_aimed x f (sym e ∙ d))
  one_apply bytes rs defs bound made c a b (applies {a = x} {r = r} e h) (applies {a = y} {r = s} d k) = one_of x y (same_aimed x y (sym e ∙ d)) h k where
    one_of : (x y : Aimed) → x ≡ y → Comes defs [] (Rattle.qasm_expand.specs.Bodies.call x.gate (Rattle.qasm_expand.specs.Targets.exprs_of c.params)) r
        → Comes defs [] (Rattle.qasm_expand.specs.Bodies.call y.gate (Rattle.qasm_expand.specs.Targets.exprs_of c.params)) s → items_or_fault c x.targets r ≡ items_or_fault c y.targets s
    one_of x y e h k =
        let j : Comes defs [] (Rattle.qasm_expand.specs.Bodies.call x.gate (Rattle.qasm_expand.specs.Targets.exprs_of c.params)) s = subst (λ z. Comes defs [] (Rattle.qasm_expand.specs.Bodies.call z.gate (Rattle.qasm_expand.specs.Targets.exprs_of c.params)) s) (sym e) k in
        ap (items_or_fault c x.targets) (one_comes defs [] _ r s h j) ∙ ap (λ z. items_or_fault c z.targets s) e

  one_take : (bytes : List ℕ) (st : State) (s : Statement) (a b : Result State ReadFault) → Takes bytes st s a → Takes bytes st s b → a ≡ b
  one_take bytes st s a b (include {st' = x} h) (include {st' = y} k) = ap Ok (one_include st x y h k)
  one_take bytes st s a b quantum quantum = refl
  one_take bytes st s a b classical classical = refl
  one_take bytes st s a b gate gate = refl
  one_take bytes st s a b (apply {c = c} {r = x} h) (apply {r = y} k) = ap (behind st) (one_apply bytes st.registers st.defs st.bound (length st.items) c x y h k)
  one_take bytes st s a b barrier barrier = refl

  one_expansion : (bytes : List ℕ) (st : State) (ss : List Statement) (a b : Result State ReadFault) → Expands bytes st ss a → Expands bytes st ss b → a ≡ b
  one_expansion bytes st ss a b ended ended = refl
  one_expansion bytes st ss a b (taken {st' = x} {s = s} h p) (taken {st' = y} {ss = rest} k q) =
      let e : y ≡ x = same_state x y (one_take bytes st s (Ok x) (Ok y) h k) in
      one_expansion bytes x rest a b p (subst (λ z. Expands bytes z rest b) e q)
  one_expansion bytes st ss a b (taken {st' = x} {s = s} h p) (faulty {f = f} k) = absurd (not_state x f (one_take bytes st s (Ok x) (Err f) h k))
  one_expansion bytes st ss a b (faulty {f = f} h) (taken {st' = x} {s = s} k p) = absurd (not_state x f (one_take bytes st s (Ok x) (Err f) k h))
  one_expansion bytes st ss a b (faulty {s = s} {f = f} h) (faulty {f = g} k) = one_take bytes st s (Err f) (Err g) h k

  pub one_text_from : (text : List ℕ) (a b : Result CircuitOf ReadFault) → ReadsText text a → ReadsText text b → b ≡ a
  one_text_from text a b (misread {f = f} h) (misread {f = g} k) = fault_as g f (one_text_is text (Err g) (Err f) k h)
  one_text_from text a b (misread {f = f} h) (expanded {ss = ss} k _) = absurd (not_statements ss f (one_text_is text (Ok ss) (Err f) k h))
  one_text_from text a b (expanded {ss = ss} h _) (misread {f = f} k) = absurd (not_statements ss f (one_text_is text (Ok ss) (Err f) h k))
  one_text_from text a b (expanded {ss = ss} {r = x} h p) (expanded {ss = tt'} {r = y} k q) =
      let e : tt' ≡ ss = same_statements ss tt' (one_text_is text (Ok ss) (Ok tt') h k) in
      ap (closed text) (sym (one_expansion text nothing_yet ss x y p (subst (λ z. Expands text nothing_yet z y) e q)))

  pub one_block_from : (table : TableOf) (block : List ℕ) (a b : Result (List (List Prim)) ReadFault) → ReadsBlock table block a → ReadsBlock table block b → b ≡ a
  one_block_from table block a b (misread_block {f = f} h) (misread_block {f = g} k) = fault_as g f (one_block_is block (Err g) (Err f) k h)
  one_block_from table block a b (misread_block {f = f} h) (expanded_block {ss = ss} k _) = absurd (not_statements ss f (one_block_is block (Ok ss) (Err f) k h))
  one_block_from table block a b (expanded_block {ss = ss} h _) (misread_block {f = f} k) = absurd (not_statements ss f (one_block_is block (Ok ss) (Err f) h k))
  one_block_from table block a b (expanded_block {ss = ss} {r = x} h p) (expanded_block {ss = tt'} {r = y} k q) =
      let e : tt' ≡ ss = same_statements ss tt' (one_block_is block (Ok ss) (Ok tt') h k) in
      ap items_of (sym (one_expansion block (behind_text table) ss x y p (subst (λ z. Expands block (behind_text table) z y) e q)))
