-- Statements, blocks and texts have one reading.
use Rattle.std.proofs.Common.{◌≡◌, ◌⊎◌, inl, inr, ℕ, ◌+◌, true, false, List, [], ◌∷◌, refl, sym, ◌∙◌, ap, subst, Result, Ok, Err}
use Rattle.qasm_lex.specs.declared.types.Token.{Token}
use Rattle.qasm_parse.specs.declared.sort.Sort.{Sort}
use Rattle.qasm_parse.specs.declared.sort.Sort.TheVariants.{Opaque as OpaqueWord, Barrier as BarrierWord, Outside, Universal, Cx as CxWord, Id, Whole, Semicolon, Comma, Open, Close, OpenBracket, CloseBracket, OpenBrace}
use Rattle.qasm_parse.specs.declared.program.Span.{Span}
use Rattle.qasm_parse.specs.declared.program.Arg.{Arg}
use Rattle.qasm_parse.specs.declared.program.Formula.{Formula}
use Rattle.qasm_parse.specs.declared.program.Call.{Call}
use Rattle.qasm_parse.specs.declared.program.Called.TheVariants.{U, Cx, Named}
use Rattle.qasm_parse.specs.declared.program.Inner.TheVariants.{Apply as ApplyInner, Barrier as BarrierInner}
use Rattle.qasm_parse.specs.declared.program.Statement.{Statement}
use Rattle.qasm_parse.specs.declared.program.Statement.TheVariants.{Include, Gate, Apply, Barrier}
use Rattle.qasm_parse.specs.declared.phrases.Form.{Form}
use Rattle.qasm_parse.specs.declared.phrases.Form.TheVariants.{Bare, Indexed}
use Rattle.qasm_parse.specs.declared.whence.Whence.{Whence}
use Rattle.qasm_parse.specs.declared.whence.Whence.TheVariants.{Text as TextWhence, Block}
use Rattle.qasm_parse.specs.declared.whence.Bits.TheVariants.{Quantum, Classical}
use Rattle.qasm_parse.specs.declared.fault.ParseFault.{ParseFault}
use Rattle.qasm_parse.specs.declared.fault.ParseFault.TheVariants.{Version, Syntax, NotUnitary, Include as IncludeFault, Opaque, Deep, Memory}
use Rattle.qasm_parse.specs.Grammar.{at}
use Rattle.qasm_parse.specs.Sorts.{sorts_of}
use Rattle.qasm_parse.specs.Phrases.{Got, got, miss, put, Gives, After, Then, then, missed, Listed, Enclosed, IsSpan, IsArg, span_of, Listing}
use Rattle.qasm_parse.specs.Formulas.{IsFormula}
use Rattle.qasm_parse.specs.Statements.{IsCall, universal, controlled, applied, begins_inner, IsInner, applies, separates, not_unitary, is_opaque, wrong, IsBody, closed, inner, no_inner, IsRegister, made, begins_declaration, IsDeclaration, includes, other_text, no_text, quantum, classical, defines, begins, IsStatement, apply, barrier, declares, outside, opaquely, no_statement, IsProgram, over, statement, faulty, IsText, no_word, no_version, no_sign, text, placed, answer, OfText, OfBlock, Known, Only}
use Rattle.qasm_parse.proofs.Single.{Single, gives_one, after_one, then_one, listed_one, enclosed_one, span_one, arg_one, formula_one, fault_same, same_place, same_thing, never}

module _ (bytes : List ℕ) (tk : List Token) (ts : List Sort) where
  -- applications
  call_one : (form : Form) (i : ℕ) → Single (IsCall bytes tk ts form i)
  call_one form i x y (universal _ h) (universal _ g) = after_one ts Open (Then (Listed ts (IsFormula bytes tk ts)) (λ (ps : List Formula). After ts Close (Then (IsArg tk ts form) (λ (a : Arg). After ts Semicolon (Gives (record { gate = U; at = span_of tk i; params = ps; args = a ∷ [] })))))) (i + 1)
      (then_one (Listed ts (IsFormula bytes tk ts)) (λ (ps : List Formula). After ts Close (Then (IsArg tk ts form) (λ (a : Arg). After ts Semicolon (Gives (record { gate = U; at = span_of tk i; params = ps; args = a ∷ [] }))))) (i + 1 + 1) (listed_one ts (IsFormula bytes tk ts) (formula_one bytes tk ts) (i + 1 + 1))
      (λ ps j. after_one ts Close (Then (IsArg tk ts form) (λ (a : Arg). After ts Semicolon (Gives (record { gate = U; at = span_of tk i; params = ps; args = a ∷ [] })))) j (then_one (IsArg tk ts form) (λ (a : Arg). After ts Semicolon (Gives (record { gate = U; at = span_of tk i; params = ps; args = a ∷ [] }))) (j + 1) (arg_one tk ts form (j + 1)) (λ a k. after_one ts Semicolon (Gives (record { gate = U; at = span_of tk i; params = ps; args = a ∷ [] })) k (gives_one (record { gate = U; at = span_of tk i; params = ps; args = a ∷ [] }) (k + 1)))))) x y h g
  call_one form i x y (universal e _) (controlled f _) = absurd (cc)
  call_one form i x y (universal e _) (applied f _) = absurd (cc)
  call_one form i x y (controlled e _) (universal f _) = absurd (cc)
  call_one form i x y (controlled _ h) (controlled _ g) = then_one (IsArg tk ts form) (λ (a : Arg). After ts Comma (Then (IsArg tk ts form) (λ (b : Arg). After ts Semicolon (Gives (record { gate = Cx; at = span_of tk i; params = []; args = a ∷ (b ∷ []) }))))) (i + 1) (arg_one tk ts form (i + 1))
      (λ a j. after_one ts Comma (Then (IsArg tk ts form) (λ (b : Arg). After ts Semicolon (Gives (record { gate = Cx; at = span_of tk i; params = []; args = a ∷ (b ∷ []) })))) j (then_one (IsArg tk ts form) (λ (b : Arg). After ts Semicolon (Gives (record { gate = Cx; at = span_of tk i; params = []; args = a ∷ (b ∷ []) }))) (j + 1) (arg_one tk ts form (j + 1)) (λ b k. after_one ts Semicolon (Gives (record { gate = Cx; at = span_of tk i; params = []; args = a ∷ (b ∷ []) })) k (gives_one (record { gate = Cx; at = span_of tk i; params = []; args = a ∷ (b ∷ []) }) (k + 1))))) x y h g
  call_one form i x y (controlled e _) (applied f _) = absurd (cc)
  call_one form i x y (applied e _) (universal f _) = absurd (cc)
  call_one form i x y (applied e _) (controlled f _) = absurd (cc)
  call_one form i x y (applied _ h) (applied _ g) = then_one (Enclosed ts (IsFormula bytes tk ts)) (λ (ps : List Formula). Then (Listed ts (IsArg tk ts form)) (λ (us : List Arg). After ts Semicolon (Gives (record { gate = Named; at = span_of tk i; params = ps; args = us })))) (i + 1) (enclosed_one ts (IsFormula bytes tk ts) (formula_one bytes tk ts) (i + 1))
      (λ ps j. then_one (Listed ts (IsArg tk ts form)) (λ (us : List Arg). After ts Semicolon (Gives (record { gate = Named; at = span_of tk i; params = ps; args = us }))) j (listed_one ts (IsArg tk ts form) (arg_one tk ts form) j) (λ us k. after_one ts Semicolon (Gives (record { gate = Named; at = span_of tk i; params = ps; args = us })) k (gives_one (record { gate = Named; at = span_of tk i; params = ps; args = us }) (k + 1)))) x y h g

  call_sort : (form : Form) (i : ℕ) (r : Got Call) → IsCall bytes tk ts form i r → (at ts i ≡ Universal) ⊎ (at ts i ≡ CxWord) ⊎ (at ts i ≡ Id)
  call_sort form i r (universal e _) = inl e
  call_sort form i r (controlled e _) = inr (inl e)
  call_sort form i r (applied e _) = inr (inr e)

  then_sort : {B : Type 0} (form : Form) (rest : Call → ℕ → Got B → Type 0) (i : ℕ) (r : Got B) → Then (IsCall bytes tk ts form) rest i r → (at ts i ≡ Universal) ⊎ (at ts i ≡ CxWord) ⊎ (at ts i ≡ Id)
  then_sort form rest i r (then {a = a} {j = j} h _) = call_sort form i (got a j) h
  then_sort form rest i r (missed {f = f} h) = call_sort form i (miss f) h

  -- of a begin of an application another word is none
  no_call : {P : Type 0} (s : Sort) → (s ≡ Universal) ⊎ (s ≡ CxWord) ⊎ (s ≡ Id) → (t : Sort) → s ≡ t → (t ≡ Universal → P) → (t ≡ CxWord → P) → (t ≡ Id → P) → P
  no_call s (inl e) t f a b c = a (sym f ∙ e)
  no_call s (inr (inl e)) t f a b c = b (sym f ∙ e)
  no_call s (inr (inr e)) t f a b c = c (sym f ∙ e)

  call_inner : (s : Sort) → (s ≡ Universal) ⊎ (s ≡ CxWord) ⊎ (s ≡ Id) → begins_inner s ≡ true
  call_inner s (inl e) = ap begins_inner e
  call_inner s (inr (inl e)) = ap begins_inner e
  call_inner s (inr (inr e)) = ap begins_inner e

  call_begins : (w : Whence) (s : Sort) → (s ≡ Universal) ⊎ (s ≡ CxWord) ⊎ (s ≡ Id) → begins w s ≡ true
  call_begins TextWhence s (inl e) = ap (begins TextWhence) e
  call_begins TextWhence s (inr (inl e)) = ap (begins TextWhence) e
  call_begins TextWhence s (inr (inr e)) = ap (begins TextWhence) e
  call_begins Block s (inl e) = ap (begins Block) e
  call_begins Block s (inr (inl e)) = ap (begins Block) e
  call_begins Block s (inr (inr e)) = ap (begins Block) e

  call_undeclared : (s : Sort) → (s ≡ Universal) ⊎ (s ≡ CxWord) ⊎ (s ≡ Id) → begins_declaration s ≡ false
  call_undeclared s (inl e) = ap begins_declaration e
  call_undeclared s (inr (inl e)) = ap begins_declaration e
  call_undeclared s (inr (inr e)) = ap begins_declaration e

  -- statements of bodies
  inner_one : (i : ℕ) → Single (IsInner bytes tk ts i)
  inner_one i x y (applies h) (applies g) = then_one (IsCall bytes tk ts Bare) (λ call. Gives (ApplyInner call)) i (call_one Bare i) (λ call j. gives_one (ApplyInner call) j) x y h g
  inner_one i x y (applies h) (separates f g) = absurd (no_call {P = ⊥} (at ts i) (then_sort Bare (λ call. Gives (ApplyInner call)) i x h) BarrierWord f (λ z. cc) (λ z. cc) (λ z. cc))
  inner_one i x y (applies h) (not_unitary f) = absurd (no_call {P = ⊥} (at ts i) (then_sort Bare (λ call. Gives (ApplyInner call)) i x h) Outside f (λ z. cc) (λ z. cc) (λ z. cc))
  inner_one i x y (applies h) (is_opaque f) = absurd (no_call {P = ⊥} (at ts i) (then_sort Bare (λ call. Gives (ApplyInner call)) i x h) OpaqueWord f (λ z. cc) (λ z. cc) (λ z. cc))
  inner_one i x y (applies h) (wrong f) = let k : begins_inner (at ts i) ≡ true = call_inner (at ts i) (then_sort Bare (λ call. Gives (ApplyInner call)) i x h) in absurd (cc)
  inner_one i x y (separates e h) (applies g) = absurd (no_call {P = ⊥} (at ts i) (then_sort Bare (λ call. Gives (ApplyInner call)) i y g) BarrierWord e (λ z. cc) (λ z. cc) (λ z. cc))
  inner_one i x y (separates e h) (separates f g) = then_one (Listed ts (IsSpan tk ts Id)) (λ (ns : List Span). After ts Semicolon (Gives (BarrierInner ns))) (i + 1) (listed_one ts (IsSpan tk ts Id) (span_one tk ts Id) (i + 1)) (λ ns k. after_one ts Semicolon (Gives (BarrierInner ns)) k (gives_one (BarrierInner ns) (k + 1))) x y h g
  inner_one i x y (separates e h) (not_unitary f) = absurd (cc)
  inner_one i x y (separates e h) (is_opaque f) = absurd (cc)
  inner_one i x y (separates e h) (wrong f) = let k : begins_inner (at ts i) ≡ true = ap begins_inner e in absurd (cc)
  inner_one i x y (not_unitary e) (applies g) = absurd (no_call {P = ⊥} (at ts i) (then_sort Bare (λ call. Gives (ApplyInner call)) i y g) Outside e (λ z. cc) (λ z. cc) (λ z. cc))
  inner_one i x y (not_unitary e) (separates f g) = absurd (cc)
  inner_one i x y (not_unitary e) (not_unitary f) = refl
  inner_one i x y (not_unitary e) (is_opaque f) = absurd (cc)
  inner_one i x y (not_unitary e) (wrong f) = let k : begins_inner (at ts i) ≡ true = ap begins_inner e in absurd (cc)
  inner_one i x y (is_opaque e) (applies g) = absurd (no_call {P = ⊥} (at ts i) (then_sort Bare (λ call. Gives (ApplyInner call)) i y g) OpaqueWord e (λ z. cc) (λ z. cc) (λ z. cc))
  inner_one i x y (is_opaque e) (separates f g) = absurd (cc)
  inner_one i x y (is_opaque e) (not_unitary f) = absurd (cc)
  inner_one i x y (is_opaque e) (is_opaque f) = refl
  inner_one i x y (is_opaque e) (wrong f) = let k : begins_inner (at ts i) ≡ true = ap begins_inner e in absurd (cc)
  inner_one i x y (wrong e) (applies g) = let k : begins_inner (at ts i) ≡ true = call_inner (at ts i) (then_sort Bare (λ call. Gives (ApplyInner call)) i y g) in absurd (cc)
  inner_one i x y (wrong e) (separates f g) = let k : begins_inner (at ts i) ≡ true = ap begins_inner f in absurd (cc)
  inner_one i x y (wrong e) (not_unitary f) = let k : begins_inner (at ts i) ≡ true = ap begins_inner f in absurd (cc)
  inner_one i x y (wrong e) (is_opaque f) = let k : begins_inner (at ts i) ≡ true = ap begins_inner f in absurd (cc)
  inner_one i x y (wrong e) (wrong f) = refl

  body_one : (i : ℕ) → Single (IsBody bytes tk ts i)
  body_one i x y (closed e) (closed f) = refl
  body_one i x y (closed e) (inner n _ _) = absurd (n e)
  body_one i x y (closed e) (no_inner n _) = absurd (n e)
  body_one i x y (inner n _ _) (closed e) = absurd (n e)
  body_one i x y (inner {j = j} {s = a} {r = r} n h k) (inner {j = m} {s = b} {r = s} o g l) =
      let e : got a j ≡ got b m = inner_one i (got a j) (got b m) h g in
      let f : r ≡ s = body_one j r s k (subst (λ z. IsBody bytes tk ts z s) (sym (same_place a b j m e)) l) in
      ap (λ z. put (z ∷ []) r) (same_thing a b j m e) ∙ ap (λ z. put (b ∷ []) z) f
  body_one i x y (inner {j = j} {s = a} n h k) (no_inner {f = f} o g) = absurd (never a j f (inner_one i (got a j) (miss f) h g))
  body_one i x y (no_inner n _) (closed e) = absurd (n e)
  body_one i x y (no_inner {f = f} o g) (inner {j = j} {s = a} n h k) = absurd (never a j f (inner_one i (got a j) (miss f) h g))
  body_one i x y (no_inner {f = f} n h) (no_inner {f = e} o g) = fault_same f e (inner_one i (miss f) (miss e) h g)

  -- declarations
  register_one : (make : Span → Span → Statement) (i : ℕ) → Single (IsRegister tk ts make i)
  register_one make i x y h g =
      let last = λ (name size : Span). After ts Semicolon (Gives (make name size)) in
      let close = λ (name size : Span). After ts CloseBracket (last name size) in
      let rest = λ (name : Span). After ts OpenBracket (Then (IsSpan tk ts Whole) (close name)) in
      then_one (IsSpan tk ts Id) rest i (span_one tk ts Id i)
      (λ name j. after_one ts OpenBracket (Then (IsSpan tk ts Whole) (close name)) j (then_one (IsSpan tk ts Whole) (close name) (j + 1) (span_one tk ts Whole (j + 1))
      (λ size k. after_one ts CloseBracket (last name size) k (after_one ts Semicolon (Gives (make name size)) (k + 1) (gives_one (make name size) (k + 1 + 1)))))) x y h g

  gate_one : (i : ℕ) → Single (Then (IsSpan tk ts Id) (λ name. Then (Enclosed ts (IsSpan tk ts Id)) (λ params. Then (Listed ts (IsSpan tk ts Id)) (λ args. After ts OpenBrace (Then (IsBody bytes tk ts) (λ body. Gives (Gate name params args body)))))) i)
  gate_one i x y h g =
      let body = λ (name : Span) (ps us : List Span). Then (IsBody bytes tk ts) (λ body. Gives (Gate name ps us body)) in
      let args = λ (name : Span) (ps : List Span). Then (Listed ts (IsSpan tk ts Id)) (λ us. After ts OpenBrace (body name ps us)) in
      let params = λ (name : Span). Then (Enclosed ts (IsSpan tk ts Id)) (args name) in
      then_one (IsSpan tk ts Id) params i (span_one tk ts Id i)
      (λ name j. then_one (Enclosed ts (IsSpan tk ts Id)) (args name) j (enclosed_one ts (IsSpan tk ts Id) (span_one tk ts Id) j)
      (λ ps k. then_one (Listed ts (IsSpan tk ts Id)) (λ us. After ts OpenBrace (body name ps us)) k (listed_one ts (IsSpan tk ts Id) (span_one tk ts Id) k)
      (λ us m. after_one ts OpenBrace (body name ps us) m (then_one (IsBody bytes tk ts) (λ b. Gives (Gate name ps us b)) (m + 1) (body_one (m + 1)) (λ b n. gives_one (Gate name ps us b) n))))) x y h g

  declaration_one : (i : ℕ) → Single (IsDeclaration bytes tk ts i)
  declaration_one i x y (includes e p h) (includes f r g) = after_one ts Semicolon (Gives (Include (span_of tk (i + 1)))) (i + 2) (gives_one (Include (span_of tk (i + 1))) (i + 2 + 1)) x y h g
  declaration_one i x y (includes e p h) (other_text f r) = absurd (cc)
  declaration_one i x y (includes e p h) (no_text f r s) = absurd (r p)
  declaration_one i x y (includes e p h) (quantum f g) = absurd (cc)
  declaration_one i x y (includes e p h) (classical f g) = absurd (cc)
  declaration_one i x y (includes e p h) (defines f g) = absurd (cc)
  declaration_one i x y (other_text e p) (includes f r g) = absurd (cc)
  declaration_one i x y (other_text e p) (other_text f r) = refl
  declaration_one i x y (other_text e p) (no_text f r s) = absurd (s p)
  declaration_one i x y (other_text e p) (quantum f g) = absurd (cc)
  declaration_one i x y (other_text e p) (classical f g) = absurd (cc)
  declaration_one i x y (other_text e p) (defines f g) = absurd (cc)
  declaration_one i x y (no_text e p q) (includes f r g) = absurd (p r)
  declaration_one i x y (no_text e p q) (other_text f r) = absurd (q r)
  declaration_one i x y (no_text e p q) (no_text f r s) = refl
  declaration_one i x y (no_text e p q) (quantum f g) = absurd (cc)
  declaration_one i x y (no_text e p q) (classical f g) = absurd (cc)
  declaration_one i x y (no_text e p q) (defines f g) = absurd (cc)
  declaration_one i x y (quantum e h) (includes f r g) = absurd (cc)
  declaration_one i x y (quantum e h) (other_text f r) = absurd (cc)
  declaration_one i x y (quantum e h) (no_text f r s) = absurd (cc)
  declaration_one i x y (quantum e h) (quantum f g) = register_one (made Quantum) (i + 1) x y h g
  declaration_one i x y (quantum e h) (classical f g) = absurd (cc)
  declaration_one i x y (quantum e h) (defines f g) = absurd (cc)
  declaration_one i x y (classical e h) (includes f r g) = absurd (cc)
  declaration_one i x y (classical e h) (other_text f r) = absurd (cc)
  declaration_one i x y (classical e h) (no_text f r s) = absurd (cc)
  declaration_one i x y (classical e h) (quantum f g) = absurd (cc)
  declaration_one i x y (classical e h) (classical f g) = register_one (made Classical) (i + 1) x y h g
  declaration_one i x y (classical e h) (defines f g) = absurd (cc)
  declaration_one i x y (defines e h) (includes f r g) = absurd (cc)
  declaration_one i x y (defines e h) (other_text f r) = absurd (cc)
  declaration_one i x y (defines e h) (no_text f r s) = absurd (cc)
  declaration_one i x y (defines e h) (quantum f g) = absurd (cc)
  declaration_one i x y (defines e h) (classical f g) = absurd (cc)
  declaration_one i x y (defines e h) (defines f g) = gate_one (i + 1) x y h g

  declares_sort : (i : ℕ) (r : Got Statement) → IsDeclaration bytes tk ts i r → begins_declaration (at ts i) ≡ true
  declares_sort i r (includes e _ _) = ap begins_declaration e
  declares_sort i r (other_text e _) = ap begins_declaration e
  declares_sort i r (no_text e _ _) = ap begins_declaration e
  declares_sort i r (quantum e _) = ap begins_declaration e
  declares_sort i r (classical e _) = ap begins_declaration e
  declares_sort i r (defines e _) = ap begins_declaration e

  declares_begins : (i : ℕ) (r : Got Statement) → IsDeclaration bytes tk ts i r → begins TextWhence (at ts i) ≡ true
  declares_begins i r (includes e _ _) = ap (begins TextWhence) e
  declares_begins i r (other_text e _) = ap (begins TextWhence) e
  declares_begins i r (no_text e _ _) = ap (begins TextWhence) e
  declares_begins i r (quantum e _) = ap (begins TextWhence) e
  declares_begins i r (classical e _) = ap (begins TextWhence) e
  declares_begins i r (defines e _) = ap (begins TextWhence) e

  inner_begins : (w : Whence) (t : Sort) → begins TextWhence t ≡ true → begins Block t ≡ true → begins w t ≡ true
  inner_begins TextWhence t h g = h
  inner_begins Block t h g = g

  -- statements
  statement_one : (w : Whence) (i : ℕ) → Single (IsStatement bytes tk ts w i)
  statement_one w i x y (apply h) (apply g) = then_one (IsCall bytes tk ts Indexed) (λ call. Gives (Apply call)) i (call_one Indexed i) (λ call j. gives_one (Apply call) j) x y h g
  statement_one w i x y (apply h) (barrier f g) = absurd (no_call {P = ⊥} (at ts i) (then_sort Indexed (λ call. Gives (Apply call)) i x h) BarrierWord f (λ z. cc) (λ z. cc) (λ z. cc))
  statement_one w i x y (apply h) (declares q g) = let k : begins_declaration (at ts i) ≡ false = call_undeclared (at ts i) (then_sort Indexed (λ call. Gives (Apply call)) i x h) in let l : begins_declaration (at ts i) ≡ true = declares_sort i y g in absurd (cc)
  statement_one w i x y (apply h) (outside f) = absurd (no_call {P = ⊥} (at ts i) (then_sort Indexed (λ call. Gives (Apply call)) i x h) Outside f (λ z. cc) (λ z. cc) (λ z. cc))
  statement_one w i x y (apply h) (opaquely f) = absurd (no_call {P = ⊥} (at ts i) (then_sort Indexed (λ call. Gives (Apply call)) i x h) OpaqueWord f (λ z. cc) (λ z. cc) (λ z. cc))
  statement_one w i x y (apply h) (no_statement f) = let k : begins w (at ts i) ≡ true = call_begins w (at ts i) (then_sort Indexed (λ call. Gives (Apply call)) i x h) in absurd (cc)
  statement_one w i x y (barrier e h) (apply g) = absurd (no_call {P = ⊥} (at ts i) (then_sort Indexed (λ call. Gives (Apply call)) i y g) BarrierWord e (λ z. cc) (λ z. cc) (λ z. cc))
  statement_one w i x y (barrier e h) (barrier f g) = then_one (Listed ts (IsArg tk ts Indexed)) (λ (us : List Arg). After ts Semicolon (Gives (Barrier us))) (i + 1) (listed_one ts (IsArg tk ts Indexed) (arg_one tk ts Indexed) (i + 1)) (λ us k. after_one ts Semicolon (Gives (Barrier us)) k (gives_one (Barrier us) (k + 1))) x y h g
  statement_one w i x y (barrier e h) (declares q g) = let k : begins_declaration (at ts i) ≡ true = declares_sort i y g in let l : begins_declaration (at ts i) ≡ false = ap begins_declaration e in absurd (cc)
  statement_one w i x y (barrier e h) (outside f) = absurd (cc)
  statement_one w i x y (barrier e h) (opaquely f) = absurd (cc)
  statement_one w i x y (barrier e h) (no_statement f) = let k : begins w (at ts i) ≡ true = ap (begins w) e ∙ inner_begins w BarrierWord refl refl in absurd (cc)
  statement_one w i x y (declares p h) (apply g) = let k : begins_declaration (at ts i) ≡ false = call_undeclared (at ts i) (then_sort Indexed (λ call. Gives (Apply call)) i y g) in let l : begins_declaration (at ts i) ≡ true = declares_sort i x h in absurd (cc)
  statement_one w i x y (declares p h) (barrier f g) = let k : begins_declaration (at ts i) ≡ true = declares_sort i x h in let l : begins_declaration (at ts i) ≡ false = ap begins_declaration f in absurd (cc)
  statement_one w i x y (declares p h) (declares q g) = declaration_one i x y h g
  statement_one w i x y (declares p h) (outside f) = let k : begins_declaration (at ts i) ≡ true = declares_sort i x h in let l : begins_declaration (at ts i) ≡ false = ap begins_declaration f in absurd (cc)
  statement_one w i x y (declares p h) (opaquely f) = let k : begins_declaration (at ts i) ≡ true = declares_sort i x h in let l : begins_declaration (at ts i) ≡ false = ap begins_declaration f in absurd (cc)
  statement_one w i x y (declares p h) (no_statement f) = let k : begins w (at ts i) ≡ true = ap (λ z. begins z (at ts i)) p ∙ declares_begins i x h in absurd (cc)
  statement_one w i x y (outside e) (apply g) = absurd (no_call {P = ⊥} (at ts i) (then_sort Indexed (λ call. Gives (Apply call)) i y g) Outside e (λ z. cc) (λ z. cc) (λ z. cc))
  statement_one w i x y (outside e) (barrier f g) = absurd (cc)
  statement_one w i x y (outside e) (declares q g) = let k : begins_declaration (at ts i) ≡ true = declares_sort i y g in let l : begins_declaration (at ts i) ≡ false = ap begins_declaration e in absurd (cc)
  statement_one w i x y (outside e) (outside f) = refl
  statement_one w i x y (outside e) (opaquely f) = absurd (cc)
  statement_one w i x y (outside e) (no_statement f) = let k : begins w (at ts i) ≡ true = ap (begins w) e ∙ inner_begins w Outside refl refl in absurd (cc)
  statement_one w i x y (opaquely e) (apply g) = absurd (no_call {P = ⊥} (at ts i) (then_sort Indexed (λ call. Gives (Apply call)) i y g) OpaqueWord e (λ z. cc) (λ z. cc) (λ z. cc))
  statement_one w i x y (opaquely e) (barrier f g) = absurd (cc)
  statement_one w i x y (opaquely e) (declares q g) = let k : begins_declaration (at ts i) ≡ true = declares_sort i y g in let l : begins_declaration (at ts i) ≡ false = ap begins_declaration e in absurd (cc)
  statement_one w i x y (opaquely e) (outside f) = absurd (cc)
  statement_one w i x y (opaquely e) (opaquely f) = refl
  statement_one w i x y (opaquely e) (no_statement f) = let k : begins w (at ts i) ≡ true = ap (begins w) e ∙ inner_begins w OpaqueWord refl refl in absurd (cc)
  statement_one w i x y (no_statement e) (apply g) = let k : begins w (at ts i) ≡ true = call_begins w (at ts i) (then_sort Indexed (λ call. Gives (Apply call)) i y g) in absurd (cc)
  statement_one w i x y (no_statement e) (barrier f g) = let k : begins w (at ts i) ≡ true = ap (begins w) f ∙ inner_begins w BarrierWord refl refl in absurd (cc)
  statement_one w i x y (no_statement e) (declares q g) = let k : begins w (at ts i) ≡ true = ap (λ z. begins z (at ts i)) q ∙ declares_begins i y g in absurd (cc)
  statement_one w i x y (no_statement e) (outside f) = let k : begins w (at ts i) ≡ true = ap (begins w) f ∙ inner_begins w Outside refl refl in absurd (cc)
  statement_one w i x y (no_statement e) (opaquely f) = let k : begins w (at ts i) ≡ true = ap (begins w) f ∙ inner_begins w OpaqueWord refl refl in absurd (cc)
  statement_one w i x y (no_statement e) (no_statement f) = refl

  pub program_one : (w : Whence) (i : ℕ) → Single (IsProgram bytes tk ts w i)
  program_one w i x y (over e) (over f) = refl
  program_one w i x y (over e) (statement n _ _) = absurd (n e)
  program_one w i x y (over e) (faulty n _) = absurd (n e)
  program_one w i x y (statement n _ _) (over e) = absurd (n e)
  program_one w i x y (statement {j = j} {s = a} {r = r} n h k) (statement {j = m} {s = b} {r = s} o g l) =
      let e : got a j ≡ got b m = statement_one w i (got a j) (got b m) h g in
      let f : r ≡ s = program_one w j r s k (subst (λ z. IsProgram bytes tk ts w z s) (sym (same_place a b j m e)) l) in
      ap (λ z. put (z ∷ []) r) (same_thing a b j m e) ∙ ap (λ z. put (b ∷ []) z) f
  program_one w i x y (statement {j = j} {s = a} n h k) (faulty {f = f} o g) = absurd (never a j f (statement_one w i (got a j) (miss f) h g))
  program_one w i x y (faulty n _) (over e) = absurd (n e)
  program_one w i x y (faulty {f = f} o g) (statement {j = j} {s = a} n h k) = absurd (never a j f (statement_one w i (got a j) (miss f) h g))
  program_one w i x y (faulty {f = f} n h) (faulty {f = e} o g) = fault_same f e (statement_one w i (miss f) (miss e) h g)

  pub text_one : Single (IsText bytes tk ts)
  text_one x y (no_word n) (no_word o) = refl
  text_one x y (no_word n) (no_version f u) = absurd (n f)
  text_one x y (no_word n) (no_sign f u o) = absurd (n f)
  text_one x y (no_word n) (text f u t g) = absurd (n f)
  text_one x y (no_version e v) (no_word o) = absurd (o e)
  text_one x y (no_version e v) (no_version f u) = refl
  text_one x y (no_version e v) (no_sign f u o) = absurd (cc)
  text_one x y (no_version e v) (text f u t g) = absurd (cc)
  text_one x y (no_sign e v n) (no_word o) = absurd (o e)
  text_one x y (no_sign e v n) (no_version f u) = absurd (cc)
  text_one x y (no_sign e v n) (no_sign f u o) = refl
  text_one x y (no_sign e v n) (text f u t g) = absurd (n t)
  text_one x y (text e v s h) (no_word o) = absurd (o e)
  text_one x y (text e v s h) (no_version f u) = absurd (cc)
  text_one x y (text e v s h) (no_sign f u o) = absurd (o s)
  text_one x y (text e v s h) (text f u t g) = program_one TextWhence 3 x y h g

-- one answer
same_answer : (bytes : List ℕ) (tk : List Token) (P : Got (List Statement) → Type 0) → Single P → (a b : Result (List Statement) ParseFault)
    → ((g : Got (List Statement)) × P g × (a ≡ answer bytes tk g)) → ((g : Got (List Statement)) × P g × (b ≡ answer bytes tk g)) → b ≡ a
same_answer bytes tk P single a b (x, h, e) (y, g, f) = f ∙ ap (answer bytes tk) (single y x g h) ∙ sym e

only_from : (r : Result (List Statement) ParseFault) (P : Result (List Statement) ParseFault → Type 0) → ((a b : Result (List Statement) ParseFault) → P a → P b → b ≡ a) → Known r P → Only r P
only_from (Ok s) P f h = λ b g. f (Ok s) b h g
only_from (Err Memory) P f h = tt
only_from (Err (Version n)) P f h = λ b g. f (Err (Version n)) b h g
only_from (Err (Syntax n)) P f h = λ b g. f (Err (Syntax n)) b h g
only_from (Err (NotUnitary n)) P f h = λ b g. f (Err (NotUnitary n)) b h g
only_from (Err (IncludeFault n)) P f h = λ b g. f (Err (IncludeFault n)) b h g
only_from (Err (Opaque n)) P f h = λ b g. f (Err (Opaque n)) b h g
only_from (Err (Deep n)) P f h = λ b g. f (Err (Deep n)) b h g

pub only_text : (bytes : List ℕ) (tk : List Token) (r : Result (List Statement) ParseFault) → Known r (OfText bytes tk) → Only r (OfText bytes tk)
only_text bytes tk r h = only_from r (OfText bytes tk) (same_answer bytes tk (IsText bytes tk (sorts_of bytes tk)) (text_one bytes tk (sorts_of bytes tk))) h

pub only_block : (bytes : List ℕ) (tk : List Token) (r : Result (List Statement) ParseFault) → Known r (OfBlock bytes tk) → Only r (OfBlock bytes tk)
only_block bytes tk r h = only_from r (OfBlock bytes tk) (same_answer bytes tk (IsProgram bytes tk (sorts_of bytes tk) Block 0) (program_one bytes tk (sorts_of bytes tk) Block 0)) h

-- what was told by the places of tokens, by offsets
abbrev Of : List ℕ → List Token → (List Sort → Got (List Statement) → Type 0) → Result (List Statement) ParseFault → Type 0
Of bytes tk P r = (g : Got (List Statement)) × P (sorts_of bytes tk) g × (r ≡ answer bytes tk g)

pub read_ok : (bytes : List ℕ) (tk : List Token) (P : List Sort → Got (List Statement) → Type 0) (ts : List Sort) (xs ys : List Statement) (j : ℕ) → ts ≡ sorts_of bytes tk → ys ≡ xs → P ts (got xs j) → Of bytes tk P (Ok ys)
read_ok bytes tk P ts xs ys j e f h = (got xs j, subst (λ z. P z (got xs j)) e h, ap Ok f)

module _ {A : Type 0} (view : A → List Statement) (bytes : List ℕ) (tk : List Token) (P : List Sort → Got (List Statement) → Type 0) (ts : List Sort) (e : ts ≡ sorts_of bytes tk) where
  as_of : (f : ParseFault) → P ts (miss f) → Of bytes tk P (Err (placed bytes tk f))
  as_of f h = (miss f, subst (λ z. P z (miss f)) e h, refl)

  at_its_token : (f : ParseFault) → Listing view (Err f) (P ts) → Known (Err (placed bytes tk f)) (Of bytes tk P)
  at_its_token Memory h = tt
  at_its_token (Version n) h = as_of (Version n) h
  at_its_token (Syntax n) h = as_of (Syntax n) h
  at_its_token (NotUnitary n) h = as_of (NotUnitary n) h
  at_its_token (IncludeFault n) h = as_of (IncludeFault n) h
  at_its_token (Opaque n) h = as_of (Opaque n) h
  at_its_token (Deep n) h = as_of (Deep n) h

  pub read_err : (f g : ParseFault) → g ≡ placed bytes tk f → Listing view (Err f) (P ts) → Known (Err g) (Of bytes tk P)
  read_err f g k h = subst (λ z. Known (Err z) (Of bytes tk P)) (sym k) (at_its_token f h)
