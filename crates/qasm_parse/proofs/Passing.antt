-- Faults that are passed on, and lists, one thing after another.
use Rattle.std.proofs.Common.{◌≡◌, ◌≢◌, ℕ, ◌+◌, ◌≤◌, List, [], ◌∷◌, ◌++◌, length, refl, sym, ◌∙◌, ap, subst, append_assoc, arith, Result, Ok, Err, Bool, true, false, not}
use Rattle.std.proofs.lemmas.List.{get_or_past}
use Rattle.qasm_parse.specs.declared.sort.Sort.{Sort}
use Rattle.qasm_parse.specs.declared.sort.Sort.TheVariants.{Comma, End}
use Rattle.qasm_lex.specs.declared.types.Token.{Token}
use Rattle.qasm_parse.specs.declared.program.Span.{Span}
use Rattle.qasm_parse.specs.declared.sort.Sort.TheVariants.{Id}
use Rattle.qasm_parse.specs.declared.phrases.Form.{Form}
use Rattle.qasm_parse.specs.declared.phrases.Form.TheVariants.{Bare, Indexed}
use Rattle.qasm_parse.specs.declared.fault.ParseFault.{ParseFault}
use Rattle.qasm_parse.specs.declared.fault.ParseFault.TheVariants.{Version, Syntax, NotUnitary, Include, Opaque, Deep, Memory}
use Rattle.qasm_parse.specs.declared.sort.Mark.{Mark}
use Rattle.qasm_parse.specs.declared.sort.Level.TheVariants.{Sums}
use Rattle.qasm_parse.specs.declared.program.Formula.{Formula}
use Rattle.qasm_parse.specs.declared.program.Arg.{Arg}
use Rattle.qasm_parse.specs.declared.program.Call.{Call}
use Rattle.qasm_parse.specs.declared.program.Called.{Called}
use Rattle.qasm_parse.specs.declared.program.Inner.{Inner}
use Rattle.qasm_parse.specs.declared.program.Statement.TheVariants.{Gate}
use Rattle.qasm_parse.specs.Formulas.{IsFormula, no_formula}
use Rattle.qasm_parse.specs.Grammar.{at, chain, Answers}
use Rattle.qasm_parse.specs.Phrases.{Got, got, miss, put, Listed, final, next, Told, Listing, Onward, Not_back, Stands, IsSpan, there, After, after, span_of, IsArg, bare, no_name, missed}

module _ {A : Type 0} (ts : List Sort) (thing : ℕ → Got A → Type 0) where
  put_put : (xs ys : List A) (r : Got (List A)) → put xs (put ys r) ≡ put (xs ++ ys) r
  put_put xs ys (got zs j) = ap (λ x. got x j) (sym (append_assoc xs ys zs))
  put_put xs ys (miss f) = refl

  abbrev pub Rest : ℕ → ℕ → List A → Type 0
  Rest i j xs = (r : Got (List A)) → Listed ts thing j r → Listed ts thing i (put xs r)

  pub rest_none : (i : ℕ) (r : Got (List A)) → Listed ts thing i r → Listed ts thing i (put [] r)
  rest_none i (got xs j) h = h
  rest_none i (miss f) h = h

  pub one_more : (i j k : ℕ) (xs new : List A) (a : A) → Rest i j xs → thing j (got a k) → at ts k ≡ Comma → new ≡ xs ++ (a ∷ []) → Rest i (k + 1) new
  one_more i j k xs new a h t c e r l = subst (λ x. Listed ts thing i x) (put_put xs (a ∷ []) r ∙ ap (λ x. put x r) (sym e)) (h (put (a ∷ []) r) (next t c l))

  pub the_last : (i j k : ℕ) (xs new : List A) (a : A) → Rest i j xs → thing j (got a k) → at ts k ≢ Comma → new ≡ xs ++ (a ∷ []) → Listed ts thing i (got new k)
  the_last i j k xs new a h t c e = subst (λ x. Listed ts thing i (got x k)) (sym e) (h (got (a ∷ []) k) (final t c))

-- a fault that is passed on
told_fault : {A B : Type 0} (P : Got A → Type 0) (Q : Got B → Type 0) (x : ParseFault) → ((f : ParseFault) → Q (miss f) → P (miss f)) → Told (Err x) Q → Told (Err x) P
told_fault P Q Memory f h = tt
told_fault P Q (Version n) f h = f (Version n) h
told_fault P Q (Syntax n) f h = f (Syntax n) h
told_fault P Q (NotUnitary n) f h = f (NotUnitary n) h
told_fault P Q (Include n) f h = f (Include n) h
told_fault P Q (Opaque n) f h = f (Opaque n) h
told_fault P Q (Deep n) f h = f (Deep n) h

abbrev pub Passed : {A : Type 0} → Result A ParseFault → ParseFault → Type 0
Passed r x = (y : ParseFault) × (r ≡ Err y) × (y ≡ x)

pub told_on : {A B : Type 0} (P : Got A → Type 0) (Q : Got B → Type 0) (x : ParseFault) (r : Result (A × ℕ) ParseFault) → Passed r x → ((f : ParseFault) → Q (miss f) → P (miss f)) → Told (Err x) Q → Told r P
told_on P Q x r (y, e, g) f h = subst (λ z. Told z P) (sym (e ∙ ap Err g)) (told_fault P Q x f h)

-- the same where the vectors are seen as their items
listing_fault : {A B : Type 0} (view : A → B) (P : Got B → Type 0) (x : ParseFault) → Told (Err x) P → Listing view (Err x) P
listing_fault view P Memory h = tt
listing_fault view P (Version n) h = h
listing_fault view P (Syntax n) h = h
listing_fault view P (NotUnitary n) h = h
listing_fault view P (Include n) h = h
listing_fault view P (Opaque n) h = h
listing_fault view P (Deep n) h = h

pub told_from : {A B : Type 0} (view : A → B) (P : Got B → Type 0) (x : ParseFault) → Listing view (Err x) P → Told (Err x) P
told_from view P Memory h = tt
told_from view P (Version n) h = h
told_from view P (Syntax n) h = h
told_from view P (NotUnitary n) h = h
told_from view P (Include n) h = h
told_from view P (Opaque n) h = h
told_from view P (Deep n) h = h

pub listing_on : {A B C : Type 0} (view : A → B) (P : Got B → Type 0) (Q : Got C → Type 0) (x : ParseFault) (r : Result (A × ℕ) ParseFault) → Passed r x → ((f : ParseFault) → Q (miss f) → P (miss f)) → Told (Err x) Q → Listing view r P
listing_on view P Q x r (y, e, g) f h = subst (λ z. Listing view z P) (sym (e ∙ ap Err g)) (listing_fault view P x (told_fault P Q x f h))

-- a terminal that does not stand there
pub stands_not : {A : Type 0} (P : Got A → Type 0) (ts : List Sort) (s : Sort) (i : ℕ) (x : ParseFault) → (at ts i ≢ s → P (miss (Syntax i))) → Stands ts s i (Err x) → Told (Err x) P
stands_not P ts s i (Syntax n) f h = subst (λ k. P (miss (Syntax k))) (sym h.1) (f h.0)
stands_not P ts s i (Version n) f h = absurd h
stands_not P ts s i (NotUnitary n) f h = absurd h
stands_not P ts s i (Include n) f h = absurd h
stands_not P ts s i (Opaque n) f h = absurd h
stands_not P ts s i (Deep n) f h = absurd h
stands_not P ts s i Memory f h = absurd h

pub told_not : {A : Type 0} (P : Got A → Type 0) (ts : List Sort) (s : Sort) (i : ℕ) (x : ParseFault) (r : Result (A × ℕ) ParseFault) → Passed r x → (at ts i ≢ s → P (miss (Syntax i))) → Stands ts s i (Err x) → Told r P
told_not P ts s i x r (y, e, g) f h = subst (λ z. Told z P) (sym (e ∙ ap Err g)) (stands_not P ts s i x f h)

pub listing_not : {A B : Type 0} (view : A → B) (P : Got B → Type 0) (ts : List Sort) (s : Sort) (i : ℕ) (x : ParseFault) (r : Result (A × ℕ) ParseFault) → Passed r x → (at ts i ≢ s → P (miss (Syntax i))) → Stands ts s i (Err x) → Listing view r P
listing_not view P ts s i x r (y, e, g) f h = subst (λ z. Listing view z P) (sym (e ∙ ap Err g)) (listing_fault view P x (stands_not P ts s i x f h))

-- a terminal that stands there is none past the end
pub inside_if : (ts : List Sort) (s : Sort) (i : ℕ) → (s ≡ End → ⊥) → at ts i ≡ s → length ts ≤ i → ⊥
inside_if ts s i n h le = n (sym h ∙ get_or_past ts i End le)

pub was_true : (b : Bool) → false ≡ not b → b ≡ true
was_true true h = refl
was_true false h = cc

pub span_there : (tk : List Token) (ts : List Sort) (s : Sort) (i : ℕ) (p : Span) (j : ℕ) → at ts i ≡ s → p ≡ span_of tk i → j ≡ i + 1 → IsSpan tk ts s i (got p j)
span_there tk ts s i p j h e f = subst (λ x. IsSpan tk ts s i (got p x)) (sym f) (subst (λ x. IsSpan tk ts s i (got x (i + 1))) (sym e) (there h))

pub arg_missed : (tk : List Token) (ts : List Sort) (form : Form) (i : ℕ) (f : ParseFault) → IsSpan tk ts Id i (miss f) → IsArg tk ts form i (miss f)
arg_missed tk ts Bare i f h = bare (missed h)
arg_missed tk ts Indexed i f h = no_name h

pub onward_err : {A : Type 0} (ts : List Sort) (i : ℕ) (x : ParseFault) (r : Result (A × ℕ) ParseFault) → Passed r x → Onward ts i r
onward_err ts i x r (y, e, g) = subst (λ z. Onward ts i z) (sym (e ∙ ap Err g)) tt

pub back_err : {A : Type 0} (ts : List Sort) (i : ℕ) (x : ParseFault) (r : Result (A × ℕ) ParseFault) → Passed r x → Not_back ts i r
back_err ts i x r (y, e, g) = subst (λ z. Not_back ts i z) (sym (e ∙ ap Err g)) tt

formula_miss : (bytes : List ℕ) (tk : List Token) (ts : List Sort) (i : ℕ) (old new : List Mark) (x : ParseFault) → Answers ts (chain Sums) 128 i old new (Err x) → Told (Err x) (IsFormula bytes tk ts i)
formula_miss bytes tk ts i old new Memory h = tt
formula_miss bytes tk ts i old new (Version n) h = no_formula h
formula_miss bytes tk ts i old new (Syntax n) h = no_formula h
formula_miss bytes tk ts i old new (NotUnitary n) h = no_formula h
formula_miss bytes tk ts i old new (Include n) h = no_formula h
formula_miss bytes tk ts i old new (Opaque n) h = no_formula h
formula_miss bytes tk ts i old new (Deep n) h = no_formula h

pub formula_fault : (bytes : List ℕ) (tk : List Token) (ts : List Sort) (i : ℕ) (old new : List Mark) (x : ParseFault) (r : Result (Formula × ℕ) ParseFault) → Passed r x → Answers ts (chain Sums) 128 i old new (Err x) → Told r (IsFormula bytes tk ts i)
formula_fault bytes tk ts i old new x r (y, e, g) h = subst (λ z. Told z (IsFormula bytes tk ts i)) (sym (e ∙ ap Err g)) (formula_miss bytes tk ts i old new x h)

-- one application by its parts
abbrev pub call_at : Called → Span → List Formula → List Arg → ℕ → Got Call
call_at g p xs us j = got (record { gate = g; at = p; params = xs; args = us }) j

pub call_same : (g : Called) (p q : Span) (xs ys : List Formula) (us vs : List Arg) (j k : ℕ) → p ≡ q → xs ≡ ys → us ≡ vs → j ≡ k → call_at g p xs us j ≡ call_at g q ys vs k
call_same g p q xs ys us vs j k e f h i =
    ap (λ (x : Span). call_at g x xs us j) e ∙ ap (λ (x : List Formula). call_at g q x us j) f
    ∙ ap (λ (x : List Arg). call_at g q ys x j) h ∙ ap (λ (x : ℕ). call_at g q ys vs x) i

pub after_at : {B : Type 0} {ts : List Sort} {s : Sort} {rest : ℕ → Got B → Type 0} {i j : ℕ} {r : Got B} → at ts i ≡ s → j ≡ i + 1 → rest j r → After ts s rest i r
after_at {rest = rest} {r = r} h e k = after h (subst (λ x. rest x r) e k)

-- from a place further on
pub onward_from : {A : Type 0} (ts : List Sort) (i j : ℕ) (r : Result (A × ℕ) ParseFault) → i ≤ j → Onward ts j r → Onward ts i r
onward_from ts i j (Ok x) h (on, in_it) = (omega arith, in_it)
onward_from ts i j (Err f) h on = tt

pub got_same : {A : Type 0} (x y : A) (j k : ℕ) → x ≡ y → j ≡ k → got x j ≡ got y k
got_same x y j k e f = ap (λ z. got z j) e ∙ ap (λ z. got y z) f

pub gate_same : (name : Span) (ps qs us vs : List Span) (xs ys : List Inner) (j : ℕ) → ps ≡ qs → us ≡ vs → xs ≡ ys
    → got (Gate name ps us xs) j ≡ got (Gate name qs vs ys) j
gate_same name ps qs us vs xs ys j e f g =
    ap (λ (z : List Span). got (Gate name z us xs) j) e ∙ ap (λ (z : List Span). got (Gate name qs z xs) j) f ∙ ap (λ (z : List Inner). got (Gate name qs vs z) j) g

-- things one after another up to an end
pub put_none : {A : Type 0} (P : Got (List A) → Type 0) (r : Got (List A)) → P r → P (put [] r)
put_none P (got xs j) h = h
put_none P (miss f) h = h

pub put_one : {A : Type 0} (xs new : List A) (a : A) (r : Got (List A)) → new ≡ xs ++ (a ∷ []) → put xs (put (a ∷ []) r) ≡ put new r
put_one xs new a (got ys j) e = ap (λ z. got z j) (sym (append_assoc xs (a ∷ []) ys) ∙ ap (λ z. z ++ ys) (sym e))
put_one xs new a (miss f) e = refl

-- what is told of one thing, told of another
pub told_weaker : {A : Type 0} (P Q : Got A → Type 0) (r : Result (A × ℕ) ParseFault) → ((g : Got A) → P g → Q g) → Told r P → Told r Q
told_weaker P Q (Ok x) f h = f (got x.0 x.1) h
told_weaker P Q (Err Memory) f h = tt
told_weaker P Q (Err (Version n)) f h = f (miss (Version n)) h
told_weaker P Q (Err (Syntax n)) f h = f (miss (Syntax n)) h
told_weaker P Q (Err (NotUnitary n)) f h = f (miss (NotUnitary n)) h
told_weaker P Q (Err (Include n)) f h = f (miss (Include n)) h
told_weaker P Q (Err (Opaque n)) f h = f (miss (Opaque n)) h
told_weaker P Q (Err (Deep n)) f h = f (miss (Deep n)) h

pub listing_weaker : {A B : Type 0} (view : A → B) (P Q : Got B → Type 0) (r : Result (A × ℕ) ParseFault) → ((g : Got B) → P g → Q g) → Listing view r P → Listing view r Q
listing_weaker view P Q (Ok x) f h = f (got (view x.0) x.1) h
listing_weaker view P Q (Err Memory) f h = tt
listing_weaker view P Q (Err (Version n)) f h = f (miss (Version n)) h
listing_weaker view P Q (Err (Syntax n)) f h = f (miss (Syntax n)) h
listing_weaker view P Q (Err (NotUnitary n)) f h = f (miss (NotUnitary n)) h
listing_weaker view P Q (Err (Include n)) f h = f (miss (Include n)) h
listing_weaker view P Q (Err (Opaque n)) f h = f (miss (Opaque n)) h
listing_weaker view P Q (Err (Deep n)) f h = f (miss (Deep n)) h
