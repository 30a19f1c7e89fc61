-- Each thing that is read from a place is one thing.
use Rattle.std.proofs.Common.{◌≡◌, ◌≢◌, ℕ, suc, zero, ◌+◌, ◌-◌, ◌*◌, ◌^◌, ◌%◌, List, [], ◌∷◌, Some, None, refl, sym, ◌∙◌, ap, subst, arith, min, mul_assoc}
use Rattle.std.specs.Prelude.{ℤ, pos, ◌+ℤ◌, ◌-ℤ◌}
use Rattle.std.proofs.Math.Nat.{pow-suc}
use Rattle.qasm_lex.specs.declared.types.Token.{Token}
use Rattle.qasm_angle.specs.declared.types.Op.{Op}
use Rattle.qasm_angle.specs.declared.types.Op.TheVariants.{Number as NumberOp, Id as IdOp}
use Rattle.qasm_parse.specs.declared.sort.Sort.{Sort}
use Rattle.qasm_parse.specs.declared.sort.Sort.TheVariants.{Id, Whole, Close, CloseBracket}
use Rattle.qasm_parse.specs.declared.sort.Mark.{Mark}
use Rattle.qasm_parse.specs.declared.program.Span.{Span}
use Rattle.qasm_parse.specs.declared.program.Formula.{Formula}
use Rattle.qasm_parse.specs.declared.phrases.Form.{Form}
use Rattle.qasm_parse.specs.declared.phrases.Form.TheVariants.{Bare, Indexed}
use Rattle.qasm_parse.specs.declared.fault.ParseFault.{ParseFault}
use Rattle.qasm_parse.specs.Grammar.{at, done, bad}
use Rattle.qasm_parse.specs.Numbers.{places, exponent, held, IsNumeral, none, some}
use Rattle.qasm_parse.specs.Phrases.{Got, got, miss, put, Gives, After, after, elsewhere, Then, then, missed, Listed, final, next, missing, Enclosed, absent, empty, full, IsSpan, there, other, IsArg, bare, plain, indexed, no_name}
use Rattle.qasm_parse.specs.Formulas.{OpIs, number_is, id_is, pi_is, neg_is, add_is, sub_is, mul_is, div_is, pow_is, func_is, OpsAre, no_op, one_op, IsFormula, formula, no_formula, text_at, ids}
use Rattle.qasm_parse.proofs.One.{one}

abbrev pub Single : {A : Type 0} → (Got A → Type 0) → Type 0
Single {A} P = (x y : Got A) → P x → P y → x ≡ y

pub gives_one : {A : Type 0} (a : A) (i : ℕ) → Single (Gives a i)
gives_one a i x y h g = h ∙ sym g

pub after_one : {B : Type 0} (ts : List Sort) (s : Sort) (rest : ℕ → Got B → Type 0) (i : ℕ) → Single (rest (i + 1)) → Single (After ts s rest i)
after_one ts s rest i single x y (after e h) (after f g) = single x y h g
after_one ts s rest i single x y (after e h) (elsewhere n) = absurd (n e)
after_one ts s rest i single x y (elsewhere n) (after e h) = absurd (n e)
after_one ts s rest i single x y (elsewhere n) (elsewhere m) = refl

-- the parts of what was got
abbrev place_of : {A : Type 0} → ℕ → Got A → ℕ
place_of k (got a j) = j
place_of k (miss f) = k

abbrev thing_of : {A : Type 0} → A → Got A → A
thing_of d (got a j) = a
thing_of d (miss f) = d

pub same_place : {A : Type 0} (a b : A) (j k : ℕ) → got a j ≡ got b k → j ≡ k
same_place a b j k e = ap (place_of j) e

pub same_thing : {A : Type 0} (a b : A) (j k : ℕ) → got a j ≡ got b k → a ≡ b
same_thing a b j k e = ap (thing_of a) e

pub never : {A : Type 0} (a : A) (j : ℕ) (f : ParseFault) → got a j ≡ miss f → ⊥
never a j f e = cc

pub fault_same : {A B : Type 0} (f e : ParseFault) → ◌≡◌ {A = Got A} (miss f) (miss e) → ◌≡◌ {A = Got B} (miss f) (miss e)
fault_same f e h = let k : f ≡ e = cc in ap miss k

pub then_one : {A B : Type 0} (thing : ℕ → Got A → Type 0) (rest : A → ℕ → Got B → Type 0) (i : ℕ) → Single (thing i) → ((a : A) (j : ℕ) → Single (rest a j)) → Single (Then thing rest i)
then_one thing rest i single more x y (then {a = a} {j = j} h k) (then {a = b} {j = m} g l) =
    let e : got a j ≡ got b m = single (got a j) (got b m) h g in
    more a j x y k (subst (λ z. rest z j y) (sym (same_thing a b j m e)) (subst (λ z. rest b z y) (sym (same_place a b j m e)) l))
then_one thing rest i single more x y (then {a = a} {j = j} h k) (missed {f = f} g) = absurd (never a j f (single (got a j) (miss f) h g))
then_one thing rest i single more x y (missed {f = f} g) (then {a = a} {j = j} h k) = absurd (never a j f (single (got a j) (miss f) h g))
then_one thing rest i single more x y (missed {f = f} g) (missed {f = e} h) = fault_same f e (single (miss f) (miss e) g h)

pub listed_one : {A : Type 0} (ts : List Sort) (thing : ℕ → Got A → Type 0) → ((i : ℕ) → Single (thing i)) → (i : ℕ) → Single (Listed ts thing i)
listed_one ts thing single i x y (final {j = j} {a = a} h n) (final {j = m} {a = b} g k) =
    let e : got a j ≡ got b m = single i (got a j) (got b m) h g in
    ap (λ z. got (z ∷ []) j) (same_thing a b j m e) ∙ ap (λ z. got (b ∷ []) z) (same_place a b j m e)
listed_one ts thing single i x y (final {j = j} {a = a} h n) (next {j = m} {a = b} g c l) =
    let e : got a j ≡ got b m = single i (got a j) (got b m) h g in
    absurd (n (ap (at ts) (same_place a b j m e) ∙ c))
listed_one ts thing single i x y (final {j = j} {a = a} h n) (missing {f = f} g) = absurd (never a j f (single i (got a j) (miss f) h g))
listed_one ts thing single i x y (next {j = m} {a = b} g c l) (final {j = j} {a = a} h n) =
    let e : got a j ≡ got b m = single i (got a j) (got b m) h g in
    absurd (n (ap (at ts) (same_place a b j m e) ∙ c))
listed_one ts thing single i x y (next {j = j} {a = a} {r = r} h c k) (next {j = m} {a = b} {r = s} g d l) =
    let e : got a j ≡ got b m = single i (got a j) (got b m) h g in
    let f : r ≡ s = listed_one ts thing single (j + 1) r s k (subst (λ z. Listed ts thing z s) (ap (λ z. z + 1) (sym (same_place a b j m e))) l) in
    ap (λ z. put (z ∷ []) r) (same_thing a b j m e) ∙ ap (λ z. put (b ∷ []) z) f
listed_one ts thing single i x y (next {j = j} {a = a} h c k) (missing {f = f} g) = absurd (never a j f (single i (got a j) (miss f) h g))
listed_one ts thing single i x y (missing {f = f} g) (final {j = j} {a = a} h n) = absurd (never a j f (single i (got a j) (miss f) h g))
listed_one ts thing single i x y (missing {f = f} g) (next {j = j} {a = a} h c k) = absurd (never a j f (single i (got a j) (miss f) h g))
listed_one ts thing single i x y (missing {f = f} g) (missing {f = e} h) = fault_same f e (single i (miss f) (miss e) g h)

pub enclosed_one : {A : Type 0} (ts : List Sort) (thing : ℕ → Got A → Type 0) → ((i : ℕ) → Single (thing i)) → (i : ℕ) → Single (Enclosed ts thing i)
enclosed_one ts thing single i x y (absent n) (absent m) = refl
enclosed_one ts thing single i x y (absent n) (empty e _) = absurd (n e)
enclosed_one ts thing single i x y (absent n) (full e _ _) = absurd (n e)
enclosed_one ts thing single i x y (empty e _) (absent n) = absurd (n e)
enclosed_one ts thing single i x y (empty e f) (empty _ _) = refl
enclosed_one ts thing single i x y (empty e f) (full _ n _) = absurd (n f)
enclosed_one ts thing single i x y (full e _ _) (absent n) = absurd (n e)
enclosed_one ts thing single i x y (full _ n _) (empty e f) = absurd (n f)
enclosed_one {A} ts thing single i x y (full e n h) (full f m g) =
    then_one (Listed ts thing) (λ xs. After ts Close (Gives xs)) (i + 1) (listed_one ts thing single (i + 1)) (λ xs j. after_one ts Close (Gives xs) j (gives_one xs (j + 1))) x y h g

pub span_one : (tk : List Token) (ts : List Sort) (s : Sort) (i : ℕ) → Single (IsSpan tk ts s i)
span_one tk ts s i x y (there e) (there f) = refl
span_one tk ts s i x y (there e) (other n) = absurd (n e)
span_one tk ts s i x y (other n) (there e) = absurd (n e)
span_one tk ts s i x y (other n) (other m) = refl

pub arg_one : (tk : List Token) (ts : List Sort) (form : Form) (i : ℕ) → Single (IsArg tk ts form i)
arg_one tk ts Bare i x y (bare h) (bare g) = then_one (IsSpan tk ts Id) (λ name. Gives (record { name = name; index = None })) i (span_one tk ts Id i) (λ name j. gives_one (record { name = name; index = None }) j) x y h g
arg_one tk ts Indexed i x y (plain {j = j} {name = a} h n) (plain {j = m} {name = b} g k) =
    let e : got a j ≡ got b m = span_one tk ts Id i (got a j) (got b m) h g in
    ap (λ (z : Span). got (record { name = z; index = None }) j) (same_thing a b j m e) ∙ ap (λ z. got (record { name = b; index = None }) z) (same_place a b j m e)
arg_one tk ts Indexed i x y (plain {j = j} {name = a} h n) (indexed {j = m} {name = b} g c k) =
    let e : got a j ≡ got b m = span_one tk ts Id i (got a j) (got b m) h g in
    absurd (n (ap (at ts) (same_place a b j m e) ∙ c))
arg_one tk ts Indexed i x y (plain {j = j} {name = a} h n) (no_name {f = f} g) = absurd (never a j f (span_one tk ts Id i (got a j) (miss f) h g))
arg_one tk ts Indexed i x y (indexed {j = m} {name = b} g c k) (plain {j = j} {name = a} h n) =
    let e : got a j ≡ got b m = span_one tk ts Id i (got a j) (got b m) h g in
    absurd (n (ap (at ts) (same_place a b j m e) ∙ c))
arg_one tk ts Indexed i x y (indexed {j = j} {name = a} h c k) (indexed {j = m} {name = b} g d l) =
    let e : got a j ≡ got b m = span_one tk ts Id i (got a j) (got b m) h g in
    let rest = λ (z : Span) (index : Span). After ts CloseBracket (Gives (record { name = z; index = Some index })) in
    then_one (IsSpan tk ts Whole) (rest a) (j + 1) (span_one tk ts Whole (j + 1)) (λ index k. after_one ts CloseBracket (Gives (record { name = a; index = Some index })) k (gives_one (record { name = a; index = Some index }) (k + 1))) x y k
    (subst (λ z. Then (IsSpan tk ts Whole) (rest z) (j + 1) y) (sym (same_thing a b j m e)) (subst (λ z. Then (IsSpan tk ts Whole) (rest b) (z + 1) y) (sym (same_place a b j m e)) l))
arg_one tk ts Indexed i x y (indexed {j = j} {name = a} h c k) (no_name {f = f} g) = absurd (never a j f (span_one tk ts Id i (got a j) (miss f) h g))
arg_one tk ts Indexed i x y (no_name {f = f} g) (plain {j = j} {name = a} h n) = absurd (never a j f (span_one tk ts Id i (got a j) (miss f) h g))
arg_one tk ts Indexed i x y (no_name {f = f} g) (indexed {j = j} {name = a} h c k) = absurd (never a j f (span_one tk ts Id i (got a j) (miss f) h g))
arg_one tk ts Indexed i x y (no_name {f = f} g) (no_name {f = e} h) = fault_same f e (span_one tk ts Id i (miss f) (miss e) g h)

-- one number without zeros at its end
ten_up : (d e z : ℕ) → d * 10 ^ suc z ≡ (d * 10 ^ z) * 10
ten_up d e z = ap (λ x. d * x) (pow-suc 10 z) ∙ sym (mul_assoc d (10 ^ z) 10)

zeros_one : (d e z w : ℕ) → d % 10 ≢ 0 → e % 10 ≢ 0 → d * 10 ^ z ≡ e * 10 ^ w → (d ≡ e) × (z ≡ w)
zeros_one d e zero zero p q h = (omega arith, refl)
zeros_one d e zero (suc w) p q h = let u = ten_up e e w in absurd (p (omega arith))
zeros_one d e (suc z) zero p q h = let u = ten_up d d z in absurd (q (omega arith))
zeros_one d e (suc z) (suc w) p q h =
    let u = ten_up d d z in let v = ten_up e e w in
    let k : (d ≡ e) × (z ≡ w) = zeros_one d e z w p q (omega arith) in
    (k.0, ap suc k.1)

no_zero : (d z : ℕ) → d % 10 ≢ 0 → d * 10 ^ z ≡ 0 → ⊥
no_zero d zero p h = p (omega arith)
no_zero d (suc z) p h = let u = ten_up d d z in no_zero d z p (omega arith)

pub numeral_one : (text : List ℕ) (d e : ℕ) (t u : ℤ) → IsNumeral text d t → IsNumeral text e u → (d ≡ e) × (t ≡ u)
numeral_one text d e t u (none _ a b) (none _ f g) = (a ∙ sym f, b ∙ sym g)
numeral_one text d e t u (none z _ _) (some n zeros m p _ _) = absurd (no_zero n zeros p (sym m ∙ z))
numeral_one text d e t u (some n zeros m p _ _) (none z _ _) = absurd (no_zero n zeros p (sym m ∙ z))
numeral_one text d e t u (some n z m p a b) (some k w l q f g) =
    let h : (n ≡ k) × (z ≡ w) = zeros_one n k z w p q (sym m ∙ l) in
    (a ∙ ap (λ x. min x 1000000000000000000) h.0 ∙ sym f, b ∙ ap (λ x. held (exponent text +ℤ pos x -ℤ pos (places text))) h.1 ∙ sym g)

op_one : (bytes : List ℕ) (tk : List Token) (ts : List Sort) (i : ℕ) (m : Mark) (x y : Op) → OpIs bytes tk ts i m x → OpIs bytes tk ts i m y → x ≡ y
op_one bytes tk ts i m x y (number_is {k = k} {digits = d} {ten = t} h) (number_is {digits = e} {ten = u} g) =
    let p : (d ≡ e) × (t ≡ u) = numeral_one (text_at bytes tk k) d e t u h g in
    ap (λ z. NumberOp z t) p.0 ∙ ap (NumberOp e) p.1
op_one bytes tk ts i m x y (id_is h) (id_is g) = ap IdOp (h ∙ sym g)
op_one bytes tk ts i m x y pi_is pi_is = refl
op_one bytes tk ts i m x y neg_is neg_is = refl
op_one bytes tk ts i m x y add_is add_is = refl
op_one bytes tk ts i m x y sub_is sub_is = refl
op_one bytes tk ts i m x y mul_is mul_is = refl
op_one bytes tk ts i m x y div_is div_is = refl
op_one bytes tk ts i m x y pow_is pow_is = refl
op_one bytes tk ts i m x y func_is func_is = refl

ops_one : (bytes : List ℕ) (tk : List Token) (ts : List Sort) (i : ℕ) (ms : List Mark) (xs ys : List Op) → OpsAre bytes tk ts i ms xs → OpsAre bytes tk ts i ms ys → xs ≡ ys
ops_one bytes tk ts i ms xs ys no_op no_op = refl
ops_one bytes tk ts i ms xs ys (one_op {m = m} {op = x} {ms = ns} {ops = us} h k) (one_op {op = y} {ops = vs} g l) =
    ap (λ z. z ∷ us) (op_one bytes tk ts i m x y h g) ∙ ap (λ z. y ∷ z) (ops_one bytes tk ts i ns us vs k l)

abbrev formula_at : List Op → List Span → ℕ → ℕ → Got Formula
formula_at ops ids from j = got (record { expr = ops; ids = ids; from = from }) j

same_formula : (os ps : List Op) (xs ys : List Span) (m n j k : ℕ) → os ≡ ps → xs ≡ ys → m ≡ n → j ≡ k → formula_at os xs m j ≡ formula_at ps ys n k
same_formula os ps xs ys m n j k e f g h =
    ap (λ z. formula_at z xs m j) e ∙ ap (λ z. formula_at ps z m j) f ∙ ap (λ z. formula_at ps ys z j) g ∙ ap (λ z. formula_at ps ys n z) h

pub formula_one : (bytes : List ℕ) (tk : List Token) (ts : List Sort) (i : ℕ) → Single (IsFormula bytes tk ts i)
formula_one bytes tk ts i x y (formula {j = j} {ms = ms} {f = f} h o p q) (formula {j = k} {ms = ns} {f = g} l u v w) =
    let e : done ms j ≡ done ns k = one h l in
    let a : ms ≡ ns = cc in let b : j ≡ k = cc in
    same_formula f.expr g.expr f.ids g.ids f.from g.from j k (ops_one bytes tk ts i ms f.expr g.expr o (subst (λ z. OpsAre bytes tk ts i z g.expr) (sym a) u))
    (p ∙ ap (λ z. ids tk ts i (z - i)) b ∙ sym v) (q ∙ sym w) b
formula_one bytes tk ts i x y (formula {j = j} {ms = ms} h o p q) (no_formula {f = g} l) = let e : done ms j ≡ bad g = one h l in absurd (cc)
formula_one bytes tk ts i x y (no_formula {f = g} l) (formula {j = j} {ms = ms} h o p q) = let e : done ms j ≡ bad g = one h l in absurd (cc)
formula_one bytes tk ts i x y (no_formula {f = f} h) (no_formula {f = g} l) = let e : bad f ≡ bad g = one h l in let a : f ≡ g = cc in ap miss a
