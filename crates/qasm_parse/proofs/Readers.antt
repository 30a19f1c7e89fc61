-- Readers of the part of the grammar that the library is written in: each gives what is read from a place on, with its proof,
-- or nothing.
use Rattle.std.proofs.Common.{◌≡◌, ℕ, zero, suc, ◌+◌, ◌-◌, ◌<◌, Bool, true, false, inl, inr, Option, Some, None, List, [], ◌∷◌, ◌++◌, subst, sym, refl, arith}
use Rattle.std.specs.Prelude.{ℤ, pos, codes, bytes_eq}
use Rattle.std.proofs.lemmas.Slice.Eq.{bytes_eq-Decides}
use Rattle.qasm_lex.specs.declared.types.Token.{Token}
use Rattle.qasm_angle.specs.declared.types.Op.{Op}
use Rattle.qasm_angle.specs.declared.types.Op.TheVariants.{Number as NumberOp, Pi as PiOp, Id as IdOp, Neg as NegOp, Add as AddOp, Sub as SubOp, Mul as MulOp, Div as DivOp, Pow as PowOp}
use Rattle.qasm_parse.specs.declared.sort.Sort.{Sort}
use Rattle.qasm_parse.specs.declared.sort.Sort.TheVariants.{End, OpenQasm, Gate as GateWord, Universal, Cx as CxWord, Id, Semicolon, Comma, Open, Close, OpenBrace, CloseBrace, Minus, Power}
use Rattle.qasm_parse.specs.declared.sort.Mark.{Mark}
use Rattle.qasm_parse.specs.declared.sort.Mark.TheVariants.{Number, Pi, Id as IdMark, Neg, Add, Sub, Mul, Div, Pow, Func}
use Rattle.qasm_parse.specs.declared.sort.Level.{Level}
use Rattle.qasm_parse.specs.declared.sort.Level.TheVariants.{Sums}
use Rattle.qasm_parse.specs.declared.program.Span.{Span}
use Rattle.qasm_parse.specs.declared.program.Arg.{Arg}
use Rattle.qasm_parse.specs.declared.program.Formula.{Formula}
use Rattle.qasm_parse.specs.declared.program.Call.{Call}
use Rattle.qasm_parse.specs.declared.program.Called.TheVariants.{U, Cx, Named}
use Rattle.qasm_parse.specs.declared.program.Inner.{Inner}
use Rattle.qasm_parse.specs.declared.program.Inner.TheVariants.{Apply as ApplyInner}
use Rattle.qasm_parse.specs.declared.program.Statement.{Statement}
use Rattle.qasm_parse.specs.declared.program.Statement.TheVariants.{Gate}
use Rattle.qasm_parse.specs.declared.phrases.Form.TheVariants.{Bare}
use Rattle.qasm_parse.specs.declared.whence.Whence.TheVariants.{Text as TextWhence}
use Rattle.qasm_parse.specs.Grammar.{at, sign_of, leaf_of, done, Part, chain, tail, signed, power, atom, operand, Reads, chained, more, stop, negated, unsigned, based, leaf, grouped}
use Rattle.qasm_parse.specs.Sorts.{is_version}
use Rattle.qasm_parse.specs.Numbers.{IsNumeral, none, some}
use Rattle.qasm_parse.specs.Phrases.{Got, got, Gives, After, after, Then, then, Listed, final, next, Enclosed, absent, empty, full, span_of, IsSpan, there, IsArg, bare}
use Rattle.qasm_parse.specs.Formulas.{IsFormula, formula, OpIs, number_is, id_is, pi_is, neg_is, add_is, sub_is, mul_is, div_is, pow_is, OpsAre, no_op, one_op, ids, id_count, text_at}
use Rattle.qasm_parse.specs.Statements.{IsCall, universal, controlled, applied, IsInner, applies, IsBody, closed, inner, defines, IsStatement, declares, IsProgram, over, statement, IsText, text}
use Rattle.qasm_parse.proofs.SameSort.{is_sort}

-- what is read from a place on, and the place behind it
abbrev pub Reader : {A : Type 0} → (ℕ → Got A → Type 0) → Type 0
Reader {A} thing = (i : ℕ) → Option ((a : A) × (j : ℕ) × thing i (got a j))

-- the same, read as another thing
unfoldable pub read_as : {A : Type 0} {P Q : Got A → Type 0} → ((g : Got A) → P g → Q g) → Option ((a : A) × (j : ℕ) × P (got a j)) → Option ((a : A) × (j : ℕ) × Q (got a j))
read_as f None = None
read_as f (Some x) = Some (x.0, x.1, f (got x.0 x.1) x.2)

unfoldable pub gives_reader : {A : Type 0} (a : A) → Reader (Gives a)
gives_reader a i = Some (a, i, refl)

unfoldable pub then_reader : {A B : Type 0} (thing : ℕ → Got A → Type 0) (rest : A → ℕ → Got B → Type 0) → Reader thing → ((a : A) → Reader (rest a)) → Reader (Then thing rest)
then_reader {A} {B} thing rest r k i = elim (r i) as (λ _. Option ((b : B) × (j : ℕ) × Then thing rest i (got b j))) [
  | None ↦ None
  | Some x ↦ read_as {P = rest x.0 x.1} {Q = Then thing rest i} (λ g h. then x.2 h) (k x.0 x.1)
]

module _ (ts : List Sort) where
  unfoldable pub after_reader : {B : Type 0} (s : Sort) (rest : ℕ → Got B → Type 0) → Reader rest → Reader (After ts s rest)
  after_reader {B} s rest r i = elim (is_sort (at ts i) s) as (λ _. Option ((b : B) × (j : ℕ) × After ts s rest i (got b j))) [
    | inl e ↦ read_as {P = rest (i + 1)} {Q = After ts s rest i} (λ g h. after e h) (r (i + 1))
    | inr n ↦ None
  ]

  unfoldable pub listed_next : {A : Type 0} (thing : ℕ → Got A → Type 0) → Reader thing → Reader (Listed ts thing) → Reader (Listed ts thing)
  listed_next {A} thing r on i = elim (r i) as (λ _. Option ((as' : List A) × (j : ℕ) × Listed ts thing i (got as' j))) [
    | None ↦ None
    | Some x ↦ elim (is_sort (at ts x.1) Comma) as (λ _. Option ((as' : List A) × (j : ℕ) × Listed ts thing i (got as' j))) [
      | inr n ↦ Some (x.0 ∷ [], x.1, final x.2 n)
      | inl e ↦ elim (on (x.1 + 1)) as (λ _. Option ((as' : List A) × (j : ℕ) × Listed ts thing i (got as' j))) [
        | None ↦ None
        | Some y ↦ Some (x.0 ∷ y.0, y.1, next {r = got y.0 y.1} x.2 e y.2)
      ]
    ]
  ]

  -- at most so many things
  unfoldable pub listed_reader : {A : Type 0} (thing : ℕ → Got A → Type 0) → Reader thing → ℕ → Reader (Listed ts thing)
  listed_reader thing r zero i = None
  listed_reader thing r (suc n) i = listed_next thing r (listed_reader thing r n) i

  unfoldable pub enclosed_reader : {A : Type 0} (thing : ℕ → Got A → Type 0) → Reader (Listed ts thing) → Reader (Enclosed ts thing)
  enclosed_reader {A} thing r i = elim (is_sort (at ts i) Open) as (λ _. Option ((as' : List A) × (j : ℕ) × Enclosed ts thing i (got as' j))) [
    | inr n ↦ Some ([], i, absent n)
    | inl e ↦ elim (is_sort (at ts (i + 1)) Close) as (λ _. Option ((as' : List A) × (j : ℕ) × Enclosed ts thing i (got as' j))) [
      | inl f ↦ Some ([], i + 2, empty e f)
      | inr n ↦ read_as {P = Then (Listed ts thing) (λ xs. After ts Close (Gives xs)) (i + 1)} {Q = Enclosed ts thing i} (λ g h. full e n h)
          (then_reader (Listed ts thing) (λ xs. After ts Close (Gives xs)) r (λ xs. after_reader Close (Gives xs) (gives_reader xs)) (i + 1))
    ]
  ]

  -- ---- expressions
  abbrev pub PartReader : Type 0
  PartReader = (p : Part) (room i : ℕ) → Option ((es : List Mark) × (j : ℕ) × Reads ts p room i (done es j))

  abbrev PartRead : Part → ℕ → ℕ → Type 0
  PartRead p room i = Option ((es : List Mark) × (j : ℕ) × Reads ts p room i (done es j))

  unfoldable pub tail_by : PartReader → (level : Level) (room i : ℕ) (o : Option Mark) → sign_of level (at ts i) ≡ o → PartRead (tail level) room i
  tail_by r level room i None e = Some ([], i, stop e)
  tail_by r level room i (Some m) e = elim (r (operand level) room (i + 1)) as (λ _. PartRead (tail level) room i) [
    | None ↦ None
    | Some x ↦ elim (r (tail level) room x.1) as (λ _. PartRead (tail level) room i) [
      | None ↦ None
      | Some y ↦ Some ((x.0 ++ m ∷ []) ++ y.0, y.1, more {r = done y.0 y.1} e x.2 y.2)
    ]
  ]

  -- one more construct may be open
  unfoldable pub has_room : (room : ℕ) → Option (0 < room)
  has_room zero = None
  has_room (suc n) = Some (omega arith)

  unfoldable pub signed_by : PartReader → (room i : ℕ) → PartRead signed room i
  signed_by r room i = elim (is_sort (at ts i) Minus) as (λ _. PartRead signed room i) [
    | inr n ↦ elim (r power room i) as (λ _. PartRead signed room i) [ None ↦ None | Some x ↦ Some (x.0, x.1, unsigned n x.2) ]
    | inl e ↦ elim (has_room room) as (λ _. PartRead signed room i) [
      | None ↦ None
      | Some lt ↦ elim (r signed (room - 1) (i + 1)) as (λ _. PartRead signed room i) [
        | None ↦ None
        | Some x ↦ Some (x.0 ++ Neg ∷ [], x.1, negated {r = done x.0 x.1} e lt x.2)
      ]
    ]
  ]

  unfoldable pub power_by : PartReader → (room i : ℕ) → PartRead power room i
  power_by r room i = elim (r atom room i) as (λ _. PartRead power room i) [
    | None ↦ None
    | Some x ↦ elim (is_sort (at ts x.1) Power) as (λ _. PartRead power room i) [ inl e ↦ None | inr n ↦ Some (x.0, x.1, based x.2 n) ]
  ]

  unfoldable pub group_by : PartReader → (room i : ℕ) → PartRead atom room i
  group_by r room i = elim (is_sort (at ts i) Open) as (λ _. PartRead atom room i) [
    | inr n ↦ None
    | inl e ↦ elim (has_room room) as (λ _. PartRead atom room i) [
      | None ↦ None
      | Some lt ↦ elim (r (chain Sums) (room - 1) (i + 1)) as (λ _. PartRead atom room i) [
        | None ↦ None
        | Some x ↦ elim (is_sort (at ts x.1) Close) as (λ _. PartRead atom room i) [ inr n ↦ None | inl c ↦ Some (x.0, x.1 + 1, grouped e lt x.2 c) ]
      ]
    ]
  ]

  unfoldable pub atom_by : PartReader → (room i : ℕ) (o : Option Mark) → leaf_of (at ts i) i ≡ o → PartRead atom room i
  atom_by r room i (Some m) e = Some (m ∷ [], i + 1, leaf e)
  atom_by r room i None e = group_by r room i

  unfoldable pub part_by : PartReader → PartReader
  part_by r (chain level) room i = elim (r (operand level) room i) as (λ _. PartRead (chain level) room i) [
    | None ↦ None
    | Some x ↦ elim (r (tail level) room x.1) as (λ _. PartRead (chain level) room i) [ None ↦ None | Some y ↦ Some (x.0 ++ y.0, y.1, chained {r = done y.0 y.1} x.2 y.2) ]
  ]
  part_by r (tail level) room i = tail_by r level room i (sign_of level (at ts i)) refl
  part_by r signed room i = signed_by r room i
  part_by r power room i = power_by r room i
  part_by r atom room i = atom_by r room i (leaf_of (at ts i) i) refl

  -- so deep at most
  unfoldable pub part_reader : ℕ → PartReader
  part_reader zero p room i = None
  part_reader (suc n) p room i = part_by (part_reader n) p room i

-- ---- numbers of one digit that stand in the library
pub zero_is : IsNumeral (codes "0") 0 (pos 0)
zero_is = none refl refl refl

pub two_is : IsNumeral (codes "2") 2 (pos 0)
two_is = some 2 0 refl (λ e. absurd (omega (arith, e))) refl refl

pub four_is : IsNumeral (codes "4") 4 (pos 0)
four_is = some 4 0 refl (λ e. absurd (omega (arith, e))) refl refl

abbrev Numeral : List ℕ → Type 0
Numeral w = Option ((d : ℕ) × (ten : ℤ) × IsNumeral w d ten)

pub spelled_so : (w v : List ℕ) (d : ℕ) (ten : ℤ) → IsNumeral v d ten → bytes_eq w v ≡ true → IsNumeral w d ten
spelled_so w v d ten h e = subst (λ z. IsNumeral z d ten) (sym ((bytes_eq-Decides w v).0 e)) h

unfoldable pub numeral_by : (w : List ℕ) (x y z : Bool) → bytes_eq w (codes "0") ≡ x → bytes_eq w (codes "2") ≡ y → bytes_eq w (codes "4") ≡ z → Numeral w
numeral_by w true y z e f g = Some (0, pos 0, spelled_so w (codes "0") 0 (pos 0) zero_is e)
numeral_by w false true z e f g = Some (2, pos 0, spelled_so w (codes "2") 2 (pos 0) two_is f)
numeral_by w false false true e f g = Some (4, pos 0, spelled_so w (codes "4") 4 (pos 0) four_is g)
numeral_by w false false false e f g = None

abbrev pub numeral : (w : List ℕ) → Numeral w
numeral w = numeral_by w (bytes_eq w (codes "0")) (bytes_eq w (codes "2")) (bytes_eq w (codes "4")) refl refl refl

module _ (bytes : List ℕ) (tk : List Token) (ts : List Sort) where
  abbrev OpRead : ℕ → Mark → Type 0
  OpRead i m = Option ((op : Op) × OpIs bytes tk ts i m op)

  unfoldable pub op_reader : (i : ℕ) (m : Mark) → OpRead i m
  op_reader i (Number k) = elim (numeral (text_at bytes tk k)) as (λ _. OpRead i (Number k)) [ None ↦ None | Some x ↦ Some (NumberOp x.0 x.1, number_is x.2) ]
  op_reader i (IdMark k) = Some (IdOp (id_count ts i (k - i)), id_is refl)
  op_reader i Pi = Some (PiOp, pi_is)
  op_reader i Neg = Some (NegOp, neg_is)
  op_reader i Add = Some (AddOp, add_is)
  op_reader i Sub = Some (SubOp, sub_is)
  op_reader i Mul = Some (MulOp, mul_is)
  op_reader i Div = Some (DivOp, div_is)
  op_reader i Pow = Some (PowOp, pow_is)
  op_reader i Func = None

  abbrev OpsRead : ℕ → List Mark → Type 0
  OpsRead i ms = Option ((ops : List Op) × OpsAre bytes tk ts i ms ops)

  unfoldable pub ops_reader : (i : ℕ) (ms : List Mark) → OpsRead i ms
  ops_reader i [] = Some ([], no_op)
  ops_reader i (m ∷ ms) = elim (op_reader i m) as (λ _. OpsRead i (m ∷ ms)) [
    | None ↦ None
    | Some x ↦ elim (ops_reader i ms) as (λ _. OpsRead i (m ∷ ms)) [ None ↦ None | Some y ↦ Some (x.0 ∷ y.0, one_op x.1 y.1) ]
  ]

  unfoldable pub formula_reader : Reader (IsFormula bytes tk ts)
  formula_reader i = elim (part_reader ts 64 (chain Sums) 128 i) as (λ _. Option ((f : Formula) × (j : ℕ) × IsFormula bytes tk ts i (got f j))) [
    | None ↦ None
    | Some x ↦ elim (ops_reader i x.0) as (λ _. Option ((f : Formula) × (j : ℕ) × IsFormula bytes tk ts i (got f j))) [
      | None ↦ None
      | Some y ↦ Some (record { expr = y.0; ids = ids tk ts i (x.1 - i); from = (span_of tk i).from }, x.1, formula x.2 y.1 refl refl)
    ]
  ]

  -- ---- phrases
  unfoldable pub span_reader : (s : Sort) → Reader (IsSpan tk ts s)
  span_reader s i = elim (is_sort (at ts i) s) as (λ _. Option ((p : Span) × (j : ℕ) × IsSpan tk ts s i (got p j))) [ inl e ↦ Some (span_of tk i, i + 1, there e) | inr n ↦ None ]

  abbrev bare_arg : Span → Arg
  bare_arg name = record { name = name; index = None }

  unfoldable pub bare_reader : Reader (IsArg tk ts Bare)
  bare_reader i = read_as {P = Then (IsSpan tk ts Id) (λ name. Gives (bare_arg name)) i} {Q = IsArg tk ts Bare i} (λ g h. bare h)
      (then_reader (IsSpan tk ts Id) (λ name. Gives (bare_arg name)) (span_reader Id) (λ name. gives_reader (bare_arg name)) i)

  -- ---- applications
  abbrev universal_call : ℕ → List Formula → Arg → Call
  universal_call i params a = record { gate = U; at = span_of tk i; params = params; args = a ∷ [] }

  abbrev controlled_call : ℕ → Arg → Arg → Call
  controlled_call i a b = record { gate = Cx; at = span_of tk i; params = []; args = a ∷ (b ∷ []) }

  abbrev named_call : ℕ → List Formula → List Arg → Call
  named_call i params args = record { gate = Named; at = span_of tk i; params = params; args = args }

  abbrev Formulas : ℕ → Got (List Formula) → Type 0
  Formulas = Listed ts (IsFormula bytes tk ts)

  unfoldable pub formulas_reader : Reader Formulas
  formulas_reader = listed_reader ts (IsFormula bytes tk ts) formula_reader 8

  abbrev Call_at : ℕ → Type 0
  Call_at i = Option ((c : Call) × (j : ℕ) × IsCall bytes tk ts Bare i (got c j))

  abbrev on_one : ℕ → List Formula → ℕ → Got Call → Type 0
  on_one i params = Then (IsArg tk ts Bare) (λ a. After ts Semicolon (Gives (universal_call i params a)))

  unfoldable pub universal_reader : (i : ℕ) → at ts i ≡ Universal → Call_at i
  universal_reader i e = read_as {P = After ts Open (Then Formulas (λ params. After ts Close (on_one i params))) (i + 1)} {Q = IsCall bytes tk ts Bare i} (λ g h. universal e h)
      (after_reader ts Open (Then Formulas (λ params. After ts Close (on_one i params))) (then_reader Formulas (λ params. After ts Close (on_one i params)) formulas_reader (λ params.
      after_reader ts Close (on_one i params) (then_reader (IsArg tk ts Bare) (λ a. After ts Semicolon (Gives (universal_call i params a))) bare_reader (λ a.
      after_reader ts Semicolon (Gives (universal_call i params a)) (gives_reader (universal_call i params a)))))) (i + 1))

  abbrev on_second : ℕ → Arg → ℕ → Got Call → Type 0
  on_second i a = Then (IsArg tk ts Bare) (λ b. After ts Semicolon (Gives (controlled_call i a b)))

  unfoldable pub controlled_reader : (i : ℕ) → at ts i ≡ CxWord → Call_at i
  controlled_reader i e = read_as {P = Then (IsArg tk ts Bare) (λ a. After ts Comma (on_second i a)) (i + 1)} {Q = IsCall bytes tk ts Bare i} (λ g h. controlled e h)
      (then_reader (IsArg tk ts Bare) (λ a. After ts Comma (on_second i a)) bare_reader (λ a. after_reader ts Comma (on_second i a)
      (then_reader (IsArg tk ts Bare) (λ b. After ts Semicolon (Gives (controlled_call i a b))) bare_reader (λ b.
      after_reader ts Semicolon (Gives (controlled_call i a b)) (gives_reader (controlled_call i a b))))) (i + 1))

  abbrev on_args : ℕ → List Formula → ℕ → Got Call → Type 0
  on_args i params = Then (Listed ts (IsArg tk ts Bare)) (λ args. After ts Semicolon (Gives (named_call i params args)))

  unfoldable pub named_reader : (i : ℕ) → at ts i ≡ Id → Call_at i
  named_reader i e = read_as {P = Then (Enclosed ts (IsFormula bytes tk ts)) (on_args i) (i + 1)} {Q = IsCall bytes tk ts Bare i} (λ g h. applied e h)
      (then_reader (Enclosed ts (IsFormula bytes tk ts)) (on_args i) (enclosed_reader ts (IsFormula bytes tk ts) formulas_reader) (λ params.
      then_reader (Listed ts (IsArg tk ts Bare)) (λ args. After ts Semicolon (Gives (named_call i params args))) (listed_reader ts (IsArg tk ts Bare) bare_reader 8) (λ args.
      after_reader ts Semicolon (Gives (named_call i params args)) (gives_reader (named_call i params args)))) (i + 1))

  unfoldable pub call_reader : Reader (IsCall bytes tk ts Bare)
  call_reader i = elim (is_sort (at ts i) Id) as (λ _. Call_at i) [
    | inl e ↦ named_reader i e
    | inr _ ↦ elim (is_sort (at ts i) Universal) as (λ _. Call_at i) [
      | inl e ↦ universal_reader i e
      | inr _ ↦ elim (is_sort (at ts i) CxWord) as (λ _. Call_at i) [ inl e ↦ controlled_reader i e | inr _ ↦ None ]
    ]
  ]

  -- ---- bodies
  unfoldable pub inner_reader : Reader (IsInner bytes tk ts)
  inner_reader i = read_as {P = Then (IsCall bytes tk ts Bare) (λ call. Gives (ApplyInner call)) i} {Q = IsInner bytes tk ts i} (λ g h. applies h)
      (then_reader (IsCall bytes tk ts Bare) (λ call. Gives (ApplyInner call)) call_reader (λ call. gives_reader (ApplyInner call)) i)

  abbrev Body_at : ℕ → Type 0
  Body_at i = Option ((body : List Inner) × (j : ℕ) × IsBody bytes tk ts i (got body j))

  unfoldable pub body_next : Reader (IsBody bytes tk ts) → Reader (IsBody bytes tk ts)
  body_next on i = elim (is_sort (at ts i) CloseBrace) as (λ _. Body_at i) [
    | inl e ↦ Some ([], i + 1, closed e)
    | inr n ↦ elim (inner_reader i) as (λ _. Body_at i) [
      | None ↦ None
      | Some x ↦ elim (on x.1) as (λ _. Body_at i) [ None ↦ None | Some y ↦ Some (x.0 ∷ y.0, y.1, inner {r = got y.0 y.1} n x.2 y.2) ]
    ]
  ]

  unfoldable pub body_reader : ℕ → Reader (IsBody bytes tk ts)
  body_reader zero i = None
  body_reader (suc n) i = body_next (body_reader n) i

  -- ---- definitions
  abbrev Names : ℕ → Got (List Span) → Type 0
  Names = Listed ts (IsSpan tk ts Id)

  unfoldable pub names_reader : Reader Names
  names_reader = listed_reader ts (IsSpan tk ts Id) (span_reader Id) 8

  abbrev with_body : Span → List Span → List Span → ℕ → Got Statement → Type 0
  with_body name params args = Then (IsBody bytes tk ts) (λ body. Gives (Gate name params args body))

  abbrev with_args : Span → List Span → ℕ → Got Statement → Type 0
  with_args name params = Then Names (λ args. After ts OpenBrace (with_body name params args))

  abbrev with_params : Span → ℕ → Got Statement → Type 0
  with_params name = Then (Enclosed ts (IsSpan tk ts Id)) (with_args name)

  unfoldable pub body_of : (name : Span) (params args : List Span) → Reader (with_body name params args)
  body_of name params args = then_reader (IsBody bytes tk ts) (λ body. Gives (Gate name params args body)) (body_reader 32) (λ body. gives_reader (Gate name params args body))

  unfoldable pub gate_reader : (i : ℕ) → at ts i ≡ GateWord → Option ((s : Statement) × (j : ℕ) × IsStatement bytes tk ts TextWhence i (got s j))
  gate_reader i e = read_as {P = Then (IsSpan tk ts Id) with_params (i + 1)} {Q = IsStatement bytes tk ts TextWhence i} (λ g h. declares refl (defines e h))
      (then_reader (IsSpan tk ts Id) with_params (span_reader Id) (λ name. then_reader (Enclosed ts (IsSpan tk ts Id)) (with_args name) (enclosed_reader ts (IsSpan tk ts Id) names_reader) (λ params.
      then_reader Names (λ args. After ts OpenBrace (with_body name params args)) names_reader (λ args. after_reader ts OpenBrace (with_body name params args) (body_of name params args)))) (i + 1))

  -- ---- texts of definitions
  abbrev Program_at : ℕ → Type 0
  Program_at i = Option ((ss : List Statement) × (j : ℕ) × IsProgram bytes tk ts TextWhence i (got ss j))

  unfoldable pub program_next : Reader (IsProgram bytes tk ts TextWhence) → Reader (IsProgram bytes tk ts TextWhence)
  program_next on i = elim (is_sort (at ts i) End) as (λ _. Program_at i) [
    | inl e ↦ Some ([], i, over e)
    | inr n ↦ elim (is_sort (at ts i) GateWord) as (λ _. Program_at i) [
      | inr _ ↦ None
      | inl e ↦ elim (gate_reader i e) as (λ _. Program_at i) [
        | None ↦ None
        | Some x ↦ elim (on x.1) as (λ _. Program_at i) [ None ↦ None | Some y ↦ Some (x.0 ∷ y.0, y.1, statement {r = got y.0 y.1} n x.2 y.2) ]
      ]
    ]
  ]

  unfoldable pub program_reader : ℕ → Reader (IsProgram bytes tk ts TextWhence)
  program_reader zero i = None
  program_reader (suc n) i = program_next (program_reader n) i

  abbrev TextRead : Type 0
  TextRead = Option ((ss : List Statement) × (j : ℕ) × IsText bytes tk ts (got ss j))

  unfoldable pub text_by : (v : Bool) → is_version (text_at bytes tk 1) ≡ v → TextRead
  text_by false v = None
  text_by true v = elim (is_sort (at ts 0) OpenQasm) as (λ _. TextRead) [
    | inr n ↦ None
    | inl e ↦ elim (is_sort (at ts 2) Semicolon) as (λ _. TextRead) [
      | inr n ↦ None
      | inl f ↦ read_as {P = IsProgram bytes tk ts TextWhence 3} {Q = IsText bytes tk ts} (λ g h. text e v f h) (program_reader 64 3)
    ]
  ]

  unfoldable pub text_reader : TextRead
  text_reader = text_by (is_version (text_at bytes tk 1)) refl
