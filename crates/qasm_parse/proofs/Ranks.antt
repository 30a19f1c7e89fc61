-- The identifiers of an expression are among those of its tokens.
use Rattle.std.proofs.Common.{◌≡◌, ℕ, suc, zero, ◌+◌, ◌-◌, ◌<◌, ◌≤◌, List, [], ◌∷◌, ◌++◌, length, length-append, refl, sym, ◌∙◌, ap, subst, arith, Some}
use Rattle.std.specs.Prelude.{All}
use Rattle.std.proofs.lemmas.List.Elements.{All-nil, All-cons, All-append, All-head, All-tail, All-weaker}
use Rattle.qasm_lex.specs.declared.types.Token.{Token}
use Rattle.qasm_angle.specs.declared.types.Op.{Op}
use Rattle.qasm_parse.specs.declared.sort.Sort.{Sort}
use Rattle.qasm_parse.specs.declared.sort.Sort.TheVariants.{End, OpenQasm, Include, Qreg, Creg, Gate, Opaque, Barrier, Outside, Universal, Cx, Pi, Function, Id, Other, Whole, Decimal, Library, Text, Semicolon, Comma, Open, Close, OpenBracket, CloseBracket, OpenBrace, CloseBrace, Plus, Minus, Times, Over, Power}
use Rattle.qasm_parse.specs.declared.sort.Mark.{Mark}
use Rattle.qasm_parse.specs.declared.sort.Mark.TheVariants.{Number as NumberMark, Pi as PiMark, Id as IdMark, Neg, Add, Sub, Mul, Div, Pow, Func}
use Rattle.qasm_parse.specs.declared.sort.Level.{Level}
use Rattle.qasm_parse.specs.declared.sort.Level.TheVariants.{Sums, Products}
use Rattle.qasm_parse.specs.declared.program.Span.{Span}
use Rattle.qasm_parse.specs.Grammar.{at, sign_of, leaf_of, Found, done, bad, front, behind, Part, Reads, chained, chained_bad, more, more_bad, stop, negated, negated_deep, unsigned, based, based_bad, raised, raised_deep, leaf, grouped, grouped_open, grouped_bad, grouped_deep, called, called_open, called_bad, called_short, called_deep, wrong}
use Rattle.qasm_parse.specs.Formulas.{OpIs, number_is, id_is, pi_is, neg_is, add_is, sub_is, mul_is, div_is, pow_is, func_is, OpsAre, no_op, one_op, id_count, counts, ids, id_at}
use Rattle.qasm_parse.specs.Phrases.{span_of}
use Rattle.qasm_parse.specs.Places.{IdBelow}
use Rattle.qasm_parse.proofs.Counting.{count_split, count_next}

-- an identifier of tokens i to j
abbrev MarkIn : List Sort → ℕ → ℕ → Mark → Type 0
MarkIn ts i j (IdMark k) = (i ≤ k) × (k < j) × (at ts k ≡ Id)
MarkIn ts i j m = Unit {0}

abbrev FoundIn : List Sort → ℕ → Found → Type 0
FoundIn ts i (done ms j) = (i ≤ j) × All (MarkIn ts i j) ms
FoundIn ts i (bad f) = Unit {0}

wider : (ts : List Sort) (i j a b : ℕ) → a ≤ i → j ≤ b → (m : Mark) → MarkIn ts i j m → MarkIn ts a b m
wider ts i j a b p q (IdMark k) (x, y, e) = (omega arith, omega arith, e)
wider ts i j a b p q (NumberMark k) h = tt
wider ts i j a b p q PiMark h = tt
wider ts i j a b p q Neg h = tt
wider ts i j a b p q Add h = tt
wider ts i j a b p q Sub h = tt
wider ts i j a b p q Mul h = tt
wider ts i j a b p q Div h = tt
wider ts i j a b p q Pow h = tt
wider ts i j a b p q Func h = tt

all_wider : (ts : List Sort) (i j a b : ℕ) (ms : List Mark) → a ≤ i → j ≤ b → All (MarkIn ts i j) ms → All (MarkIn ts a b) ms
all_wider ts i j a b ms p q h = All-weaker (MarkIn ts i j) (MarkIn ts a b) (wider ts i j a b p q) ms h

front_in : (ts : List Sort) (i j : ℕ) (es : List Mark) (r : Found) → i ≤ j → All (MarkIn ts i j) es → FoundIn ts j r → FoundIn ts i (front es r)
front_in ts i j es (done fs k) le h (p, g) = (omega arith, All-append (MarkIn ts i k) es fs (all_wider ts i j i k es (omega arith) p h) (all_wider ts j k i k fs le (omega arith) g))
front_in ts i j es (bad f) le h g = tt

behind_in : (ts : List Sort) (i : ℕ) (r : Found) (m : Mark) → ((a b : ℕ) → MarkIn ts a b m) → FoundIn ts i r → FoundIn ts i (behind r m)
behind_in ts i (done es j) m q (p, h) = (p, All-append (MarkIn ts i j) es (m ∷ []) h (All-cons (MarkIn ts i j) m [] (q i j) (All-nil (MarkIn ts i j))))
behind_in ts i (bad f) m q h = tt

lower : (ts : List Sort) (i j : ℕ) (r : Found) → i ≤ j → FoundIn ts j r → FoundIn ts i r
lower ts i j (done es k) le (p, h) = (omega arith, all_wider ts j k i k es le (omega arith) h)
lower ts i j (bad f) le h = tt

sign_mark : (ts : List Sort) (level : Level) (s : Sort) (e : Mark) → sign_of level s ≡ Some e → (a b : ℕ) → MarkIn ts a b e
sign_mark ts Sums End e h a b = absurd (cc)
sign_mark ts Sums OpenQasm e h a b = absurd (cc)
sign_mark ts Sums Include e h a b = absurd (cc)
sign_mark ts Sums Qreg e h a b = absurd (cc)
sign_mark ts Sums Creg e h a b = absurd (cc)
sign_mark ts Sums Gate e h a b = absurd (cc)
sign_mark ts Sums Opaque e h a b = absurd (cc)
sign_mark ts Sums Barrier e h a b = absurd (cc)
sign_mark ts Sums Outside e h a b = absurd (cc)
sign_mark ts Sums Universal e h a b = absurd (cc)
sign_mark ts Sums Cx e h a b = absurd (cc)
sign_mark ts Sums Pi e h a b = absurd (cc)
sign_mark ts Sums Function e h a b = absurd (cc)
sign_mark ts Sums Id e h a b = absurd (cc)
sign_mark ts Sums Other e h a b = absurd (cc)
sign_mark ts Sums Whole e h a b = absurd (cc)
sign_mark ts Sums Decimal e h a b = absurd (cc)
sign_mark ts Sums Library e h a b = absurd (cc)
sign_mark ts Sums Text e h a b = absurd (cc)
sign_mark ts Sums Semicolon e h a b = absurd (cc)
sign_mark ts Sums Comma e h a b = absurd (cc)
sign_mark ts Sums Open e h a b = absurd (cc)
sign_mark ts Sums Close e h a b = absurd (cc)
sign_mark ts Sums OpenBracket e h a b = absurd (cc)
sign_mark ts Sums CloseBracket e h a b = absurd (cc)
sign_mark ts Sums OpenBrace e h a b = absurd (cc)
sign_mark ts Sums CloseBrace e h a b = absurd (cc)
sign_mark ts Sums Plus e h a b = let k : Add ≡ e = cc in subst (MarkIn ts a b) k tt
sign_mark ts Sums Minus e h a b = let k : Sub ≡ e = cc in subst (MarkIn ts a b) k tt
sign_mark ts Sums Times e h a b = absurd (cc)
sign_mark ts Sums Over e h a b = absurd (cc)
sign_mark ts Sums Power e h a b = absurd (cc)
sign_mark ts Products End e h a b = absurd (cc)
sign_mark ts Products OpenQasm e h a b = absurd (cc)
sign_mark ts Products Include e h a b = absurd (cc)
sign_mark ts Products Qreg e h a b = absurd (cc)
sign_mark ts Products Creg e h a b = absurd (cc)
sign_mark ts Products Gate e h a b = absurd (cc)
sign_mark ts Products Opaque e h a b = absurd (cc)
sign_mark ts Products Barrier e h a b = absurd (cc)
sign_mark ts Products Outside e h a b = absurd (cc)
sign_mark ts Products Universal e h a b = absurd (cc)
sign_mark ts Products Cx e h a b = absurd (cc)
sign_mark ts Products Pi e h a b = absurd (cc)
sign_mark ts Products Function e h a b = absurd (cc)
sign_mark ts Products Id e h a b = absurd (cc)
sign_mark ts Products Other e h a b = absurd (cc)
sign_mark ts Products Whole e h a b = absurd (cc)
sign_mark ts Products Decimal e h a b = absurd (cc)
sign_mark ts Products Library e h a b = absurd (cc)
sign_mark ts Products Text e h a b = absurd (cc)
sign_mark ts Products Semicolon e h a b = absurd (cc)
sign_mark ts Products Comma e h a b = absurd (cc)
sign_mark ts Products Open e h a b = absurd (cc)
sign_mark ts Products Close e h a b = absurd (cc)
sign_mark ts Products OpenBracket e h a b = absurd (cc)
sign_mark ts Products CloseBracket e h a b = absurd (cc)
sign_mark ts Products OpenBrace e h a b = absurd (cc)
sign_mark ts Products CloseBrace e h a b = absurd (cc)
sign_mark ts Products Plus e h a b = absurd (cc)
sign_mark ts Products Minus e h a b = absurd (cc)
sign_mark ts Products Times e h a b = let k : Mul ≡ e = cc in subst (MarkIn ts a b) k tt
sign_mark ts Products Over e h a b = let k : Div ≡ e = cc in subst (MarkIn ts a b) k tt
sign_mark ts Products Power e h a b = absurd (cc)

leaf_mark : (ts : List Sort) (i : ℕ) (s : Sort) (e : Mark) → at ts i ≡ s → leaf_of s i ≡ Some e → MarkIn ts i (i + 1) e
leaf_mark ts i End e q h = absurd (cc)
leaf_mark ts i OpenQasm e q h = absurd (cc)
leaf_mark ts i Include e q h = absurd (cc)
leaf_mark ts i Qreg e q h = absurd (cc)
leaf_mark ts i Creg e q h = absurd (cc)
leaf_mark ts i Gate e q h = absurd (cc)
leaf_mark ts i Opaque e q h = absurd (cc)
leaf_mark ts i Barrier e q h = absurd (cc)
leaf_mark ts i Outside e q h = absurd (cc)
leaf_mark ts i Universal e q h = absurd (cc)
leaf_mark ts i Cx e q h = absurd (cc)
leaf_mark ts i Pi e q h = let k : PiMark ≡ e = cc in subst (MarkIn ts i (i + 1)) k tt
leaf_mark ts i Function e q h = absurd (cc)
leaf_mark ts i Id e q h = let k : IdMark i ≡ e = cc in subst (MarkIn ts i (i + 1)) k (omega arith, omega arith, q)
leaf_mark ts i Other e q h = absurd (cc)
leaf_mark ts i Whole e q h = let k : NumberMark i ≡ e = cc in subst (MarkIn ts i (i + 1)) k tt
leaf_mark ts i Decimal e q h = let k : NumberMark i ≡ e = cc in subst (MarkIn ts i (i + 1)) k tt
leaf_mark ts i Library e q h = absurd (cc)
leaf_mark ts i Text e q h = absurd (cc)
leaf_mark ts i Semicolon e q h = absurd (cc)
leaf_mark ts i Comma e q h = absurd (cc)
leaf_mark ts i Open e q h = absurd (cc)
leaf_mark ts i Close e q h = absurd (cc)
leaf_mark ts i OpenBracket e q h = absurd (cc)
leaf_mark ts i CloseBracket e q h = absurd (cc)
leaf_mark ts i OpenBrace e q h = absurd (cc)
leaf_mark ts i CloseBrace e q h = absurd (cc)
leaf_mark ts i Plus e q h = absurd (cc)
leaf_mark ts i Minus e q h = absurd (cc)
leaf_mark ts i Times e q h = absurd (cc)
leaf_mark ts i Over e q h = absurd (cc)
leaf_mark ts i Power e q h = absurd (cc)

marks_in : {ts : List Sort} {p : Part} {room i : ℕ} {x : Found} → Reads ts p room i x → FoundIn ts i x
marks_in {ts} {p} {room} {i} (chained {j = j} {es = es} {r = r} h k) = let g : FoundIn ts i (done es j) = marks_in h in front_in ts i j es r g.0 g.1 (marks_in k)
marks_in (chained_bad h) = tt
marks_in {ts} {p} {room} {i} (more {level = level} {j = j} {e = e} {es = es} {r = r} v h k) =
    let g : FoundIn ts (i + 1) (done es j) = marks_in h in
    let u : FoundIn ts i (done (es ++ (e ∷ [])) j) = behind_in ts i (done es j) e (sign_mark ts level (at ts i) e v) (lower ts i (i + 1) (done es j) (omega arith) g) in
    front_in ts i j (es ++ (e ∷ [])) r u.0 u.1 (marks_in k)
marks_in (more_bad v h) = tt
marks_in {ts} {p} {room} {i} (stop v) = (omega arith, All-nil (MarkIn ts i i))
marks_in {ts} {p} {room} {i} (negated {r = r} e lt h) = behind_in ts i r Neg (λ a b. tt) (lower ts i (i + 1) r (omega arith) (marks_in h))
marks_in (negated_deep e le) = tt
marks_in (unsigned n h) = marks_in h
marks_in (based h n) = marks_in h
marks_in (based_bad h) = tt
marks_in {ts} {p} {room} {i} (raised {j = j} {es = es} {r = r} h e lt k) =
    let g : FoundIn ts i (done es j) = marks_in h in
    front_in ts i j es (behind r Pow) g.0 g.1 (behind_in ts j r Pow (λ a b. tt) (lower ts j (j + 1) r (omega arith) (marks_in k)))
marks_in (raised_deep h e le) = tt
marks_in {ts} {p} {room} {i} (leaf {e = e} h) = (omega arith, All-cons (MarkIn ts i (i + 1)) e [] (leaf_mark ts i (at ts i) e refl h) (All-nil (MarkIn ts i (i + 1))))
marks_in {ts} {p} {room} {i} (grouped {j = j} {es = es} e lt h c) = let g : FoundIn ts (i + 1) (done es j) = marks_in h in let q : i + 1 ≤ j = g.0 in (omega arith, all_wider ts (i + 1) j i (j + 1) es (omega arith) (omega arith) g.1)
marks_in (grouped_open e lt h n) = tt
marks_in (grouped_bad e lt h) = tt
marks_in (grouped_deep e le) = tt
marks_in {ts} {p} {room} {i} (called {j = j} {es = es} e lt o h c) = let g : FoundIn ts (i + 2) (done es j) = marks_in h in let q : i + 2 ≤ j = g.0 in (omega arith, All-cons (MarkIn ts i (j + 1)) Func [] tt (All-nil (MarkIn ts i (j + 1))))
marks_in (called_open e lt o h n) = tt
marks_in (called_bad e lt o h) = tt
marks_in (called_short e lt n) = tt
marks_in (called_deep e le) = tt
marks_in (wrong a b c) = tt

-- as many identifiers as there are counted
one_counted : (s : Sort) (p : Span) → length (id_at s p) ≡ counts s
one_counted End p = refl
one_counted OpenQasm p = refl
one_counted Include p = refl
one_counted Qreg p = refl
one_counted Creg p = refl
one_counted Gate p = refl
one_counted Opaque p = refl
one_counted Barrier p = refl
one_counted Outside p = refl
one_counted Universal p = refl
one_counted Cx p = refl
one_counted Pi p = refl
one_counted Function p = refl
one_counted Id p = refl
one_counted Other p = refl
one_counted Whole p = refl
one_counted Decimal p = refl
one_counted Library p = refl
one_counted Text p = refl
one_counted Semicolon p = refl
one_counted Comma p = refl
one_counted Open p = refl
one_counted Close p = refl
one_counted OpenBracket p = refl
one_counted CloseBracket p = refl
one_counted OpenBrace p = refl
one_counted CloseBrace p = refl
one_counted Plus p = refl
one_counted Minus p = refl
one_counted Times p = refl
one_counted Over p = refl
one_counted Power p = refl

ids_counted : (tk : List Token) (ts : List Sort) (i n : ℕ) → length (ids tk ts i n) ≡ id_count ts i n
unfolding ids id_count
ids_counted tk ts i zero = refl
ids_counted tk ts i (suc n) = length-append (ids tk ts i n) (id_at (at ts (i + n)) (span_of tk (i + n))) ∙ (let e = ids_counted tk ts i n in let f = one_counted (at ts (i + n)) (span_of tk (i + n)) in omega arith)

-- an identifier before the end has a rank below their number
rank_below : (ts : List Sort) (i j k : ℕ) → i ≤ k → k < j → at ts k ≡ Id → id_count ts i (k - i) < id_count ts i (j - i)
rank_below ts i j k le lt e =
    let a = count_next ts i k le in
    let b = count_split ts i (k + 1) j (omega arith) (omega arith) in
    let c : counts (at ts k) ≡ 1 = ap counts e in
    omega arith

op_below : (bytes : List ℕ) (tk : List Token) (ts : List Sort) (i j : ℕ) (m : Mark) (op : Op) → OpIs bytes tk ts i m op → MarkIn ts i j m → IdBelow (id_count ts i (j - i)) op
op_below bytes tk ts i j m op (number_is h) q = tt
op_below bytes tk ts i j m op (id_is {k = k} e) (p, lt, s) = subst (λ z. z < id_count ts i (j - i)) (sym e) (rank_below ts i j k p lt s)
op_below bytes tk ts i j m op pi_is q = tt
op_below bytes tk ts i j m op neg_is q = tt
op_below bytes tk ts i j m op add_is q = tt
op_below bytes tk ts i j m op sub_is q = tt
op_below bytes tk ts i j m op mul_is q = tt
op_below bytes tk ts i j m op div_is q = tt
op_below bytes tk ts i j m op pow_is q = tt
op_below bytes tk ts i j m op func_is q = tt

ops_below : (bytes : List ℕ) (tk : List Token) (ts : List Sort) (i j : ℕ) (ms : List Mark) (ops : List Op) → OpsAre bytes tk ts i ms ops → All (MarkIn ts i j) ms → All (IdBelow (id_count ts i (j - i))) ops
ops_below bytes tk ts i j ms ops no_op q = All-nil (IdBelow (id_count ts i (j - i)))
ops_below bytes tk ts i j ms ops (one_op {m = m} {op = op} {ms = ns} {ops = os} h k) q =
    All-cons (IdBelow (id_count ts i (j - i))) op os (op_below bytes tk ts i j m op h (All-head (MarkIn ts i j) m ns q)) (ops_below bytes tk ts i j ns os k (All-tail (MarkIn ts i j) m ns q))

pub formula_below : (bytes : List ℕ) (tk : List Token) (ts : List Sort) (p : Part) (room i j : ℕ) (ms : List Mark) (ops : List Op) (is : List Span) → Reads ts p room i (done ms j) → OpsAre bytes tk ts i ms ops → is ≡ ids tk ts i (j - i) → All (IdBelow (length is)) ops
formula_below bytes tk ts p room i j ms ops is h o e =
    let g : FoundIn ts i (done ms j) = marks_in h in
    subst (λ n. All (IdBelow n) ops) (sym (ap length e ∙ ids_counted tk ts i (j - i))) (ops_below bytes tk ts i j ms ops o g.1)
