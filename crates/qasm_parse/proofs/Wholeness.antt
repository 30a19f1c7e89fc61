-- The operations of an expression are one whole expression in postfix order.
use Rattle.std.proofs.Common.{◌≡◌, ℕ, List, [], ◌∷◌, ◌++◌, refl, sym, ◌∙◌, ap, append_assoc, append-nil, Some}
use Rattle.qasm_lex.specs.declared.types.Token.{Token}
use Rattle.qasm_angle.specs.declared.types.Op.{Op}
use Rattle.qasm_angle.specs.Trees.{wants, Tree, leaf as leaf_tree, one as one_tree, two as two_tree, postfix, IsExpression}
use Rattle.qasm_parse.specs.declared.sort.Sort.{Sort}
use Rattle.qasm_parse.specs.declared.sort.Sort.TheVariants.{End, OpenQasm, Include, Qreg, Creg, Gate, Opaque, Barrier, Outside, Universal, Cx, Pi, Function, Id, Other, Whole, Decimal, Library, Text, Semicolon, Comma, Open, Close, OpenBracket, CloseBracket, OpenBrace, CloseBrace, Plus, Minus, Times, Over, Power}
use Rattle.qasm_parse.specs.declared.sort.Mark.{Mark}
use Rattle.qasm_parse.specs.declared.sort.Mark.TheVariants.{Number, Pi as PiMark, Id as IdMark, Neg, Add, Sub, Mul, Div, Pow, Func}
use Rattle.qasm_parse.specs.declared.sort.Level.{Level}
use Rattle.qasm_parse.specs.declared.sort.Level.TheVariants.{Sums, Products}
use Rattle.qasm_parse.specs.Grammar.{at, sign_of, leaf_of, Found, done, bad, front, behind, Part, chain, tail, signed, power, atom, operand, Reads, chained, chained_bad, more, more_bad, stop, negated, negated_deep, unsigned, based, based_bad, raised, raised_deep, leaf, grouped, grouped_open, grouped_bad, grouped_deep, called, called_open, called_bad, called_short, called_deep, wrong}
use Rattle.qasm_parse.specs.Formulas.{OpIs, number_is, id_is, pi_is, neg_is, add_is, sub_is, mul_is, div_is, pow_is, func_is, OpsAre, no_op, one_op}

-- how many operands a mark takes
abbrev arity : Mark → ℕ
arity (Number k) = 0
arity PiMark = 0
arity (IdMark k) = 0
arity Neg = 1
arity Add = 2
arity Sub = 2
arity Mul = 2
arity Div = 2
arity Pow = 2
arity Func = 0

sign_arity : (l : Level) (s : Sort) (m : Mark) → sign_of l s ≡ Some m → arity m ≡ 2
sign_arity Sums End m h = cc
sign_arity Sums OpenQasm m h = cc
sign_arity Sums Include m h = cc
sign_arity Sums Qreg m h = cc
sign_arity Sums Creg m h = cc
sign_arity Sums Gate m h = cc
sign_arity Sums Opaque m h = cc
sign_arity Sums Barrier m h = cc
sign_arity Sums Outside m h = cc
sign_arity Sums Universal m h = cc
sign_arity Sums Cx m h = cc
sign_arity Sums Pi m h = cc
sign_arity Sums Function m h = cc
sign_arity Sums Id m h = cc
sign_arity Sums Other m h = cc
sign_arity Sums Whole m h = cc
sign_arity Sums Decimal m h = cc
sign_arity Sums Library m h = cc
sign_arity Sums Text m h = cc
sign_arity Sums Semicolon m h = cc
sign_arity Sums Comma m h = cc
sign_arity Sums Open m h = cc
sign_arity Sums Close m h = cc
sign_arity Sums OpenBracket m h = cc
sign_arity Sums CloseBracket m h = cc
sign_arity Sums OpenBrace m h = cc
sign_arity Sums CloseBrace m h = cc
sign_arity Sums Plus m h = let e : Add ≡ m = cc in ap arity (sym e)
sign_arity Sums Minus m h = let e : Sub ≡ m = cc in ap arity (sym e)
sign_arity Sums Times m h = cc
sign_arity Sums Over m h = cc
sign_arity Sums Power m h = cc
sign_arity Products End m h = cc
sign_arity Products OpenQasm m h = cc
sign_arity Products Include m h = cc
sign_arity Products Qreg m h = cc
sign_arity Products Creg m h = cc
sign_arity Products Gate m h = cc
sign_arity Products Opaque m h = cc
sign_arity Products Barrier m h = cc
sign_arity Products Outside m h = cc
sign_arity Products Universal m h = cc
sign_arity Products Cx m h = cc
sign_arity Products Pi m h = cc
sign_arity Products Function m h = cc
sign_arity Products Id m h = cc
sign_arity Products Other m h = cc
sign_arity Products Whole m h = cc
sign_arity Products Decimal m h = cc
sign_arity Products Library m h = cc
sign_arity Products Text m h = cc
sign_arity Products Semicolon m h = cc
sign_arity Products Comma m h = cc
sign_arity Products Open m h = cc
sign_arity Products Close m h = cc
sign_arity Products OpenBracket m h = cc
sign_arity Products CloseBracket m h = cc
sign_arity Products OpenBrace m h = cc
sign_arity Products CloseBrace m h = cc
sign_arity Products Plus m h = cc
sign_arity Products Minus m h = cc
sign_arity Products Times m h = let e : Mul ≡ m = cc in ap arity (sym e)
sign_arity Products Over m h = let e : Div ≡ m = cc in ap arity (sym e)
sign_arity Products Power m h = cc

leaf_arity : (s : Sort) (i : ℕ) (m : Mark) → leaf_of s i ≡ Some m → arity m ≡ 0
leaf_arity End i m h = cc
leaf_arity OpenQasm i m h = cc
leaf_arity Include i m h = cc
leaf_arity Qreg i m h = cc
leaf_arity Creg i m h = cc
leaf_arity Gate i m h = cc
leaf_arity Opaque i m h = cc
leaf_arity Barrier i m h = cc
leaf_arity Outside i m h = cc
leaf_arity Universal i m h = cc
leaf_arity Cx i m h = cc
leaf_arity Pi i m h = let e : PiMark ≡ m = cc in ap arity (sym e)
leaf_arity Function i m h = cc
leaf_arity Id i m h = let e : IdMark i ≡ m = cc in ap arity (sym e)
leaf_arity Other i m h = cc
leaf_arity Whole i m h = let e : Number i ≡ m = cc in ap arity (sym e)
leaf_arity Decimal i m h = let e : Number i ≡ m = cc in ap arity (sym e)
leaf_arity Library i m h = cc
leaf_arity Text i m h = cc
leaf_arity Semicolon i m h = cc
leaf_arity Comma i m h = cc
leaf_arity Open i m h = cc
leaf_arity Close i m h = cc
leaf_arity OpenBracket i m h = cc
leaf_arity CloseBracket i m h = cc
leaf_arity OpenBrace i m h = cc
leaf_arity CloseBrace i m h = cc
leaf_arity Plus i m h = cc
leaf_arity Minus i m h = cc
leaf_arity Times i m h = cc
leaf_arity Over i m h = cc
leaf_arity Power i m h = cc

module _ (bytes : List ℕ) (tk : List Token) (ts : List Sort) (start : ℕ) where
  same_arity : {m : Mark} {op : Op} → OpIs bytes tk ts start m op → wants op ≡ arity m
  same_arity (number_is _) = refl
  same_arity (id_is _) = refl
  same_arity pi_is = refl
  same_arity neg_is = refl
  same_arity add_is = refl
  same_arity sub_is = refl
  same_arity mul_is = refl
  same_arity div_is = refl
  same_arity pow_is = refl
  same_arity func_is = refl

  halves : (es fs : List Mark) (ops : List Op) → OpsAre bytes tk ts start (es ++ fs) ops → (os : List Op) × (ps : List Op) × OpsAre bytes tk ts start es os × OpsAre bytes tk ts start fs ps × (ops ≡ os ++ ps)
  halves [] fs ops h = ([], ops, no_op, h, refl)
  halves (e ∷ es) fs ops (one_op {op = op} {ops = rest} g r) = let (os, ps, a, b, q) = halves es fs rest r in (op ∷ os, ps, one_op g a, b, ap (λ xs. op ∷ xs) q)

  -- what the marks of a part are, with their operations
  abbrev Forms : Part → List Mark → Type 0
  Forms (tail l) es = (ops : List Op) → OpsAre bytes tk ts start es ops → (t : Tree) → (u : Tree) × (postfix u ≡ postfix t ++ ops)
  Forms p es = (ops : List Op) → OpsAre bytes tk ts start es ops → IsExpression ops

  abbrev Good : Part → Found → Type 0
  Good p (done es j) = Forms p es
  Good p (bad f) = Unit {0}

  operand_forms : (l : Level) (es : List Mark) → Forms (operand l) es → (ops : List Op) → OpsAre bytes tk ts start es ops → IsExpression ops
  operand_forms Sums es h = h
  operand_forms Products es h = h

  chain_front : (l : Level) (es : List Mark) (r : Found) → Forms (operand l) es → Good (tail l) r → Good (chain l) (front es r)
  chain_front l es (bad f) h k = tt
  chain_front l es (done fs j) h k = λ ops o.
      let (os, ps, a, b, q) = halves es fs ops o in
      let (t, e) = operand_forms l es h os a in
      let (u, g) = k ps b t in
      (u, g ∙ ap (λ x. x ++ ps) e ∙ sym q)

  one_op_of : (m : Mark) (n : ℕ) (ps : List Op) → arity m ≡ n → OpsAre bytes tk ts start (m ∷ []) ps → (op : Op) × (wants op ≡ n) × (ps ≡ op ∷ [])
  one_op_of m n ps e (one_op {op = op} g no_op) = (op, same_arity g ∙ e, refl)

  tail_front : (l : Level) (e : Mark) (es : List Mark) (r : Found) → arity e ≡ 2 → Forms (operand l) es → Good (tail l) r → Good (tail l) (front (es ++ (e ∷ [])) r)
  tail_front l e es (bad f) w h k = tt
  tail_front l e es (done fs j) w h k = λ ops o t.
      let (os, ps, a, b, q) = halves (es ++ (e ∷ [])) fs ops o in
      let (qs, rs, c, d, z) = halves es (e ∷ []) os a in
      let (op, two, y) = one_op_of e 2 rs w d in
      let (s, v) = operand_forms l es h qs c in
      let (u, g) = k ps b (two_tree op two t s) in
      let same : postfix s ++ (op ∷ []) ≡ os = ap (λ x. x ++ (op ∷ [])) v ∙ ap (λ x. qs ++ x) (sym y) ∙ sym z in
      (u, g ∙ ap (λ x. (postfix t ++ x) ++ ps) same ∙ append_assoc (postfix t) os ps ∙ ap (λ x. postfix t ++ x) (sym q))

  signed_behind : (r : Found) → Good signed r → Good signed (behind r Neg)
  signed_behind (bad f) h = tt
  signed_behind (done es j) h = λ ops o.
      let (os, ps, a, b, q) = halves es (Neg ∷ []) ops o in
      let (op, w, y) = one_op_of Neg 1 ps refl b in
      let (t, e) = h os a in
      (one_tree op w t, ap (λ x. x ++ (op ∷ [])) e ∙ ap (λ x. os ++ x) (sym y) ∙ sym q)

  power_front : (es : List Mark) (r : Found) → Forms atom es → Good signed r → Good power (front es (behind r Pow))
  power_front es (bad f) h k = tt
  power_front es (done fs j) h k = λ ops o.
      let (os, ps, a, b, q) = halves es (fs ++ (Pow ∷ [])) ops o in
      let (qs, rs, c, d, z) = halves fs (Pow ∷ []) ps b in
      let (op, w, y) = one_op_of Pow 2 rs refl d in
      let (t, e) = h os a in
      let (s, v) = k qs c in
      let same : postfix s ++ (op ∷ []) ≡ ps = ap (λ x. x ++ (op ∷ [])) v ∙ ap (λ x. qs ++ x) (sym y) ∙ sym z in
      (two_tree op w t s, ap (λ x. postfix t ++ x) same ∙ ap (λ x. x ++ ps) e ∙ sym q)

  one_leaf : (m : Mark) → arity m ≡ 0 → Forms atom (m ∷ [])
  one_leaf m w = λ ops o. let (op, z, y) = one_op_of m 0 ops w o in (leaf_tree op z, sym y)

  good : {p : Part} {d i : ℕ} {x : Found} → Reads ts p d i x → Good p x
  good (chained {level = l} {es = es} {r = r} h k) = chain_front l es r (good h) (good k)
  good (chained_bad h) = tt
  good (more {level = l} {i = i} {e = e} {es = es} {r = r} v h k) = tail_front l e es r (sign_arity l (at ts i) e v) (good h) (good k)
  good (more_bad v h) = tt
  good (stop v) = λ ops o t. stopped ops o t
    where
      stopped : (ops : List Op) → OpsAre bytes tk ts start [] ops → (t : Tree) → (u : Tree) × (postfix u ≡ postfix t ++ ops)
      stopped ops no_op t = (t, sym (append-nil (postfix t)))
  good (negated {r = r} h lt k) = signed_behind r (good k)
  good (negated_deep h le) = tt
  good (unsigned {r = done es j} n k) = good k
  good (unsigned {r = bad f} n k) = tt
  good (based h n) = good h
  good (based_bad h) = tt
  good (raised {es = es} {r = r} h p lt k) = power_front es r (good h) (good k)
  good (raised_deep h p le) = tt
  good (leaf {i = i} {e = e} h) = one_leaf e (leaf_arity (at ts i) i e h)
  good (grouped h lt k c) = good k
  good (grouped_open h lt k c) = tt
  good (grouped_bad h lt k) = tt
  good (grouped_deep h le) = tt
  good (called h lt o k c) = one_leaf Func refl
  good (called_open h lt o k c) = tt
  good (called_bad h lt o k) = tt
  good (called_short h lt n) = tt
  good (called_deep h le) = tt
  good (wrong a b c) = tt

  -- the operations of an expression that was read are one whole expression
  pub whole_read : {i j d : ℕ} {es : List Mark} → Reads ts (chain Sums) d i (done es j) → (ops : List Op) → OpsAre bytes tk ts start es ops → IsExpression ops
  whole_read h = good h
