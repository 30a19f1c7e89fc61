-- A whole expression is one under other numbers of its identifiers.
use Rattle.std.proofs.Common.{◌≡◌, ◌≤◌, ◌+◌, ◌-◌, ℕ, zero, suc, Bool, true, false, ◌&&◌, List, [], ◌∷◌, ◌++◌, map, length, refl, sym, ap, ◌∙◌, subst, arith, append_assoc, append-nil, true≢false, leb-true, eqb-true}
use Rattle.std.specs.Prelude.{nat_le}
use Rattle.std.proofs.Props.{props}
use Rattle.std.proofs.Math.Logic.{∥∥₁_elim}
use Rattle.qasm_angle.specs.declared.types.Op.{Op}
use Rattle.qasm_angle.specs.declared.types.Op.TheVariants.{Number, Pi, Id, Neg, Add, Sub, Mul, Div, Pow, Func}
use Rattle.qasm_angle.specs.Trees.{wants, Tree, leaf, one, two, postfix, IsExpression}
use Rattle.qasm_angle.specs.Machine.{leaves_one}
use Rattle.qasm_angle.proofs.Postfix.{whole_leaves}
use Rattle.qasm_expand.specs.Gates.{renumbered}

-- ---- what leaves one operand is a whole expression
spine : List Tree → List Op
spine [] = []
spine (t ∷ st) = spine st ++ postfix t

few_wants : (op : Op) → wants op ≤ 2
few_wants (Number d t) = omega arith
few_wants Pi = omega arith
few_wants (Id i) = omega arith
few_wants Func = omega arith
few_wants Neg = omega arith
few_wants Add = omega arith
few_wants Sub = omega arith
few_wants Mul = omega arith
few_wants Div = omega arith
few_wants Pow = omega arith

and_true : (a b : Bool) → (a && b) ≡ true → (a ≡ true) × (b ≡ true)
and_true true b e = (refl, e)
and_true false b e = absurd (true≢false (sym e))

last : (st : List Tree) → length st ≡ 1 → IsExpression (spine st ++ [])
unfolding spine
last [] e = absurd (omega (arith, e))
last (t ∷ []) e = (t, sym (append-nil (postfix t)))
last (t ∷ (s ∷ st)) e = absurd (let h : length (t ∷ (s ∷ st)) ≡ length st + 2 = omega arith in omega (arith, e, h))

abbrev Built : List Op → Type 0
Built ops = (st : List Tree) → leaves_one ops (length st) ≡ true → IsExpression (spine st ++ ops)

push : (op : Op) (ops : List Op) → Built ops → (n : ℕ) → wants op ≡ n → n ≤ 2 → (st : List Tree) → n ≤ length st → leaves_one ops (length st + 1 - n) ≡ true → IsExpression (spine st ++ op ∷ ops)
unfolding spine
push op ops ih zero w le st m h =
    subst IsExpression (append_assoc (spine st) (op ∷ []) ops) (ih (leaf op w ∷ st) (ap (leaves_one ops) (let e : length (leaf op w ∷ st) ≡ length st + 1 - 0 = omega arith in e) ∙ h))
push op ops ih (suc zero) w le [] m h = absurd (omega (arith, m))
push op ops ih (suc zero) w le (a ∷ st) m h =
    let e : (spine st ++ (postfix a ++ (op ∷ []))) ++ ops ≡ (spine st ++ postfix a) ++ (op ∷ ops) = ap (λ x. x ++ ops) (sym (append_assoc (spine st) (postfix a) (op ∷ []))) ∙ append_assoc (spine st ++ postfix a) (op ∷ []) ops in
    subst IsExpression e (ih (one op w a ∷ st) (ap (leaves_one ops) (let f : length (one op w a ∷ st) ≡ length (a ∷ st) + 1 - 1 = omega arith in f) ∙ h))
push op ops ih (suc (suc zero)) w le [] m h = absurd (omega (arith, m))
push op ops ih (suc (suc zero)) w le (b ∷ []) m h = absurd (omega (arith, m))
push op ops ih (suc (suc zero)) w le (b ∷ (a ∷ st)) m h =
    let e : (spine st ++ (postfix a ++ (postfix b ++ (op ∷ [])))) ++ ops ≡ ((spine st ++ postfix a) ++ postfix b) ++ (op ∷ ops) =
    ap (λ x. x ++ ops) (sym (append_assoc (spine st) (postfix a) (postfix b ++ (op ∷ []))) ∙ sym (append_assoc (spine st ++ postfix a) (postfix b) (op ∷ []))) ∙ append_assoc ((spine st ++ postfix a) ++ postfix b) (op ∷ []) ops in
    subst IsExpression e (ih (two op w a b ∷ st) (ap (leaves_one ops) (let f : length (two op w a b ∷ st) ≡ length (b ∷ (a ∷ st)) + 1 - 2 = omega arith in f) ∙ h))
push op ops ih (suc (suc (suc n))) w le st m h = absurd (omega (arith, le))

built : (ops : List Op) → Built ops
built [] st h = last st (eqb-true (length st) 1 h)
built (op ∷ ops) st h =
    let p : (nat_le (wants op) (length st) ≡ true) × (leaves_one ops (length st + 1 - wants op) ≡ true) = and_true (nat_le (wants op) (length st)) _ h in
    push op ops (built ops) (wants op) refl (few_wants op) st (leb-true _ _ p.0) p.1

whole : (ops : List Op) → leaves_one ops 0 ≡ true → IsExpression ops
unfolding spine
whole ops h = built ops [] h

-- ---- renumbering keeps what an operation wants
kept_wants : (is : List ℕ) (op : Op) → wants (renumbered is op) ≡ wants op
kept_wants is (Id i) = refl
kept_wants is op = refl

kept_leaves : (is : List ℕ) (ops : List Op) (h : ℕ) → leaves_one (map (renumbered is) ops) h ≡ leaves_one ops h
kept_leaves is [] h = refl
kept_leaves is (op ∷ ops) h = kept_leaves_on (kept_wants is op) (kept_leaves is ops)
  where
    kept_leaves_on : wants (renumbered is op) ≡ wants op → ((k : ℕ) → leaves_one (map (renumbered is) ops) k ≡ leaves_one ops k) → leaves_one (renumbered is op ∷ map (renumbered is) ops) h ≡ leaves_one (op ∷ ops) h
    kept_leaves_on w ih = ap (λ n. nat_le n h && leaves_one (map (renumbered is) ops) (h + 1 - n)) w ∙ ap (λ b. nat_le (wants op) h && b) (ih (h + 1 - wants op))

pub renumbered_whole : (is : List ℕ) (ops : List Op) → ∥ IsExpression ops ∥₁ → IsExpression (map (renumbered is) ops)
renumbered_whole is ops w = whole (map (renumbered is) ops) (kept_leaves is ops 0 ∙ ∥∥₁_elim w (Prim.hlevel props) (λ e. whole_leaves ops e))
