-- Values of expressions, and of lists of them.
use Rattle.std.proofs.Common.{◌≡◌, ◌<◌, ◌≤◌, ℕ, zero, suc, ◌+◌, ◌-◌, length, length-append, get_or, drop, drop-cons, add-one, arith, List, [], ◌∷◌, ◌++◌, refl, sym, ◌∙◌, ap, subst, append_assoc, append-nil, Result, Ok, Err, true, ◌&&◌}
use Rattle.std.specs.Prelude.{nat_eq, nat_le, Bool}
use Rattle.std.proofs.lemmas.Bool.Decides.{nat_tests}
use Rattle.std.proofs.Props.{props}
use Rattle.std.proofs.lemmas.List.{get_or_read, get_or-map, length-map}
use Rattle.qasm_parse.specs.declared.program.Formula.{Formula}
use Rattle.qasm_expand.specs.Targets.{exprs_of}
use Rattle.std.proofs.Math.Logic.{∥∥₁_elim}
use Rattle.qasm_angle.specs.declared.types.Pair.{Pair}
use Rattle.qasm_angle.specs.declared.types.Op.{Op}
use Rattle.qasm_angle.specs.declared.types.Op.TheVariants.{Number, Pi, Id, Neg, Add, Sub, Mul, Div, Pow, Func}
use Rattle.qasm_angle.specs.declared.types.AngleFault.{AngleFault}
use Rattle.qasm_angle.specs.declared.types.AngleFault.TheVariants.{NotDyadic, AngleRange, NoParameter, Function, ByZero, Memory}
use Rattle.qasm_angle.specs.Trees.{wants, Tree, leaf, one as one_tree, two, postfix, IsExpression}
use Rattle.qasm_angle.specs.Values.{Values, Told}
use Rattle.qasm_angle.specs.Angles.{IsAngle}
use Rattle.qasm_angle.specs.Machine.{leaves_one}
use Rattle.qasm_angle.proofs.Postfix.{whole_leaves}
use Rattle.qasm_expand.specs.declared.broken.Stop.{Stop}
use Rattle.qasm_expand.specs.Bodies.{IsValue, IsTurn, angle, no_turn, behind_one, Each, none, one, stops, unless_memory}

-- ---- the tree of an expression
-- the operations of trees, the last tree first
trees_ops : List Tree → List Op
trees_ops [] = []
trees_ops (t ∷ ts) = trees_ops ts ++ postfix t

abbrev Parsed : List Op → List Tree → Type 0
Parsed ops st = (t : Tree) × (postfix t ≡ trees_ops st ++ ops)

both_true : (a b : Bool) → (a && b) ≡ true → (a ≡ true) × (b ≡ true)
both_true a b h = grind arith

test_le : (m n : ℕ) → nat_le m n ≡ true → m ≤ n
test_le m n h = grind (arith, nat_tests)

test_eq : (m n : ℕ) → nat_eq m n ≡ true → m ≡ n
test_eq m n h = grind (arith, nat_tests)

wants_few : (op : Op) → wants op ≤ 2
wants_few (Number d t) = omega arith
wants_few Pi = omega arith
wants_few (Id i) = omega arith
wants_few Func = omega arith
wants_few Neg = omega arith
wants_few Add = omega arith
wants_few Sub = omega arith
wants_few Mul = omega arith
wants_few Div = omega arith
wants_few Pow = omega arith

unfold_end : (t : Tree) → postfix t ≡ trees_ops (t ∷ []) ++ []
unfolding trees_ops
unfold_end t = sym (append-nil (postfix t))

unfold_leaf : (op : Op) (w : wants op ≡ 0) (st : List Tree) (ops : List Op) → trees_ops (leaf op w ∷ st) ++ ops ≡ trees_ops st ++ (op ∷ ops)
unfolding trees_ops
unfold_leaf op w st ops = append_assoc (trees_ops st) (op ∷ []) ops

unfold_one : (op : Op) (w : wants op ≡ 1) (a : Tree) (st : List Tree) (ops : List Op) → trees_ops (one_tree op w a ∷ st) ++ ops ≡ trees_ops (a ∷ st) ++ (op ∷ ops)
unfolding trees_ops
unfold_one op w a st ops = simp append_assoc

unfold_two : (op : Op) (w : wants op ≡ 2) (a b : Tree) (st : List Tree) (ops : List Op) → trees_ops (two op w a b ∷ st) ++ ops ≡ trees_ops (b ∷ (a ∷ st)) ++ (op ∷ ops)
unfolding trees_ops
unfold_two op w a b st ops = simp append_assoc

next_leaves : (op : Op) (ops : List Op) (h k n : ℕ) → leaves_one (op ∷ ops) h ≡ true → wants op ≡ n → k + n ≡ h + 1 → leaves_one ops k ≡ true
next_leaves op ops h k n l w e =
    let q : h + 1 - wants op ≡ k = omega arith in
    subst (λ m. leaves_one ops m ≡ true) q (both_true (nat_le (wants op) h) (leaves_one ops (h + 1 - wants op)) l).1

enough : (op : Op) (ops : List Op) (h : ℕ) → leaves_one (op ∷ ops) h ≡ true → wants op ≤ h
enough op ops h l = test_le (wants op) h (both_true (nat_le (wants op) h) (leaves_one ops (h + 1 - wants op)) l).0

module _ (op : Op) (ops : List Op) (go : (st : List Tree) → leaves_one ops (length st) ≡ true → Parsed ops st) where
  abbrev Going : ℕ → Type 0
  Going n = wants op ≡ n → (st : List Tree) → leaves_one (op ∷ ops) (length st) ≡ true → Parsed (op ∷ ops) st

  by_leaf : Going 0
  by_leaf w st l = let p = go (leaf op w ∷ st) (next_leaves op ops (length st) (length (leaf op w ∷ st)) 0 l w (omega arith)) in (p.0, p.1 ∙ unfold_leaf op w st ops)

  by_one : Going 1
  by_one w [] l = let e = enough op ops 0 l in absurd (omega (arith, e, w))
  by_one w (a ∷ st) l = let p = go (one_tree op w a ∷ st) (next_leaves op ops (length (a ∷ st)) (length (one_tree op w a ∷ st)) 1 l w (omega arith)) in (p.0, p.1 ∙ unfold_one op w a st ops)

  by_two : Going 2
  by_two w [] l = let e = enough op ops 0 l in absurd (omega (arith, e, w))
  by_two w (b ∷ []) l = let e = enough op ops 1 l in absurd (omega (arith, e, w))
  by_two w (b ∷ (a ∷ st)) l = let p = go (two op w a b ∷ st) (next_leaves op ops (length (b ∷ (a ∷ st))) (length (two op w a b ∷ st)) 2 l w (omega arith)) in (p.0, p.1 ∙ unfold_two op w a b st ops)

  by_wants : (n : ℕ) → Going n
  by_wants zero w st l = by_leaf w st l
  by_wants (suc zero) w st l = by_one w st l
  by_wants (suc (suc zero)) w st l = by_two w st l
  by_wants (suc (suc (suc n))) w st l = let e = wants_few op in absurd (omega (arith, e, w))

parsed : (ops : List Op) (st : List Tree) → leaves_one ops (length st) ≡ true → Parsed ops st
parsed [] [] l = let e = test_eq 0 1 l in absurd (omega (arith, e))
parsed [] (t ∷ []) l = (t, unfold_end t)
parsed [] (t ∷ (u ∷ st)) l = let e = test_eq (length (t ∷ (u ∷ st))) 1 l in absurd (omega (arith, e))
parsed (op ∷ ops) st l = by_wants op ops (parsed ops) (wants op) refl st l

whole_tree : (ops : List Op) → ∥ IsExpression ops ∥₁ → IsExpression ops
unfolding trees_ops
whole_tree ops w = parsed ops [] (∥∥₁_elim w (Prim.hlevel props) (λ e. whole_leaves ops e))

-- ---- one expression
told_map : {A : Type 0} (P Q : Result A AngleFault → Type 0) (r : Result A AngleFault) → ((s : Result A AngleFault) → P s → Q s) → Told r P → Told r Q
told_map P Q (Ok x) f h = f (Ok x) h
told_map P Q (Err NotDyadic) f h = f (Err NotDyadic) h
told_map P Q (Err AngleRange) f h = f (Err AngleRange) h
told_map P Q (Err NoParameter) f h = f (Err NoParameter) h
told_map P Q (Err Function) f h = f (Err Function) h
told_map P Q (Err ByZero) f h = f (Err ByZero) h
told_map P Q (Err Memory) f h = tt

pub has_value : (params : List Pair) (ops : List Op) (r : Result Pair AngleFault) → ∥ IsExpression ops ∥₁ → ((t : Tree) → postfix t ≡ ops → Told r (λ s. Values params t s)) → Told r (λ s. IsValue params ops s)
has_value params ops r w h = let e = whole_tree ops w in told_map _ _ r (λ s v. (e.0, e.1, v)) (h e.0 e.1)

pub has_turn : (params : List Pair) (ops : List Op) (x : Pair) (r : Result ℕ AngleFault) → IsValue params ops (Ok x) → IsAngle x r → Told r (λ s. IsTurn params ops s)
has_turn params ops x (Ok u) h a = angle h a
has_turn params ops x (Err NotDyadic) h a = angle h a
has_turn params ops x (Err AngleRange) h a = angle h a
has_turn params ops x (Err NoParameter) h a = absurd a
has_turn params ops x (Err Function) h a = absurd a
has_turn params ops x (Err ByZero) h a = absurd a
has_turn params ops x (Err Memory) h a = absurd a

pub no_turn_of : (params : List Pair) (ops : List Op) (f : AngleFault) → Told {A = Pair} (Err f) (λ s. IsValue params ops s) → Told {A = ℕ} (Err f) (λ s. IsTurn params ops s)
no_turn_of params ops NotDyadic h = no_turn h
no_turn_of params ops AngleRange h = no_turn h
no_turn_of params ops NoParameter h = no_turn h
no_turn_of params ops Function h = no_turn h
no_turn_of params ops ByZero h = no_turn h
no_turn_of params ops Memory h = tt

-- ---- expressions one by one
-- a fault that was told is one unless it is want of memory
pub at_fault : {X : Type 0} (P : Result X AngleFault → Type 0) (Q : Type 0) (f : AngleFault) → (P (Err f) → Q) → Told (Err f) P → unless_memory f Q
at_fault P Q NotDyadic g h = g h
at_fault P Q AngleRange g h = g h
at_fault P Q NoParameter g h = g h
at_fault P Q Function g h = g h
at_fault P Q ByZero g h = g h
at_fault P Q Memory g h = tt

pub unless_map : (P Q : Type 0) (f : AngleFault) → (P → Q) → unless_memory f P → unless_memory f Q
unless_map P Q NotDyadic g h = g h
unless_map P Q AngleRange g h = g h
unless_map P Q NoParameter g h = g h
unless_map P Q Function g h = g h
unless_map P Q ByZero g h = g h
unless_map P Q Memory g h = tt

pub no_memory : (P : Type 0) (f : AngleFault) → f ≡ Memory → unless_memory f P
no_memory P f e = subst (λ g. unless_memory g P) (sym e) tt

module _ {X : Type 0} (Is : List Op → Result X AngleFault → Type 0) where
  abbrev pub behind_all : List X → Result (List X) Stop → Result (List X) Stop
  behind_all [] r = r
  behind_all (x ∷ xs) r = behind_one x (behind_all xs r)

  -- what the first expressions came to stands before what the others come to
  abbrev pub Onward : List (List Op) → ℕ → List X → Type 0
  Onward es i xs = (length xs ≡ i) × ((r : Result (List X) Stop) → Each Is (drop i es) r → Each Is es (behind_all xs r))

  behind_more : (xs : List X) (x : X) (r : Result (List X) Stop) → behind_all (xs ++ (x ∷ [])) r ≡ behind_all xs (behind_one x r)
  behind_more [] x r = refl
  behind_more (y ∷ xs) x r = ap (behind_one y) (behind_more xs x r)

  behind_end : (xs ys : List X) → behind_all xs (Ok ys) ≡ Ok (xs ++ ys)
  behind_end [] ys = refl
  behind_end (x ∷ xs) ys = ap (behind_one x) (behind_end xs ys)

  behind_fault : (xs : List X) (k : ℕ) (f : AngleFault) → behind_all xs (Err (record { at = k; fault = f })) ≡ Err (record { at = length xs + k; fault = f })
  behind_fault [] k f = ap (λ n. Err (record { at = n; fault = f })) (let e : k ≡ 0 + k = omega arith in e)
  behind_fault (x ∷ xs) k f = ap (behind_one x) (behind_fault xs k f) ∙ ap (λ n. Err (record { at = n; fault = f })) (let e : suc (length xs + k) ≡ suc (length xs) + k = omega arith in e)

  pub onward_start : (es : List (List Op)) → Onward es 0 []
  onward_start es = (refl, λ r h. h)

  pub onward_next : (es : List (List Op)) (i : ℕ) (xs ys : List X) (e : List Op) (x : X) → Onward es i xs → i < length es → e ≡ get_or es i [] → Is e (Ok x) → ys ≡ xs ++ (x ∷ []) → Onward es (i + 1) ys
  onward_next es i xs ys e x (n, f) lt g h q =
      let d : drop i es ≡ e ∷ drop (i + 1) es = rw add-one (drop-cons es i [] lt ∙ ap (λ a. a ∷ drop (suc i) es) (sym g)) in (
        ap length q ∙ length-append xs (x ∷ []) ∙ ap (λ k. k + 1) n,
        λ r k. subst (λ zs. Each Is es (behind_all zs r)) (sym q) (subst (λ z. Each Is es z) (sym (behind_more xs x r)) (f (behind_one x r) (subst (λ z. Each Is z (behind_one x r)) (sym d) (one h k)))),
      )

  pub onward_fault : (es : List (List Op)) (i k : ℕ) (xs : List X) (e : List Op) (f : AngleFault) → Onward es i xs → i < length es → e ≡ get_or es i [] → k ≡ length xs → Told (Err f) (λ r. Is e r) → unless_memory f (Each Is es (Err (record { at = k; fault = f })))
  onward_fault es i k xs e f (n, g) lt q l h =
      let d : drop i es ≡ e ∷ drop (i + 1) es = rw add-one (drop-cons es i [] lt ∙ ap (λ a. a ∷ drop (suc i) es) (sym q)) in
      let m : length xs + 0 ≡ k = omega arith in
      at_fault {X = X} (λ r. Is e r) _ f (λ w. subst (λ z. Each Is es (Err (record { at = z; fault = f }))) m (subst (λ z. Each Is es z) (behind_fault xs 0 f) (g _ (subst (λ z. Each Is z (Err (record { at = 0; fault = f }))) (sym d) (stops w))))) h

  pub onward_end : (es : List (List Op)) (i : ℕ) (xs : List X) → Onward es i xs → length es ≤ i → drop i es ≡ [] → Each Is es (Ok xs)
  onward_end es i xs (n, f) le d = subst (λ z. Each Is es z) (behind_end xs [] ∙ ap Ok (append-nil xs)) (f (Ok []) (subst (λ z. Each Is z (Ok [])) (sym d) none))

pub expr_at : (es : List (List Op)) (i : ℕ) (e : List Op) → i < length es → e ≡ get_or es i e → e ≡ get_or es i []
expr_at es i e lt h = get_or_read es i e lt h []

pub own_at : (fs : List Formula) (i : ℕ) (f : Formula) → i < length fs → f ≡ get_or fs i f → f.expr ≡ get_or (exprs_of fs) i []
own_at fs i f lt h = ap (λ g. g.expr) h ∙ sym (get_or-map (λ g. g.expr) fs i f [] lt)

pub exprs_length : (fs : List Formula) → length (exprs_of fs) ≡ length fs
exprs_length fs = length-map fs (λ f. f.expr)

-- ---- three turns
module _ {X : Type 0} (Is : List Op → Result X AngleFault → Type 0) (a b c : List Op) where
  pub first_off : (f : AngleFault) → Told (Err f) (λ r. Is a r) → unless_memory f (Each Is (a ∷ (b ∷ (c ∷ []))) (Err (record { at = 0; fault = f })))
  first_off f h = at_fault {X = X} (λ r. Is a r) _ f (λ w. stops w) h

  pub second_off : (x : X) (f : AngleFault) → Is a (Ok x) → Told (Err f) (λ r. Is b r) → unless_memory f (Each Is (a ∷ (b ∷ (c ∷ []))) (Err (record { at = 1; fault = f })))
  second_off x f v h = at_fault {X = X} (λ r. Is b r) _ f (λ w. one v (stops w)) h

  pub third_off : (x y : X) (f : AngleFault) → Is a (Ok x) → Is b (Ok y) → Told (Err f) (λ r. Is c r) → unless_memory f (Each Is (a ∷ (b ∷ (c ∷ []))) (Err (record { at = 2; fault = f })))
  third_off x y f v w h = at_fault {X = X} (λ r. Is c r) _ f (λ u. one v (one w (stops u))) h

  pub three : (x y z : X) → Is a (Ok x) → Is b (Ok y) → Is c (Ok z) → Each Is (a ∷ (b ∷ (c ∷ []))) (Ok (x ∷ (y ∷ (z ∷ []))))
  three x y z u v w = one u (one v (one w none))
