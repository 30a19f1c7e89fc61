-- What operations in postfix order come to is the value of the expression.
use Rattle.std.proofs.Common.{◌≡◌, ◌<◌, ◌≤◌, ◌+◌, ◌-◌, length, get_or, arith, ◌⊎◌, inl, inr, List, [], ◌∷◌, ◌++◌, refl, sym, ◌∙◌, ap, subst, append_assoc, append-nil, Result, Ok, Err, Some, reverse, true, ◌&&◌}
use Rattle.std.specs.Prelude.{slice_get, ℕ, nat_eq, nat_le, Bool}
use Rattle.std.proofs.lemmas.List.{reverse-append}
use Rattle.std.proofs.lemmas.Option.{slice_get-get_or}
use Rattle.std.proofs.lemmas.Bool.Decides.{nat_tests}
use Rattle.qasm_angle.specs.declared.types.Pair.{Pair}
use Rattle.qasm_angle.specs.declared.types.Op.{Op}
use Rattle.qasm_angle.specs.declared.types.AngleFault.{AngleFault}
use Rattle.qasm_angle.specs.declared.types.AngleFault.TheVariants.{NotDyadic, AngleRange, NoParameter, Function, ByZero, Memory}
use Rattle.qasm_angle.specs.Pairs.{IsNegation}
use Rattle.qasm_angle.specs.Trees.{wants, Tree, leaf, one, two, postfix, IsExpression}
use Rattle.qasm_angle.specs.Values.{LeafIs, JoinedIs, Values, leaf_is, one_is, one_fault, two_is, left_fault, right_fault, Told}
use Rattle.qasm_angle.specs.Machine.{leaves_one, Runs, ended, leaf_on, leaf_off, one_on, two_on, two_off, Stepped}

-- the expression has a value and the rest goes on with it, or its fault is the outcome
abbrev Split : List Pair → Tree → List Op → List Pair → Result Pair AngleFault → Type 0
Split params t rest st o = ((x : Pair) × Values params t (Ok x) × Runs params rest (x ∷ st) o) ⊎ ((f : AngleFault) × Values params t (Err f) × (o ≡ Err f))

apart : (op : Op) (m n : ℕ) → wants op ≡ m → wants op ≡ n → (m ≡ n → ⊥) → ⊥
apart op m n e f h = h (sym e ∙ f)

leaf_end : {params : List Pair} {op : Op} {rest : List Op} {st : List Pair} {o : Result Pair AngleFault} (w : wants op ≡ 0) → Runs params (op ∷ rest) st o → Split params (leaf op w) rest st o
leaf_end w (leaf_on {x = x} _ h r) = inl (x, leaf_is h, r)
leaf_end w (leaf_off {f = f} _ h) = inr (f, leaf_is h, refl)
leaf_end w (one_on v _ _) = absurd (omega (arith, w, v))
leaf_end w (two_on v _ _) = absurd (omega (arith, w, v))
leaf_end w (two_off v _) = absurd (omega (arith, w, v))

one_end : {params : List Pair} {op : Op} {a : Tree} {rest : List Op} {st : List Pair} {o : Result Pair AngleFault} (w : wants op ≡ 1) (x : Pair) → Values params a (Ok x) → Runs params (op ∷ rest) (x ∷ st) o → Split params (one op w a) rest st o
one_end w x va (leaf_on v _ _) = absurd (omega (arith, w, v))
one_end w x va (leaf_off v _) = absurd (omega (arith, w, v))
one_end w x va (one_on {z = z} _ n r) = inl (z, one_is va n, r)
one_end w x va (two_on v _ _) = absurd (omega (arith, w, v))
one_end w x va (two_off v _) = absurd (omega (arith, w, v))

two_end : {params : List Pair} {op : Op} {a b : Tree} {rest : List Op} {st : List Pair} {o : Result Pair AngleFault} (w : wants op ≡ 2) (x y : Pair) → Values params a (Ok x) → Values params b (Ok y) → Runs params (op ∷ rest) (y ∷ (x ∷ st)) o → Split params (two op w a b) rest st o
two_end w x y va vb (leaf_on v _ _) = absurd (omega (arith, w, v))
two_end w x y va vb (leaf_off v _) = absurd (omega (arith, w, v))
two_end w x y va vb (one_on v _ _) = absurd (omega (arith, w, v))
two_end w x y va vb (two_on {z = z} _ j r) = inl (z, two_is va vb j, r)
two_end w x y va vb (two_off {f = f} _ j) = inr (f, two_is va vb j, refl)

split : (params : List Pair) (t : Tree) (rest : List Op) (st : List Pair) (o : Result Pair AngleFault) → Runs params (postfix t ++ rest) st o → Split params t rest st o
split params (leaf op w) rest st o r = leaf_end w r
split params (one op w a) rest st o r =
    elim (split params a (op ∷ rest) st o (subst (λ x. Runs params x st o) (append_assoc (postfix a) (op ∷ []) rest) r)) [
      | inl (x, va, s) ↦ one_end w x va s
      | inr (f, va, d) ↦ inr (f, one_fault va, d)
    ]
split params (two op w a b) rest st o r =
    let e : (postfix a ++ (postfix b ++ (op ∷ []))) ++ rest ≡ postfix a ++ (postfix b ++ (op ∷ rest)) = append_assoc (postfix a) (postfix b ++ (op ∷ [])) rest ∙ ap (λ x. postfix a ++ x) (append_assoc (postfix b) (op ∷ []) rest) in
    elim (split params a (postfix b ++ (op ∷ rest)) st o (subst (λ x. Runs params x st o) e r)) [
      | inl (x, va, s) ↦ elim (split params b (op ∷ rest) (x ∷ st) o s) [
        | inl (y, vb, k) ↦ two_end w x y va vb k
        | inr (f, vb, d) ↦ inr (f, right_fault va vb, d)
      ]
      | inr (f, va, d) ↦ inr (f, left_fault va, d)
    ]

run_end : (params : List Pair) (x : Pair) (o : Result Pair AngleFault) → Runs params [] (x ∷ []) o → Ok x ≡ o
run_end params x o ended = refl

pub runs_value : (params : List Pair) (t : Tree) (o : Result Pair AngleFault) → Runs params (postfix t) [] o → Values params t o
runs_value params t o r = elim (split params t [] [] o (subst (λ x. Runs params x [] o) (sym (append-nil (postfix t))) r)) [
  | inl (x, v, k) ↦ subst (λ y. Values params t y) (run_end params x o k) v
  | inr (f, v, d) ↦ subst (λ y. Values params t y) (sym d) v
]

at_most : (m n : ℕ) → m ≤ n → nat_le m n ≡ true
at_most m n h = grind (arith, nat_tests)

finds : (op : Op) (rest : List Op) (h n : ℕ) → wants op ≡ n → n ≤ h → leaves_one (op ∷ rest) h ≡ leaves_one rest (h + 1 - n)
finds op rest h n w le = ap (λ b. b && leaves_one rest (h + 1 - wants op)) (at_most (wants op) h (omega (arith, w))) ∙ ap (λ k. leaves_one rest (h + 1 - k)) w

-- a whole expression leaves one operand more
leaves_more : (t : Tree) (rest : List Op) (h : ℕ) → leaves_one (postfix t ++ rest) h ≡ leaves_one rest (h + 1)
leaves_more (leaf op w) rest h = finds op rest h 0 w (omega arith) ∙ ap (leaves_one rest) (let e : h + 1 - 0 ≡ h + 1 = omega arith in e)
leaves_more (one op w a) rest h =
    ap (λ x. leaves_one x h) (append_assoc (postfix a) (op ∷ []) rest) ∙ leaves_more a (op ∷ rest) h ∙ finds op rest (h + 1) 1 w (omega arith) ∙ ap (leaves_one rest) (let e : h + 1 + 1 - 1 ≡ h + 1 = omega arith in e)
leaves_more (two op w a b) rest h =
    let e : (postfix a ++ (postfix b ++ (op ∷ []))) ++ rest ≡ postfix a ++ (postfix b ++ (op ∷ rest)) = append_assoc (postfix a) (postfix b ++ (op ∷ [])) rest ∙ ap (λ x. postfix a ++ x) (append_assoc (postfix b) (op ∷ []) rest) in
    ap (λ x. leaves_one x h) e ∙ leaves_more a (postfix b ++ (op ∷ rest)) h ∙ leaves_more b (op ∷ rest) (h + 1) ∙ finds op rest (h + 1 + 1) 2 w (omega arith) ∙ ap (leaves_one rest) (let f : h + 1 + 1 + 1 - 2 ≡ h + 1 = omega arith in f)

pub whole_leaves : (ops : List Op) → IsExpression ops → leaves_one ops 0 ≡ true
whole_leaves ops (t, e) = ap (λ x. leaves_one x 0) (sym (append-nil ops)) ∙ ap (λ x. leaves_one (x ++ []) 0) (sym e) ∙ leaves_more t [] 0

flip : {X : Type 0} (xs ys : List X) (x : X) → xs ≡ ys ++ (x ∷ []) → reverse xs ≡ x ∷ reverse ys
flip xs ys x e = ap reverse e ∙ reverse-append ys (x ∷ [])

-- a stack as a vector, its top last
module _ (params : List Pair) (op : Op) (old new : List Pair) where
  abbrev pub Goes : Type 0
  Goes = (rest : List Op) (o : Result Pair AngleFault) → Runs params rest (reverse new) o → Runs params (op ∷ rest) (reverse old) o

  pub goes_leaf : (x : Pair) → wants op ≡ 0 → LeafIs params op (Ok x) → new ≡ old ++ (x ∷ []) → Goes
  goes_leaf x w h g rest o r = leaf_on w h (subst (λ s. Runs params rest s o) (flip new old x g) r)

  pub goes_one : (low : List Pair) (x z : Pair) → wants op ≡ 1 → old ≡ low ++ (x ∷ []) → IsNegation x z → new ≡ low ++ (z ∷ []) → Goes
  goes_one low x z w e n g rest o r = subst (λ s. Runs params (op ∷ rest) s o) (sym (flip old low x e)) (one_on w n (subst (λ s. Runs params rest s o) (flip new low z g) r))

  two_off_top : (mid low : List Pair) (x y : Pair) → old ≡ mid ++ (y ∷ []) → mid ≡ low ++ (x ∷ []) → y ∷ (x ∷ reverse low) ≡ reverse old
  two_off_top mid low x y e f = sym (flip old mid y e ∙ ap (λ s. y ∷ s) (flip mid low x f))

  pub goes_two : (mid low : List Pair) (x y z : Pair) → wants op ≡ 2 → old ≡ mid ++ (y ∷ []) → mid ≡ low ++ (x ∷ []) → JoinedIs op x y (Ok z) → new ≡ low ++ (z ∷ []) → Goes
  goes_two mid low x y z w f g h k rest o r = subst (λ s. Runs params (op ∷ rest) s o) (two_off_top mid low x y f g) (two_on w h (subst (λ s. Runs params rest s o) (flip new low z k) r))

  pub stops_two : (mid low : List Pair) (x y : Pair) (f : AngleFault) → wants op ≡ 2 → old ≡ mid ++ (y ∷ []) → mid ≡ low ++ (x ∷ []) → JoinedIs op x y (Err f) → (rest : List Op) → Runs params (op ∷ rest) (reverse old) (Err f)
  stops_two mid low x y f w p g h rest = subst (λ s. Runs params (op ∷ rest) s (Err f)) (two_off_top mid low x y p g) (two_off w h)

  at_fault : (f : AngleFault) → ((rest : List Op) → Runs params (op ∷ rest) (reverse old) (Err f)) → Stepped params op (reverse old) (reverse new) (Err f)
  at_fault NotDyadic h = h
  at_fault AngleRange h = h
  at_fault NoParameter h = h
  at_fault Function h = h
  at_fault ByZero h = h
  at_fault Memory h = tt

  pub stepped_err : (f : AngleFault) (r : Result (Unit {0}) AngleFault) → (y : AngleFault) × (r ≡ Err y) × (y ≡ f) → ((rest : List Op) → Runs params (op ∷ rest) (reverse old) (Err f)) → Stepped params op (reverse old) (reverse new) r
  stepped_err f r (y, e, g) h = subst (λ z. Stepped params op (reverse old) (reverse new) z) (sym (e ∙ ap Err g)) (at_fault f h)

pub get_some : (params : List Pair) (i : ℕ) (x : Pair) → i < length params → ((d : Pair) → x ≡ get_or params i d) → slice_get params i ≡ Some x
get_some params i x h e = slice_get-get_or params i x h ∙ ap Some (sym (e x))

-- the value that is left in the end
pub ends : (params : List Pair) (ops : List Op) (old low : List Pair) (x : Pair) → old ≡ low ++ (x ∷ []) → length low ≡ 0 → ((o : Result Pair AngleFault) → Runs params [] (reverse old) o → Runs params ops [] o) → (t : Tree) → postfix t ≡ ops → Values params t (Ok x)
ends params ops old (y ∷ low) x e n h t p = absurd (omega arith)
ends params ops old [] x e n h t p = runs_value params t (Ok x) (subst (λ z. Runs params z [] (Ok x)) (sym p) (h (Ok x) (subst (λ s. Runs params [] s (Ok x)) (sym (flip old [] x e)) ended)))

-- the fault of a step is that of the whole
pub faulty : (params : List Pair) (ops rest : List Op) (op : Op) (old new : List Pair) (f : AngleFault) (r : Result Pair AngleFault) → (y : AngleFault) × (r ≡ Err y) × (y ≡ f) → ((o : Result Pair AngleFault) → Runs params (op ∷ rest) (reverse old) o → Runs params ops [] o) → Stepped params op (reverse old) (reverse new) (Err f) → (t : Tree) → postfix t ≡ ops → Told r (λ z. Values params t z)
faulty params ops rest op old new f r (y, e, g) h s t p = subst (λ z. Told z (λ w. Values params t w)) (sym (e ∙ ap Err g)) (at_step f s)
  where
    from_runs : (f : AngleFault) → Runs params (op ∷ rest) (reverse old) (Err f) → Values params t (Err f)
    from_runs f k = runs_value params t (Err f) (subst (λ z. Runs params z [] (Err f)) (sym p) (h (Err f) k))

    at_step : (f : AngleFault) → Stepped params op (reverse old) (reverse new) (Err f) → Told (Err f) (λ w. Values params t w)
    at_step NotDyadic s = from_runs NotDyadic (s rest)
    at_step AngleRange s = from_runs AngleRange (s rest)
    at_step NoParameter s = from_runs NoParameter (s rest)
    at_step Function s = from_runs Function (s rest)
    at_step ByZero s = from_runs ByZero (s rest)
    at_step Memory s = tt

pub one_left : (n : ℕ) → nat_eq n 1 ≡ true → n ≡ 1
one_left n h = grind (arith, nat_tests)

both_true : (a b : Bool) → (a && b) ≡ true → (a ≡ true) × (b ≡ true)
both_true a b h = grind arith

pub leaves_next : (op : Op) (rest : List Op) (h k : ℕ) → leaves_one (op ∷ rest) h ≡ true → k + wants op ≡ h + 1 → leaves_one rest k ≡ true
leaves_next op rest h k w e = subst (λ n. leaves_one rest n ≡ true) (let f : h + 1 - wants op ≡ k = omega arith in f) (both_true (nat_le (wants op) h) (leaves_one rest (h + 1 - wants op)) w).1
