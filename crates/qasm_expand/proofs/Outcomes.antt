-- Each expression has one value, and each application one outcome.
use Rattle.std.proofs.Common.{◌≡◌, ◌≢◌, ◌<◌, ℕ, ◌*◌, ◌^◌, ◌⊎◌, inl, inr, zero-mul, arith, List, [], ◌∷◌, ◌++◌, refl, sym, ◌∙◌, ap, subst, append_assoc, append-nil, Some, Result, Ok, Err}
use Rattle.std.specs.Prelude.{slice_get, ℤ, pos, ◌*ℤ◌, nat_abs}
use Rattle.std.proofs.lemmas.Int.{ints}
use Rattle.std.proofs.lemmas.Nat.{pow_pos}
use Rattle.ps_prim.specs.declared.prims.Primitive.{Primitive as Prim}
use Rattle.ps_prim.specs.declared.prims.Primitive.TheVariants.{U as UPrim}
use Rattle.qasm_angle.specs.declared.types.Op.{Op}
use Rattle.qasm_angle.specs.declared.types.Pair.{Pair}
use Rattle.qasm_angle.specs.declared.types.AngleFault.{AngleFault}
use Rattle.qasm_angle.specs.declared.types.AngleFault.TheVariants.{NotDyadic, AngleRange, NoParameter, Function, ByZero, Memory}
use Rattle.qasm_angle.specs.Fractions.{below_zero}
use Rattle.qasm_angle.specs.Trees.{wants, Tree, leaf, one as one_tree, two, postfix}
use Rattle.qasm_angle.specs.Values.{JoinedIs, Values, leaf_is, one_is, one_fault, two_is, left_fault, right_fault}
use Rattle.qasm_angle.specs.Machine.{Runs, ended as all_run, leaf_on, leaf_off, one_on, two_on, two_off}
use Rattle.qasm_angle.specs.Angles.{IsUnits, IsResidue, IsAngle}
use Rattle.qasm_angle.proofs.Lowest.{cancel, signed_self}
use Rattle.qasm_angle.proofs.Signs.{same_signed, signed_same, scaled_side}
use Rattle.qasm_angle.proofs.Postfix.{runs_value}
use Rattle.qasm_angle.proofs.Single.{only_value}
use Rattle.qasm_expand.specs.declared.defs.Called.TheVariants.{Def as ADef}
use Rattle.qasm_expand.specs.declared.defs.Def.{Def}
use Rattle.qasm_expand.specs.declared.broken.Stop.{Stop}
use Rattle.qasm_expand.specs.declared.broken.Broken.{Broken}
use Rattle.qasm_expand.specs.declared.broken.Broken.TheVariants.{Own, Inside}
use Rattle.qasm_expand.specs.Tables.{size_of, size_of_def}
use Rattle.qasm_expand.specs.Bodies.{IsValue, IsTurn, angle, no_turn, behind_one, Each, none, one, stops, all_on, fault_of, joined, Job, call, rest, Comes, nothing, universal, no_angle, controlled, replaced, no_value, ended, applied, broken}

-- ---- one value
abbrev RunsAs : List Pair → List Op → Result Pair AngleFault → Type 0
RunsAs params ops (Ok x) = (more : List Op) (st : List Pair) (o : Result Pair AngleFault) → Runs params more (x ∷ st) o → Runs params (ops ++ more) st o
RunsAs params ops (Err f) = (more : List Op) (st : List Pair) → Runs params (ops ++ more) st (Err f)

behind_two : (a b more : List Op) (op : Op) → (a ++ (b ++ (op ∷ []))) ++ more ≡ a ++ (b ++ (op ∷ more))
behind_two a b more op = append_assoc a (b ++ (op ∷ [])) more ∙ ap (λ x. a ++ x) (append_assoc b (op ∷ []) more)

two_end : (params : List Pair) (op : Op) (w : wants op ≡ 2) (a b : List Op) (x y : Pair) (z : Result Pair AngleFault) → RunsAs params a (Ok x) → RunsAs params b (Ok y) → JoinedIs op x y z → RunsAs params (a ++ (b ++ (op ∷ []))) z
two_end params op w a b x y (Ok v) h k j = λ more st o m. subst (λ ops. Runs params ops st o) (sym (behind_two a b more op)) (h (b ++ (op ∷ more)) st o (k (op ∷ more) (x ∷ st) o (two_on w j m)))
two_end params op w a b x y (Err f) h k j = λ more st. subst (λ ops. Runs params ops st (Err f)) (sym (behind_two a b more op)) (h (b ++ (op ∷ more)) st (Err f) (k (op ∷ more) (x ∷ st) (Err f) (two_off w j)))

runs_as : (params : List Pair) (t : Tree) (r : Result Pair AngleFault) → Values params t r → RunsAs params (postfix t) r
runs_as params (leaf op w) (Ok x) (leaf_is h) = λ more st o k. leaf_on w h k
runs_as params (leaf op w) (Err f) (leaf_is h) = λ more st. leaf_off w h
runs_as params (one_tree op w a) r (one_is {x = x} {z = z} h n) = λ more st o k. subst (λ ops. Runs params ops st o) (sym (append_assoc (postfix a) (op ∷ []) more)) (runs_as params a (Ok x) h (op ∷ more) st o (one_on w n k))
runs_as params (one_tree op w a) r (one_fault {f = f} h) = λ more st. subst (λ ops. Runs params ops st (Err f)) (sym (append_assoc (postfix a) (op ∷ []) more)) (runs_as params a (Err f) h (op ∷ more) st)
runs_as params (two op w a b) r (two_is {x = x} {y = y} h k j) = two_end params op w (postfix a) (postfix b) x y r (runs_as params a (Ok x) h) (runs_as params b (Ok y) k) j
runs_as params (two op w a b) r (left_fault {f = f} h) = λ more st. subst (λ ops. Runs params ops st (Err f)) (sym (behind_two (postfix a) (postfix b) more op)) (runs_as params a (Err f) h (postfix b ++ (op ∷ more)) st)
runs_as params (two op w a b) r (right_fault {x = x} {f = f} h k) = λ more st. subst (λ ops. Runs params ops st (Err f)) (sym (behind_two (postfix a) (postfix b) more op)) (runs_as params a (Ok x) h (postfix b ++ (op ∷ more)) st (Err f) (runs_as params b (Err f) k (op ∷ more) (x ∷ st)))

whole_run : (params : List Pair) (ops : List Op) (r : Result Pair AngleFault) → RunsAs params ops r → Runs params ops [] r
whole_run params ops (Ok x) h = subst (λ z. Runs params z [] (Ok x)) (append-nil ops) (h [] [] (Ok x) all_run)
whole_run params ops (Err f) h = subst (λ z. Runs params z [] (Err f)) (append-nil ops) (h [] [])

same_tree : (params : List Pair) (t : Tree) (r s : Result Pair AngleFault) → Values params t r → Values params t s → s ≡ r
same_tree params t (Ok x) s a b = only_value params t (Ok x) a s b
same_tree params t (Err NotDyadic) s a b = only_value params t (Err NotDyadic) a s b
same_tree params t (Err AngleRange) s a b = only_value params t (Err AngleRange) a s b
same_tree params t (Err NoParameter) s a b = only_value params t (Err NoParameter) a s b
same_tree params t (Err Function) s a b = only_value params t (Err Function) a s b
same_tree params t (Err ByZero) s a b = only_value params t (Err ByZero) a s b
same_tree params t (Err Memory) (Ok x) a b = sym (only_value params t (Ok x) b (Err Memory) a)
same_tree params t (Err Memory) (Err NotDyadic) a b = sym (only_value params t (Err NotDyadic) b (Err Memory) a)
same_tree params t (Err Memory) (Err AngleRange) a b = sym (only_value params t (Err AngleRange) b (Err Memory) a)
same_tree params t (Err Memory) (Err NoParameter) a b = sym (only_value params t (Err NoParameter) b (Err Memory) a)
same_tree params t (Err Memory) (Err Function) a b = sym (only_value params t (Err Function) b (Err Memory) a)
same_tree params t (Err Memory) (Err ByZero) a b = sym (only_value params t (Err ByZero) b (Err Memory) a)
same_tree params t (Err Memory) (Err Memory) a b = refl

pub value_one : (params : List Pair) (ops : List Op) (r s : Result Pair AngleFault) → IsValue params ops r → IsValue params ops s → s ≡ r
value_one params ops r s (t, e, v) (u, f, w) =
    let k : Runs params (postfix u) [] r = subst (λ z. Runs params z [] r) (e ∙ sym f) (whole_run params (postfix t) r (runs_as params t r v)) in
    same_tree params u r s (runs_value params u r k) w

-- ---- one angle
no_factor : (x c : ℕ) → 0 < c → x * c ≡ 0 → x ≡ 0
no_factor x c lt h = cancel x 0 c lt (h ∙ sym (zero-mul c))

times_cancel : (z w : ℤ) (c : ℕ) → 0 < c → z *ℤ pos c ≡ w *ℤ pos c → z ≡ w
times_cancel z w c lt h =
    let k = same_signed (below_zero z) (below_zero w) (nat_abs z * c) (nat_abs w * c) (sym (scaled_side z c) ∙ h ∙ scaled_side w c) in
    let m : nat_abs z ≡ nat_abs w = cancel (nat_abs z) (nat_abs w) c lt k.0 in
    let s : (nat_abs z ≡ 0) ⊎ (below_zero z ≡ below_zero w) = elim k.1 [ inl e ↦ inl (no_factor (nat_abs z) c lt e) | inr e ↦ inr e ] in
    sym (signed_self z) ∙ signed_same (below_zero z) (below_zero w) (nat_abs z) (nat_abs w) m s ∙ signed_self w

units_one : (x : Pair) (n m : ℤ) → IsUnits x n → IsUnits x m → n ≡ m
units_one x n m h k = times_cancel n m (2 ^ x.s.shift) (pow_pos x.s.shift) (sym h ∙ k)

residue_one : (n : ℤ) (u v : ℕ) → IsResidue n u → IsResidue n v → v ≡ u
residue_one n u v (a, k, e) (b, l, f) = omega (arith, ints)

angle_one : (x : Pair) (r s : Result ℕ AngleFault) → IsAngle x r → IsAngle x s → s ≡ r
angle_one x (Ok u) (Ok v) (z, n, h, p) (y, m, k, q) = ap Ok (residue_one n u v p (subst (λ i. IsResidue i v) (units_one x m n k h) q))
angle_one x (Ok u) (Err NotDyadic) h k = absurd (k h.0)
angle_one x (Ok u) (Err AngleRange) (z, n, h, p) k = absurd (k.1 n h)
angle_one x (Ok u) (Err NoParameter) h k = absurd k
angle_one x (Ok u) (Err Function) h k = absurd k
angle_one x (Ok u) (Err ByZero) h k = absurd k
angle_one x (Ok u) (Err Memory) h k = absurd k
angle_one x (Err NotDyadic) (Ok v) h k = absurd (h k.0)
angle_one x (Err NotDyadic) (Err NotDyadic) h k = refl
angle_one x (Err NotDyadic) (Err AngleRange) h k = absurd (h k.0)
angle_one x (Err NotDyadic) (Err NoParameter) h k = absurd k
angle_one x (Err NotDyadic) (Err Function) h k = absurd k
angle_one x (Err NotDyadic) (Err ByZero) h k = absurd k
angle_one x (Err NotDyadic) (Err Memory) h k = absurd k
angle_one x (Err AngleRange) (Ok v) h (z, n, k, p) = absurd (h.1 n k)
angle_one x (Err AngleRange) (Err NotDyadic) h k = absurd (k h.0)
angle_one x (Err AngleRange) (Err AngleRange) h k = refl
angle_one x (Err AngleRange) (Err NoParameter) h k = absurd k
angle_one x (Err AngleRange) (Err Function) h k = absurd k
angle_one x (Err AngleRange) (Err ByZero) h k = absurd k
angle_one x (Err AngleRange) (Err Memory) h k = absurd k
angle_one x (Err NoParameter) s h k = absurd h
angle_one x (Err Function) s h k = absurd h
angle_one x (Err ByZero) s h k = absurd h
angle_one x (Err Memory) s h k = absurd h

ok_same : {A E : Type 0} (x y : A) → ◌≡◌ {A = Result A E} (Ok y) (Ok x) → y ≡ x
ok_same x y e = cc

err_same : {A E : Type 0} (x y : E) → ◌≡◌ {A = Result A E} (Err y) (Err x) → y ≡ x
err_same x y e = cc

unlike : {A E : Type 0} (P : Type 0) (x : A) (f : E) → ◌≡◌ {A = Result A E} (Ok x) (Err f) → P
unlike P x f e = absurd (cc)

pub turn_one : (params : List Pair) (ops : List Op) (r s : Result ℕ AngleFault) → IsTurn params ops r → IsTurn params ops s → s ≡ r
turn_one params ops r s (angle {x = x} v a) (angle {x = y} w b) =
    let e : y ≡ x = ok_same {E = AngleFault} x y (value_one params ops (Ok x) (Ok y) v w) in
    angle_one x r s a (subst (λ p. IsAngle p s) e b)
turn_one params ops r s (angle {x = x} v a) (no_turn {f = f} w) = unlike _ x f (value_one params ops (Err f) (Ok x) w v)
turn_one params ops r s (no_turn {f = f} v) (angle {x = x} w a) = unlike _ x f (value_one params ops (Err f) (Ok x) v w)
turn_one params ops r s (no_turn {f = f} v) (no_turn {f = g} w) = ap Err (err_same {A = Pair} f g (value_one params ops (Err f) (Err g) v w))

-- ---- one list
pub each_one : {X : Type 0} (Is : List Op → Result X AngleFault → Type 0) → ((e : List Op) (r s : Result X AngleFault) → Is e r → Is e s → s ≡ r) → (es : List (List Op)) (r s : Result (List X) Stop) → Each Is es r → Each Is es s → s ≡ r
each_one Is h [] r s none none = refl
each_one Is h (e ∷ es) r s (one {x = x} {r = p} a b) (one {x = y} {r = q} c d) =
    ap (λ z. behind_one z q) (ok_same {E = AngleFault} x y (h e (Ok x) (Ok y) a c)) ∙ ap (behind_one x) (each_one Is h es p q b d)
each_one Is h (e ∷ es) r s (one {x = x} a b) (stops {f = f} c) = unlike _ x f (h e (Err f) (Ok x) c a)
each_one Is h (e ∷ es) r s (stops {f = f} a) (one {x = x} c d) = unlike _ x f (h e (Err f) (Ok x) a c)
each_one Is h (e ∷ es) r s (stops {f = f} a) (stops {f = g} c) = ap (λ z. Err (record { at = 0; fault = z })) (err_same f g (h e (Err f) (Err g) a c))

values_one : (params : List Pair) (es : List (List Op)) (r s : Result (List Pair) Stop) → Each (IsValue params) es r → Each (IsValue params) es s → s ≡ r
values_one params es r s = each_one (IsValue params) (value_one params) es r s

turns_one : (params : List Pair) (es : List (List Op)) (r s : Result (List ℕ) Stop) → Each (IsTurn params) es r → Each (IsTurn params) es s → s ≡ r
turns_one params es r s = each_one (IsTurn params) (turn_one params) es r s

-- ---- one outcome
module _ (defs : List Def) where
  no_size : (P : Type 0) (d : ℕ) (g : Def) → size_of defs (ADef d) ≡ 0 → g.size ≢ 0 → slice_get defs d ≡ Some g → P
  no_size P d g z n e = absurd (n (sym (ap size_of_def e) ∙ z))

  same_def : (d : ℕ) (g k : Def) → slice_get defs d ≡ Some g → slice_get defs d ≡ Some k → k ≡ g
  same_def d g k e f = let h : Some k ≡ Some g = sym f ∙ e in cc

  same_prim : (t p l t' p' l' : ℕ) → ◌≡◌ {A = Result (List ℕ) Stop} (Ok (t' ∷ (p' ∷ (l' ∷ [])))) (Ok (t ∷ (p ∷ (l ∷ [])))) → UPrim t' p' l' 0 ≡ UPrim t p l 0
  same_prim t p l t' p' l' e =
      let a : t' ≡ t = cc in
      let b : p' ≡ p = cc in
      let c : l' ≡ l = cc in
      cc

  pub comes_one : (ps : List Pair) (j : Job) (r s : Result (List Prim) Broken) → Comes defs ps j r → Comes defs ps j s → s ≡ r
  comes_one ps j r s (nothing e) (nothing f) = refl
  comes_one ps j r s (nothing e) (universal h) = absurd (omega (arith, e))
  comes_one ps j r s (nothing e) (no_angle h) = absurd (omega (arith, e))
  comes_one ps j r s (nothing e) controlled = absurd (omega (arith, e))
  comes_one ps j r s (nothing e) (replaced {d = d} {g = g} n f h k) = no_size _ d g e n f
  comes_one ps j r s (nothing e) (no_value {d = d} {g = g} n f h) = no_size _ d g e n f
  comes_one ps j r s (universal h) (nothing e) = absurd (omega (arith, e))
  comes_one ps (call gate es) r s (universal {theta = t} {phi = p} {lambda = l} h) (universal {theta = t'} {phi = p'} {lambda = l'} k) = ap (λ x. Ok (x ∷ [])) (same_prim t p l t' p' l' (turns_one ps es (Ok (t ∷ (p ∷ (l ∷ [])))) (Ok (t' ∷ (p' ∷ (l' ∷ [])))) h k))
  comes_one ps (call gate es) r s (universal {theta = t} {phi = p} {lambda = l} h) (no_angle {s = f} k) = unlike _ (t ∷ (p ∷ (l ∷ []))) f (turns_one ps es (Err f) (Ok (t ∷ (p ∷ (l ∷ [])))) k h)
  comes_one ps j r s (no_angle h) (nothing e) = absurd (omega (arith, e))
  comes_one ps (call gate es) r s (no_angle {s = f} h) (universal {theta = t} {phi = p} {lambda = l} k) = unlike _ (t ∷ (p ∷ (l ∷ []))) f (turns_one ps es (Err f) (Ok (t ∷ (p ∷ (l ∷ [])))) h k)
  comes_one ps (call gate es) r s (no_angle {s = f} h) (no_angle {s = g} k) = ap (λ x. Err (Own x)) (err_same {A = List ℕ} f g (turns_one ps es (Err f) (Err g) h k))
  comes_one ps j r s controlled (nothing e) = absurd (omega (arith, e))
  comes_one ps j r s controlled controlled = refl
  comes_one ps j r s (replaced {d = d} {g = g} n f h k) (nothing e) = no_size _ d g e n f
  comes_one ps (call gate es) r s (replaced {values = vs} {d = d} {g = g} n f h k) (replaced {values = ws} {g = i} m e a b) =
      let v : ws ≡ vs = ok_same {E = Stop} vs ws (values_one ps es (Ok vs) (Ok ws) h a) in
      let x : i ≡ g = same_def d g i f e in
      comes_one vs (rest g.body) r s k (subst (λ us. Comes defs us (rest g.body) s) v (subst (λ y. Comes defs ws (rest y.body) s) x b))
  comes_one ps (call gate es) r s (replaced {values = vs} n f h k) (no_value {s = t} m e a) = unlike _ vs t (values_one ps es (Err t) (Ok vs) a h)
  comes_one ps j r s (no_value {d = d} {g = g} n f h) (nothing e) = no_size _ d g e n f
  comes_one ps (call gate es) r s (no_value {s = t} n f h) (replaced {values = vs} m e a b) = unlike _ vs t (values_one ps es (Err t) (Ok vs) h a)
  comes_one ps (call gate es) r s (no_value {s = t} n f h) (no_value {s = u} m e a) = ap (λ x. Err (Own x)) (err_same {A = List Pair} t u (values_one ps es (Err t) (Err u) h a))
  comes_one ps j r s ended ended = refl
  comes_one ps (rest (i ∷ is)) r s (applied {gs = gs} {r = p} h k) (applied {gs = hs} {r = q} a b) =
      ap (λ x. joined (all_on i.args x) q) (ok_same {E = Broken} gs hs (comes_one ps (call i.gate i.params) (Ok gs) (Ok hs) h a)) ∙ ap (joined (all_on i.args gs)) (comes_one ps (rest is) p q k b)
  comes_one ps (rest (i ∷ is)) r s (applied {gs = gs} h k) (broken {b = f} a) = unlike _ gs f (sym (comes_one ps (call i.gate i.params) (Ok gs) (Err f) h a))
  comes_one ps (rest (i ∷ is)) r s (broken {b = f} h) (applied {gs = gs} a b) = unlike _ gs f (comes_one ps (call i.gate i.params) (Err f) (Ok gs) h a)
  comes_one ps (rest (i ∷ is)) r s (broken {b = f} h) (broken {b = g} a) = ap (λ x. Err (Inside (fault_of x))) (err_same {A = List Prim} f g (comes_one ps (call i.gate i.params) (Err f) (Err g) h a))
