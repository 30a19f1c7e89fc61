-- Each expression has one value or first fault.
use Rattle.std.proofs.Common.{◌≡◌, ℕ, suc, zero, ◌+◌, ◌*◌, ◌^◌, ◌<◌, ◌≤◌, ◌⊎◌, inl, inr, Bool, List, length, arith, refl, sym, ◌∙◌, ap, subst, zero-mul, Result, Ok, Err, Some}
use Rattle.std.specs.Prelude.{ℤ, pos, negsuc, nat_abs, ◌*ℤ◌, slice_get}
use Rattle.std.proofs.Props.{props}
use Rattle.std.proofs.lemmas.Option.{slice_get_past}
use mathlib.Core.HLevel.{is_prop→PathP}
use Rattle.std.proofs.lemmas.Nat.{pow-add, pow_pos}
use Rattle.qasm_angle.specs.Lowest.{IsLowest}
use Rattle.qasm_angle.specs.declared.types.Dyadic.{Dyadic}
use Rattle.qasm_angle.specs.declared.types.Pair.{Pair}
use Rattle.qasm_angle.specs.declared.types.Op.{Op}
use Rattle.qasm_angle.specs.declared.types.Op.TheVariants.{Number, Pi, Id, Neg, Add, Sub, Mul, Div, Pow, Func}
use Rattle.qasm_angle.specs.declared.types.AngleFault.{AngleFault}
use Rattle.qasm_angle.specs.declared.types.AngleFault.TheVariants.{NotDyadic, AngleRange, NoParameter, Function, ByZero, Memory}
use Rattle.qasm_angle.specs.Fractions.{Stands, Exactly, signed, below_zero, IsRatio, RatioIs, to_power, PowerIs, InverseIs, DecimalIs, divided, broken, NumberIs, many, large, whole, decimal}
use Rattle.qasm_angle.specs.Pairs.{paired, ByParts, IsWhole, OnReal, IsOpposite, IsNegation, IsSum, IsDifference, IsProduct, by_real, of_real, of_pi, IsQuotient, over_pi, over_zero, over, IsPower, pi_base, no_exponent, to_positive, of_zero, to_negative}
use Rattle.qasm_angle.specs.Trees.{Tree, leaf, one, two}
use Rattle.qasm_angle.specs.Values.{LeafIs, JoinedIs, Values, leaf_is, one_is, one_fault, two_is, left_fault, right_fault, Told}
use Rattle.qasm_angle.proofs.Lowest.{cancel, abs_scaled, abs_signed, signed_self, low_same}
use Rattle.qasm_angle.proofs.Signs.{unlike, same_signed, signed_same, unlike_back, scaled_side, positive, product_signs}
use Rattle.qasm_angle.proofs.Raising.{power_size, power_some}

-- ghost fields are facts, so numerator and shift are all
dyadic_same : (a b : Dyadic) → a.num ≡ b.num → a.shift ≡ b.shift → a ≡ b
dyadic_same a b e f = λ i. record {
  num = e i;
  shift = f i;
  small = is_prop→PathP (λ j. nat_abs (e j) < 2 ^ 62) (λ j. Prim.hlevel props) a.small b.small i;
  few = is_prop→PathP (λ j. f j ≤ 62) (λ j. Prim.hlevel props) a.few b.few i;
  lowest = is_prop→PathP (λ j. IsLowest (nat_abs (e j)) (f j)) (λ j. Prim.hlevel props) a.lowest b.lowest i;
}

pair_same : (x y : Pair) → x.r ≡ y.r → x.s ≡ y.s → x ≡ y
pair_same x y e f = λ i. record { r = e i; s = f i }

some_size : (z : ℤ) → (z ≡ pos 0 → ⊥) → 0 < nat_abs z
some_size (pos zero) h = absurd (h refl)
some_size (pos (suc n)) h = omega arith
some_size (negsuc n) h = omega arith

no_factor : (x c : ℕ) → 0 < c → x * c ≡ 0 → x ≡ 0
no_factor x c lt h = cancel x 0 c lt (h ∙ sym (zero-mul c))

-- one number by sign and size, both times one other
by_size : (z w : ℤ) (u v : Bool) (c : ℕ) → 0 < c → (u ≡ v → below_zero z ≡ below_zero w) → signed u (nat_abs z * c) ≡ signed v (nat_abs w * c) → z ≡ w
by_size z w u v c lt f h =
    let k = same_signed u v (nat_abs z * c) (nat_abs w * c) h in
    let m : nat_abs z ≡ nat_abs w = cancel (nat_abs z) (nat_abs w) c lt k.0 in
    let s : (nat_abs z ≡ 0) ⊎ (below_zero z ≡ below_zero w) = elim k.1 [ inl e ↦ inl (no_factor (nat_abs z) c lt e) | inr e ↦ inr (f e) ] in
    sym (signed_self z) ∙ signed_same (below_zero z) (below_zero w) (nat_abs z) (nat_abs w) m s ∙ signed_self w

times_cancel : (z w : ℤ) (c : ℕ) → 0 < c → z *ℤ pos c ≡ w *ℤ pos c → z ≡ w
times_cancel z w c lt h = by_size z w (below_zero z) (below_zero w) c lt (λ e. e) (sym (scaled_side z c) ∙ h ∙ scaled_side w c)

unlike_cancel : (a b c : Bool) → unlike a c ≡ unlike b c → a ≡ b
unlike_cancel a b c h = unlike_back a c (unlike b c) h ∙ sym (unlike_back b c (unlike b c) refl)

product_cancel : (z w b : ℤ) → (b ≡ pos 0 → ⊥) → z *ℤ b ≡ w *ℤ b → z ≡ w
product_cancel z w b n h =
    by_size z w (unlike (below_zero z) (below_zero b)) (unlike (below_zero w) (below_zero b)) (nat_abs b) (some_size b n) (unlike_cancel (below_zero z) (below_zero w) (below_zero b))
    (product_signs z b ∙ h ∙ sym (product_signs w b))

abs_product : (z b : ℤ) → nat_abs (z *ℤ b) ≡ nat_abs z * nat_abs b
abs_product z b = ap nat_abs (sym (product_signs z b)) ∙ abs_signed (unlike (below_zero z) (below_zero b)) (nat_abs z * nat_abs b)

-- sizes of one fraction
one_size : (d e : Dyadic) (c m : ℕ) → 0 < c → nat_abs d.num * c ≡ m * 2 ^ d.shift → nat_abs e.num * c ≡ m * 2 ^ e.shift → (nat_abs d.num ≡ nat_abs e.num) × (d.shift ≡ e.shift)
one_size d e c m lt h g =
    let a : nat_abs d.num * c * 2 ^ e.shift ≡ m * 2 ^ d.shift * 2 ^ e.shift = ap (λ x. x * 2 ^ e.shift) h in
    let b : nat_abs e.num * c * 2 ^ d.shift ≡ m * 2 ^ e.shift * 2 ^ d.shift = ap (λ x. x * 2 ^ d.shift) g in
    let k : nat_abs d.num * 2 ^ e.shift * c ≡ nat_abs e.num * 2 ^ d.shift * c = omega (arith, a, b) in
    low_same (nat_abs d.num) d.shift (nat_abs e.num) e.shift d.lowest e.lowest (cancel (nat_abs d.num * 2 ^ e.shift) (nat_abs e.num * 2 ^ d.shift) c lt k)

stands_one : (n : ℤ) (k : ℕ) (d e : Dyadic) → Stands d n k → Stands e n k → d ≡ e
stands_one n k d e h g =
    let a : nat_abs d.num * 2 ^ k ≡ nat_abs n * 2 ^ d.shift = sym (abs_scaled d.num (2 ^ k)) ∙ ap nat_abs h ∙ abs_scaled n (2 ^ d.shift) in
    let b : nat_abs e.num * 2 ^ k ≡ nat_abs n * 2 ^ e.shift = sym (abs_scaled e.num (2 ^ k)) ∙ ap nat_abs g ∙ abs_scaled n (2 ^ e.shift) in
    let c : (nat_abs d.num ≡ nat_abs e.num) × (d.shift ≡ e.shift) = one_size d e (2 ^ k) (nat_abs n) (pow_pos k) a b in
    dyadic_same d e (times_cancel d.num e.num (2 ^ k) (pow_pos k) (h ∙ ap (λ x. n *ℤ pos (2 ^ x)) c.1 ∙ sym g)) c.1

ratio_size : (a b : ℤ) (p q k : ℕ) (z : ℤ) → IsRatio a p b q z k → nat_abs z * (nat_abs b * 2 ^ p) ≡ nat_abs a * 2 ^ q * 2 ^ k
ratio_size a b p q k z h =
    let x : nat_abs z * nat_abs b * 2 ^ p ≡ nat_abs a * 2 ^ (k + q) = ap (λ y. y * 2 ^ p) (sym (abs_product z b)) ∙ sym (abs_scaled (z *ℤ b) (2 ^ p)) ∙ ap nat_abs h ∙ abs_scaled a (2 ^ (k + q)) in
    let y : nat_abs a * 2 ^ (k + q) ≡ nat_abs a * (2 ^ k * 2 ^ q) = ap (λ u. nat_abs a * u) (pow-add 2 k q) in
    omega (arith, x, y)

ratio_same : (a b : ℤ) (p q : ℕ) → (b ≡ pos 0 → ⊥) → (d e : Dyadic) → IsRatio a p b q d.num d.shift → IsRatio a p b q e.num e.shift → d ≡ e
ratio_same a b p q n d e h g =
    let lt : 0 < nat_abs b * 2 ^ p = positive (nat_abs b) (2 ^ p) (some_size b n) (pow_pos p) in
    let c : (nat_abs d.num ≡ nat_abs e.num) × (d.shift ≡ e.shift) = one_size d e (nat_abs b * 2 ^ p) (nat_abs a * 2 ^ q) lt (ratio_size a b p q d.shift d.num h) (ratio_size a b p q e.shift e.num g) in
    dyadic_same d e (product_cancel d.num e.num b n (times_cancel (d.num *ℤ b) (e.num *ℤ b) (2 ^ p) (pow_pos p) (h ∙ ap (λ x. a *ℤ pos (2 ^ (x + q))) c.1 ∙ sym g))) c.1

abbrev Single : {A : Type 0} → (Result A AngleFault → Type 0) → Type 0
Single {A} P = (x y : Result A AngleFault) → P x → P y → x ≡ y

exactly_one : (n : ℤ) (k : ℕ) → Single (Exactly n k)
exactly_one n k (Ok d) (Ok e) h g = ap Ok (stands_one n k d e h g)
exactly_one n k (Ok d) (Err NotDyadic) h g = absurd g
exactly_one n k (Ok d) (Err AngleRange) h g = absurd (g d h)
exactly_one n k (Ok d) (Err NoParameter) h g = absurd g
exactly_one n k (Ok d) (Err Function) h g = absurd g
exactly_one n k (Ok d) (Err ByZero) h g = absurd g
exactly_one n k (Ok d) (Err Memory) h g = absurd g
exactly_one n k (Err NotDyadic) y h g = absurd h
exactly_one n k (Err AngleRange) (Ok e) h g = absurd (h e g)
exactly_one n k (Err AngleRange) (Err NotDyadic) h g = absurd g
exactly_one n k (Err AngleRange) (Err AngleRange) h g = refl
exactly_one n k (Err AngleRange) (Err NoParameter) h g = absurd g
exactly_one n k (Err AngleRange) (Err Function) h g = absurd g
exactly_one n k (Err AngleRange) (Err ByZero) h g = absurd g
exactly_one n k (Err AngleRange) (Err Memory) h g = absurd g
exactly_one n k (Err NoParameter) y h g = absurd h
exactly_one n k (Err Function) y h g = absurd h
exactly_one n k (Err ByZero) y h g = absurd h
exactly_one n k (Err Memory) y h g = absurd h

ratio_one : (a b : ℤ) (p q : ℕ) → (b ≡ pos 0 → ⊥) → Single (RatioIs a p b q)
ratio_one a b p q n (Ok d) (Ok e) h g = ap Ok (ratio_same a b p q n d e h g)
ratio_one a b p q n (Ok d) (Err NotDyadic) h g = absurd (g d.num d.shift h)
ratio_one a b p q n (Ok d) (Err AngleRange) h g = absurd (g.1 d h)
ratio_one a b p q n (Ok d) (Err NoParameter) h g = absurd g
ratio_one a b p q n (Ok d) (Err Function) h g = absurd g
ratio_one a b p q n (Ok d) (Err ByZero) h g = absurd g
ratio_one a b p q n (Ok d) (Err Memory) h g = absurd g
ratio_one a b p q n (Err NotDyadic) (Ok e) h g = absurd (h e.num e.shift g)
ratio_one a b p q n (Err NotDyadic) (Err NotDyadic) h g = refl
ratio_one a b p q n (Err NotDyadic) (Err AngleRange) h g = absurd (h g.0.0 g.0.1 g.0.2)
ratio_one a b p q n (Err NotDyadic) (Err NoParameter) h g = absurd g
ratio_one a b p q n (Err NotDyadic) (Err Function) h g = absurd g
ratio_one a b p q n (Err NotDyadic) (Err ByZero) h g = absurd g
ratio_one a b p q n (Err NotDyadic) (Err Memory) h g = absurd g
ratio_one a b p q n (Err AngleRange) (Ok e) h g = absurd (h.1 e g)
ratio_one a b p q n (Err AngleRange) (Err NotDyadic) h g = absurd (g h.0.0 h.0.1 h.0.2)
ratio_one a b p q n (Err AngleRange) (Err AngleRange) h g = refl
ratio_one a b p q n (Err AngleRange) (Err NoParameter) h g = absurd g
ratio_one a b p q n (Err AngleRange) (Err Function) h g = absurd g
ratio_one a b p q n (Err AngleRange) (Err ByZero) h g = absurd g
ratio_one a b p q n (Err AngleRange) (Err Memory) h g = absurd g
ratio_one a b p q n (Err NoParameter) y h g = absurd h
ratio_one a b p q n (Err Function) y h g = absurd h
ratio_one a b p q n (Err ByZero) y h g = absurd h
ratio_one a b p q n (Err Memory) y h g = absurd h

parts_one : (R S : Result Dyadic AngleFault → Type 0) → Single R → Single S → Single (ByParts R S)
parts_one R S p q x y (r, s, h, k, e) (u, v, g, l, f) = e ∙ ap (λ z. paired z s) (p r u h g) ∙ ap (paired u) (q s v k l) ∙ sym f

whole_one : (n : ℤ) (d e : Dyadic) → IsWhole n d → IsWhole n e → d ≡ e
whole_one n d e h g = dyadic_same d e (h.0 ∙ sym g.0) (h.1 ∙ sym g.1)

real_one : (R : Result Dyadic AngleFault → Type 0) → Single R → Single (OnReal R)
real_one R p = parts_one R (λ s. (d : Dyadic) × IsWhole (pos 0) d × (s ≡ Ok d)) p (λ x y h g. h.2 ∙ ap Ok (whole_one (pos 0) h.0 g.0 h.1 g.1) ∙ sym g.2)

opposite_one : (a b c : Dyadic) → IsOpposite a b → IsOpposite a c → b ≡ c
opposite_one a b c h g = dyadic_same b c (h.0 ∙ sym g.0) (h.1 ∙ sym g.1)

negation_one : (x y z : Pair) → IsNegation x y → IsNegation x z → y ≡ z
negation_one x y z h g = pair_same y z (opposite_one x.r y.r z.r h.0 g.0) (opposite_one x.s y.s z.s h.1 g.1)

sum_one : (a b : Pair) → Single (IsSum a b)
sum_one a b = parts_one _ _ (exactly_one _ _) (exactly_one _ _)

difference_one : (a b : Pair) → Single (IsDifference a b)
difference_one a b x y (w, n, h) (v, m, g) = sum_one a w x y h (subst (λ z. IsSum a z y) (negation_one b v w m n) g)

product_one : (a b : Pair) → Single (IsProduct a b)
product_one a b x y (by_real _ h) (by_real _ g) = parts_one _ _ (exactly_one _ _) (exactly_one _ _) x y h g
product_one a b x y (by_real e _) (of_real _ n _) = absurd (n e)
product_one a b x y (by_real e _) (of_pi _ n _) = absurd (n e)
product_one a b x y (of_real _ n _) (by_real e _) = absurd (n e)
product_one a b x y (of_real _ _ h) (of_real _ _ g) = parts_one _ _ (exactly_one _ _) (exactly_one _ _) x y h g
product_one a b x y (of_real e _ _) (of_pi n _ _) = absurd (n e)
product_one a b x y (of_pi _ n _) (by_real e _) = absurd (n e)
product_one a b x y (of_pi n _ _) (of_real e _ _) = absurd (n e)
product_one a b x y (of_pi _ _ e) (of_pi _ _ f) = e ∙ sym f

quotient_one : (a b : Pair) → Single (IsQuotient a b)
quotient_one a b x y (over_pi _ e) (over_pi _ f) = e ∙ sym f
quotient_one a b x y (over_pi n _) (over_zero e _ _) = absurd (n e)
quotient_one a b x y (over_pi n _) (over e _ _) = absurd (n e)
quotient_one a b x y (over_zero e _ _) (over_pi n _) = absurd (n e)
quotient_one a b x y (over_zero _ _ e) (over_zero _ _ f) = e ∙ sym f
quotient_one a b x y (over_zero _ e _) (over _ n _) = absurd (n e)
quotient_one a b x y (over e _ _) (over_pi n _) = absurd (n e)
quotient_one a b x y (over _ n _) (over_zero _ e _) = absurd (n e)
quotient_one a b x y (over _ n h) (over _ _ g) = parts_one _ _ (ratio_one a.r.num b.r.num a.r.shift b.r.shift n) (ratio_one a.s.num b.r.num a.s.shift b.r.shift n) x y h g

some_power : (z : ℤ) (n : ℕ) → (z ≡ pos 0 → ⊥) → to_power z n ≡ pos 0 → ⊥
some_power z n h e =
    let p : 0 < nat_abs z ^ n = power_some (nat_abs z) n (some_size z h) in
    let q : nat_abs (to_power z n) ≡ nat_abs z ^ n = power_size z n in
    let r : nat_abs (to_power z n) ≡ 0 = ap nat_abs e in
    absurd (omega arith)

same_pos : (z : ℤ) (n m : ℕ) → z ≡ pos n → z ≡ pos m → n ≡ m
same_pos z n m e f = let g : pos n ≡ pos m = sym e ∙ f in cc

same_neg : (z : ℤ) (n m : ℕ) → z ≡ negsuc n → z ≡ negsuc m → n ≡ m
same_neg z n m e f = let g : negsuc n ≡ negsuc m = sym e ∙ f in cc

two_signs : (z : ℤ) (n m : ℕ) → z ≡ pos n → z ≡ negsuc m → ⊥
two_signs z n m e f = let g : pos n ≡ negsuc m = sym e ∙ f in cc

power_one : (a b : Pair) → Single (IsPower a b)
power_one a b x y (pi_base n e) (pi_base m f) = e ∙ sym f
power_one a b x y (pi_base n e) (no_exponent g f) = e ∙ sym f
power_one a b x y (pi_base n e) (to_positive m t ey g) = absurd (n t)
power_one a b x y (pi_base n e) (of_zero m t ey w f) = absurd (n t)
power_one a b x y (pi_base n e) (to_negative m t ey w g) = absurd (n t)
power_one a b x y (no_exponent h e) (pi_base m f) = e ∙ sym f
power_one a b x y (no_exponent h e) (no_exponent g f) = e ∙ sym f
power_one a b x y (no_exponent h e) (to_positive m t ey g) = absurd (h (pos m) ey)
power_one a b x y (no_exponent h e) (of_zero m t ey w f) = absurd (h (negsuc m) ey)
power_one a b x y (no_exponent h e) (to_negative m t ey w g) = absurd (h (negsuc m) ey)
power_one a b x y (to_positive n r ex h) (pi_base m f) = absurd (m r)
power_one a b x y (to_positive n r ex h) (no_exponent g f) = absurd (g (pos n) ex)
power_one a b x y (to_positive n r ex h) (to_positive m t ey g) = real_one (PowerIs a.r n) (exactly_one _ _) x y h (subst (λ i. OnReal (PowerIs a.r i) y) (same_pos b.r.num m n ey.1.0 ex.1.0) g)
power_one a b x y (to_positive n r ex h) (of_zero m t ey w f) = absurd (two_signs b.r.num n m ex.1.0 ey.1.0)
power_one a b x y (to_positive n r ex h) (to_negative m t ey w g) = absurd (two_signs b.r.num n m ex.1.0 ey.1.0)
power_one a b x y (of_zero n r ex z e) (pi_base m f) = absurd (m r)
power_one a b x y (of_zero n r ex z e) (no_exponent g f) = absurd (g (negsuc n) ex)
power_one a b x y (of_zero n r ex z e) (to_positive m t ey g) = absurd (two_signs b.r.num m n ey.1.0 ex.1.0)
power_one a b x y (of_zero n r ex z e) (of_zero m t ey w f) = e ∙ sym f
power_one a b x y (of_zero n r ex z e) (to_negative m t ey w g) = absurd (w z)
power_one a b x y (to_negative n r ex z h) (pi_base m f) = absurd (m r)
power_one a b x y (to_negative n r ex z h) (no_exponent g f) = absurd (g (negsuc n) ex)
power_one a b x y (to_negative n r ex z h) (to_positive m t ey g) = absurd (two_signs b.r.num m n ey.1.0 ex.1.0)
power_one a b x y (to_negative n r ex z h) (of_zero m t ey w f) = absurd (z w)
power_one a b x y (to_negative n r ex z h) (to_negative m t ey w g) = real_one (InverseIs a.r (suc n)) (ratio_one (pos 1) (to_power a.r.num (suc n)) 0 (a.r.shift * suc n) (some_power a.r.num (suc n) z)) x y h (subst (λ i. OnReal (InverseIs a.r (suc i)) y) (same_neg b.r.num m n ey.1.0 ex.1.0) g)

five_some : (k : ℕ) → 0 < 5 ^ k
five_some k = power_some 5 k (omega arith)

decimal_one : (d k : ℕ) → Single (DecimalIs d k)
decimal_one d k x y (divided q e h) (divided r f g) =
    let s : r ≡ q = cancel r q (5 ^ k) (five_some k) (sym f ∙ e) in
    exactly_one (pos q) k x y h (subst (λ z. Exactly (pos z) k y) s g)
decimal_one d k x y (divided q e _) (broken n) = absurd (n q e)
decimal_one d k x y (broken n) (divided q e _) = absurd (n q e)
decimal_one d k x y (broken _) (broken _) = refl

number_one : (d : ℕ) (z : ℤ) → Single (NumberIs d z)
number_one d z x y (many h) (many g) = refl
number_one d z x y (many h) (large g) = refl
number_one d z x y (many h) (whole lt _ _) = absurd (omega arith)
number_one d z x y (many h) (decimal lt _) = absurd (omega arith)
number_one d z x y (large h) (many g) = refl
number_one d z x y (large h) (large g) = refl
number_one d z x y (large h) (whole _ le _) = absurd (omega arith)
number_one d z x y (whole lt _ _) (many h) = absurd (omega arith)
number_one d z x y (whole _ le _) (large h) = absurd (omega arith)
number_one d z x y (whole {k = k} _ _ h) (whole _ _ g) = exactly_one (pos (d * 10 ^ k)) 0 x y h g
number_one d z x y (decimal lt _) (many h) = absurd (omega arith)
number_one d z x y (decimal {k = k} _ h) (decimal _ g) = decimal_one d (suc k) x y h g

no_item : (params : List Pair) (i : ℕ) (x : Pair) → length params ≤ i → slice_get params i ≡ Some x → ⊥
no_item params i x le h = let e = slice_get_past params i le in cc

leaf_one : (params : List Pair) (op : Op) → Single (LeafIs params op)
leaf_one params (Number d t) x y h g = real_one (NumberIs d t) (number_one d t) x y h g
leaf_one params Pi (Ok x) (Ok y) h g = ap Ok (pair_same x y (whole_one (pos 0) x.r y.r h.0 g.0) (whole_one (pos 1) x.s y.s h.1 g.1))
leaf_one params Pi (Err f) y h g = absurd h
leaf_one params Pi (Ok x) (Err f) h g = absurd g
leaf_one params (Id i) (Ok x) (Ok y) h g = let e : Some x ≡ Some y = sym h ∙ g in let f : x ≡ y = cc in ap Ok f
leaf_one params (Id i) (Ok x) (Err NoParameter) h g = absurd (no_item params i x g h)
leaf_one params (Id i) (Err NoParameter) (Ok x) h g = absurd (no_item params i x h g)
leaf_one params (Id i) (Err NoParameter) (Err NoParameter) h g = refl
leaf_one params (Id i) (Err NotDyadic) y h g = absurd h
leaf_one params (Id i) (Ok x) (Err NotDyadic) h g = absurd g
leaf_one params (Id i) (Err NoParameter) (Err NotDyadic) h g = absurd g
leaf_one params (Id i) (Err AngleRange) y h g = absurd h
leaf_one params (Id i) (Ok x) (Err AngleRange) h g = absurd g
leaf_one params (Id i) (Err NoParameter) (Err AngleRange) h g = absurd g
leaf_one params (Id i) (Err Function) y h g = absurd h
leaf_one params (Id i) (Ok x) (Err Function) h g = absurd g
leaf_one params (Id i) (Err NoParameter) (Err Function) h g = absurd g
leaf_one params (Id i) (Err ByZero) y h g = absurd h
leaf_one params (Id i) (Ok x) (Err ByZero) h g = absurd g
leaf_one params (Id i) (Err NoParameter) (Err ByZero) h g = absurd g
leaf_one params (Id i) (Err Memory) y h g = absurd h
leaf_one params (Id i) (Ok x) (Err Memory) h g = absurd g
leaf_one params (Id i) (Err NoParameter) (Err Memory) h g = absurd g
leaf_one params Func (Err Function) (Err Function) h g = refl
leaf_one params Func (Ok x) y h g = absurd h
leaf_one params Func (Err Function) (Ok y) h g = absurd g
leaf_one params Func (Err NotDyadic) y h g = absurd h
leaf_one params Func (Err Function) (Err NotDyadic) h g = absurd g
leaf_one params Func (Err AngleRange) y h g = absurd h
leaf_one params Func (Err Function) (Err AngleRange) h g = absurd g
leaf_one params Func (Err NoParameter) y h g = absurd h
leaf_one params Func (Err Function) (Err NoParameter) h g = absurd g
leaf_one params Func (Err ByZero) y h g = absurd h
leaf_one params Func (Err Function) (Err ByZero) h g = absurd g
leaf_one params Func (Err Memory) y h g = absurd h
leaf_one params Func (Err Function) (Err Memory) h g = absurd g
leaf_one params Neg x y h g = absurd h
leaf_one params Add x y h g = absurd h
leaf_one params Sub x y h g = absurd h
leaf_one params Mul x y h g = absurd h
leaf_one params Div x y h g = absurd h
leaf_one params Pow x y h g = absurd h

joined_one : (op : Op) (a b : Pair) → Single (JoinedIs op a b)
joined_one Add a b x y h g = sum_one a b x y h g
joined_one Sub a b x y h g = difference_one a b x y h g
joined_one Mul a b x y h g = product_one a b x y h g
joined_one Div a b x y h g = quotient_one a b x y h g
joined_one Pow a b x y h g = power_one a b x y h g
joined_one (Number d t) a b x y h g = absurd h
joined_one Pi a b x y h g = absurd h
joined_one (Id i) a b x y h g = absurd h
joined_one Neg a b x y h g = absurd h
joined_one Func a b x y h g = absurd h

same_value : (x y : Pair) → ◌≡◌ {A = Result Pair AngleFault} (Ok x) (Ok y) → x ≡ y
same_value x y e = cc

no_fault : {P : Type 0} (x : Pair) (f : AngleFault) → ◌≡◌ {A = Result Pair AngleFault} (Ok x) (Err f) → P
no_fault x f e = absurd (cc)

values_one : (params : List Pair) (t : Tree) → Single (Values params t)
values_one params (leaf op w) x y (leaf_is h) (leaf_is g) = leaf_one params op x y h g
values_one params (one op w a) x y (one_is {x = u} {z = z} h n) (one_is {x = v} {z = q} g m) =
    let e : u ≡ v = same_value u v (values_one params a (Ok u) (Ok v) h g) in
    ap Ok (negation_one u z q n (subst (λ i. IsNegation i q) (sym e) m))
values_one params (one op w a) x y (one_is {x = u} h n) (one_fault {f = f} g) = no_fault u f (values_one params a (Ok u) (Err f) h g)
values_one params (one op w a) x y (one_fault {f = f} g) (one_is {x = u} h n) = no_fault u f (values_one params a (Ok u) (Err f) h g)
values_one params (one op w a) x y (one_fault {f = f} h) (one_fault {f = e} g) = values_one params a (Err f) (Err e) h g
values_one params (two op w a b) x y (two_is {x = u} {y = v} h k j) (two_is {x = p} {y = q} g l i) =
    let e : u ≡ p = same_value u p (values_one params a (Ok u) (Ok p) h g) in
    let f : v ≡ q = same_value v q (values_one params b (Ok v) (Ok q) k l) in
    joined_one op u v x y j (subst (λ z. JoinedIs op z v y) (sym e) (subst (λ z. JoinedIs op p z y) (sym f) i))
values_one params (two op w a b) x y (two_is {x = u} h k j) (left_fault {f = f} g) = no_fault u f (values_one params a (Ok u) (Err f) h g)
values_one params (two op w a b) x y (two_is {y = v} h k j) (right_fault {f = f} g l) = no_fault v f (values_one params b (Ok v) (Err f) k l)
values_one params (two op w a b) x y (left_fault {f = f} g) (two_is {x = u} h k j) = no_fault u f (values_one params a (Ok u) (Err f) h g)
values_one params (two op w a b) x y (left_fault {f = f} h) (left_fault {f = e} g) = values_one params a (Err f) (Err e) h g
values_one params (two op w a b) x y (left_fault {f = f} g) (right_fault {x = u} h k) = no_fault u f (values_one params a (Ok u) (Err f) h g)
values_one params (two op w a b) x y (right_fault {f = f} g l) (two_is {y = v} h k j) = no_fault v f (values_one params b (Ok v) (Err f) k l)
values_one params (two op w a b) x y (right_fault {x = u} h k) (left_fault {f = f} g) = no_fault u f (values_one params a (Ok u) (Err f) h g)
values_one params (two op w a b) x y (right_fault {f = f} h k) (right_fault {f = e} g l) = values_one params b (Err f) (Err e) k l

pub only_value : (params : List Pair) (t : Tree) (r : Result Pair AngleFault) → Told r (Values params t) → Told r (λ a. (s : Result Pair AngleFault) → Values params t s → s ≡ a)
only_value params t (Ok x) h = λ s g. values_one params t s (Ok x) g h
only_value params t (Err Memory) h = tt
only_value params t (Err NotDyadic) h = λ s g. values_one params t s (Err NotDyadic) g h
only_value params t (Err AngleRange) h = λ s g. values_one params t s (Err AngleRange) g h
only_value params t (Err NoParameter) h = λ s g. values_one params t s (Err NoParameter) g h
only_value params t (Err Function) h = λ s g. values_one params t s (Err Function) g h
only_value params t (Err ByZero) h = λ s g. values_one params t s (Err ByZero) g h
