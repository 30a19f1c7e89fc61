-- What the terms with a variable are worth, where all but one of them turn by half a turn.
use Rattle.std.proofs.Common.{◌≡◌, ◌≢◌, ℕ, zero, suc, ◌+◌, ◌%◌, refl, ap, ap₂, sym, ◌∙◌, subst, arith, ◌<◌, Bool, true, false, cond, not, ◌&&◌, nat_eq, List, [], ◌∷◌, length, get_or}
use mathlib.Core.Path.{fun_ext}
use Rattle.std.specs.Cmp.Lexicographic.{pointwise}
use Rattle.ps_mono.specs.Sets.{holds, stands}
use Rattle.ps_mono.specs.Lists.{nat_eq_true, nat_eq_same}
use Rattle.ps_mono.specs.Truth.{times, differ, with_value}
use Rattle.ps_mono.proofs.Truths.{holds_not}
use Rattle.ps_bool.specs.Polys.{bool_value, occurs}
use Rattle.ps_bool.proofs.Replacing.{holds_apart}
use Rattle.ps_bool.proofs.Laws.{bool_value-with_value}
use Rattle.ps_phase.specs.declared.terms.Term.{Term}
use Rattle.ps_phase.specs.Phases.{phase_value, phase_occurs, coefficient, TermBefore, IsPhasePoly}
use Rattle.ps_phase.proofs.Adding.{M, neither}
use Rattle.ps_phase.proofs.Values.{mono_eq, later_differs, coefficient_none}
use Rattle.ps_sum.specs.Outs.{values, outs_occur}
use Rattle.ps_rules.specs.Terms.{EachWith, IsHalf, others}

-- ---- assignments
pub with_same : (a : ℕ → Bool) (v : ℕ) (b : Bool) → a v ≡ b → with_value a v b ≡ a
with_same a v b e = fun_ext (λ u. by u (nat_eq u v) refl)
  where
    by : (u : ℕ) (t : Bool) → nat_eq u v ≡ t → cond t b (a u) ≡ a u
    by u true k = sym e ∙ ap a (sym (nat_eq_true u v k))
    by u false k = refl

-- assignments that agree but at v are one with a value put in there
pub with_agree : (a b : ℕ → Bool) (v : ℕ) (c : Bool) → ((u : ℕ) → u ≢ v → a u ≡ b u) → with_value a v c ≡ with_value b v c
with_agree a b v c h = fun_ext (λ u. by u (nat_eq u v) refl)
  where
    off : {t : Bool} → t ≡ true → t ≡ false → ⊥
    off e f = cc

    by : (u : ℕ) (t : Bool) → nat_eq u v ≡ t → cond t c (a u) ≡ cond t c (b u)
    by u true k = refl
    by u false k = h u (λ e. off (nat_eq_same v) (subst (λ (w : ℕ). nat_eq w v ≡ false) e k))

-- ---- a monomial with v
pub holds_with : (m : List ℕ) (v : ℕ) (a : ℕ → Bool) → stands v m ≡ true → holds m a ≡ (a v && holds m (with_value a v true))
holds_with m v a s = by (a v) refl
  where
    by : (b : Bool) → a v ≡ b → holds m a ≡ (b && holds m (with_value a v true))
    by true e = ap (holds m) (sym (with_same a v true e))
    by false e = holds_not m a v s e

pub holds_without : (m : List ℕ) (v : ℕ) (a : ℕ → Bool) → stands v m ≡ true → holds m (with_value a v false) ≡ false
holds_without m v a s = holds_not m (with_value a v false) v s (ap (λ (t : Bool). cond t false (a v)) (nat_eq_same v))

-- ---- one term after another
abbrev H : ℕ
H = 2147483648

apart_step : (x y z w : ℕ) → x % M ≡ (y + z) % M → (w + x) % M ≡ (w + y + z) % M
apart_step x y z w e = omega arith

same_step : (b h q : Bool) (x y p : ℕ) → x % M ≡ (y + times b (times h 0 + times q H)) % M → (times (b && h) p + x) % M ≡ (times false p + y + times b (times h p + times q H)) % M
unfolding times
same_step true true true x y p e = omega arith
same_step true true false x y p e = omega arith
same_step true false true x y p e = omega arith
same_step true false false x y p e = omega arith
same_step false h q x y p e = omega arith

half_step : (b k h q : Bool) (x y c : ℕ) → x % M ≡ (y + times b (times h c + times q H)) % M → (times (b && k) H + x) % M ≡ (times false H + y + times b (times h c + times (differ k q) H)) % M
unfolding times differ
half_step true true h true x y c e = omega arith
half_step true true h false x y c e = omega arith
half_step true false h true x y c e = omega arith
half_step true false h false x y c e = omega arith
half_step false k h q x y c e = omega arith

differs : (m : List ℕ) (v : ℕ) (t : Term) → stands v m ≡ true → stands v t.mono ≡ false → m ≡ t.mono → ⊥
differs m v t s n e = off (ap (stands v) (sym e) ∙ s) n
  where
    off : {b : Bool} → b ≡ true → b ≡ false → ⊥
    off e f = cc

none_later : (m : List ℕ) (ts : List Term) → TermBefore m ts → coefficient m ts ≡ 0
none_later m ts b = coefficient_none m ts (λ k d h e. later_differs m ts k _ b h (get_is ts k d h) e)
  where
    get_is : (ts : List Term) (k : ℕ) (d : Term) → k < length ts → get_or ts k d ≡ get_or ts k (get_or ts k d)
    get_is [] k d h = absurd (omega arith)
    get_is (t ∷ ts) zero d h = refl
    get_is (t ∷ ts) (suc k) d h = get_is ts k d (omega arith)

-- where each term with v but that of m is half a turn
pub split_at : (v : ℕ) (m : List ℕ) (ts : List Term) → IsPhasePoly ts → stands v m ≡ true → EachWith v (λ t. t.mono ≢ m → IsHalf t) ts → (a : ℕ → Bool)
    → phase_value ts a % M ≡ (phase_value ts (with_value a v false) + times (a v) (times (holds m (with_value a v true)) (coefficient m ts) + times (bool_value (others v m ts) (with_value a v true)) H)) % M
unfolding phase_value coefficient others bool_value times
split_at v m [] p s h a = by (a v) (holds m (with_value a v true))
  where
    by : (b k : Bool) → 0 % M ≡ (0 + times b (times k 0 + times false H)) % M
    by true true = refl
    by true false = refl
    by false k = refl
split_at v m (t ∷ ts) p s h a = by (stands v t.mono) refl (pointwise nat_eq m t.mono) refl (split_at v m ts p.2 s h.1 a)
  where
    a1 : ℕ → Bool
    a1 = with_value a v true

    a0 : ℕ → Bool
    a0 = with_value a v false

    by : (q : Bool) → stands v t.mono ≡ q → (w : Bool) → pointwise nat_eq m t.mono ≡ w
        → phase_value ts a % M ≡ (phase_value ts a0 + times (a v) (times (holds m a1) (coefficient m ts) + times (bool_value (others v m ts) a1) H)) % M
        → (times (holds t.mono a) t.phase + phase_value ts a) % M
        ≡ (times (holds t.mono a0) t.phase + phase_value ts a0 + times (a v) (times (holds m a1) (cond w t.phase (coefficient m ts)) + times (bool_value (cond (q && not w) (t.mono ∷ others v m ts) (others v m ts)) a1) H)) % M
    by false e true f r = absurd (differs m v t s e ((mono_eq m t.mono).0 f))
    by false e false f r =
        ap (λ (b : Bool). (times b t.phase + phase_value ts a) % M) (sym (holds_apart t.mono v a false e))
        ∙ apart_step (phase_value ts a) (phase_value ts a0) _ (times (holds t.mono a0) t.phase) r
    by true e true f r =
        let d : m ≡ t.mono = (mono_eq m t.mono).0 f in
        let n : coefficient m ts ≡ 0 = none_later m ts (subst (λ (x : List ℕ). TermBefore x ts) (sym d) p.1) in
        ap (λ (b : Bool). (times b t.phase + phase_value ts a) % M) (holds_with t.mono v a e ∙ ap (λ (x : List ℕ). a v && holds x a1) (sym d))
        ∙ same_step (a v) (holds m a1) (bool_value (others v m ts) a1) (phase_value ts a) (phase_value ts a0) t.phase (r ∙ ap (λ (c : ℕ). (phase_value ts a0 + times (a v) (times (holds m a1) c + times (bool_value (others v m ts) a1) H)) % M) n)
        ∙ ap (λ (b : Bool). (times b t.phase + phase_value ts a0 + times (a v) (times (holds m a1) t.phase + times (bool_value (others v m ts) a1) H)) % M) (sym (holds_without t.mono v a e))
    by true e false f r =
        let u : t.phase ≡ H = h.0 e (λ k. no_more (sym ((mono_eq m t.mono).1 (sym k)) ∙ f)) in
        ap (λ (b : Bool). (times b t.phase + phase_value ts a) % M) (holds_with t.mono v a e)
        ∙ ap (λ (c : ℕ). (times (a v && holds t.mono a1) c + phase_value ts a) % M) u
        ∙ half_step (a v) (holds t.mono a1) (holds m a1) (bool_value (others v m ts) a1) (phase_value ts a) (phase_value ts a0) (coefficient m ts) r
        ∙ ap (λ (c : ℕ). (times false c + phase_value ts a0 + times (a v) (times (holds m a1) (coefficient m ts) + times (differ (holds t.mono a1) (bool_value (others v m ts) a1)) H)) % M) (sym u)
        ∙ ap (λ (b : Bool). (times b t.phase + phase_value ts a0 + times (a v) (times (holds m a1) (coefficient m ts) + times (differ (holds t.mono a1) (bool_value (others v m ts) a1)) H)) % M) (sym (holds_without t.mono v a e))
      where
        no_more : true ≡ false → ⊥
        no_more k = cc

-- ---- where v does not stand
pub phase_apart : (v : ℕ) (ts : List Term) (a : ℕ → Bool) (b : Bool) → phase_occurs v ts ≡ false → phase_value ts (with_value a v b) ≡ phase_value ts a
unfolding phase_value phase_occurs
phase_apart v [] a b n = refl
phase_apart v (t ∷ ts) a b n =
    let k = neither (stands v t.mono) (phase_occurs v ts) n in
    ap₂ (λ (x : Bool) (y : ℕ). times x t.phase + y) (holds_apart t.mono v a b k.0) (phase_apart v ts a b k.1)

pub values_apart : (v : ℕ) (fs : List (List (List ℕ))) (a : ℕ → Bool) (b : Bool) → outs_occur v fs ≡ false → values fs (with_value a v b) ≡ values fs a
unfolding values outs_occur
values_apart v [] a b n = refl
values_apart v (f ∷ fs) a b n =
    let k = neither (occurs v f) (outs_occur v fs) n in
    ap₂ (λ (x : Bool) (y : List Bool). x ∷ y) (bool_value-with_value f v a b k.0) (values_apart v fs a b k.1)
