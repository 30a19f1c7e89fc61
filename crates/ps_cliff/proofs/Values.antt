-- Functions of assignments that a quadratic phase, or an affine polynomial, gives.
use Rattle.std.proofs.Common.{◌≡◌, ◌≢◌, ℕ, zero, suc, ◌+◌, ◌*◌, ◌%◌, refl, ap, ap₂, sym, ◌∙◌, subst, arith, ◌<◌, ◌≤◌, Bool, true, false, ◌&&◌, List, [], ◌∷◌, ◌⊎◌, inl, inr}
use Rattle.std.proofs.lemmas.Bool.{cases_lt, cases_eq}
use Rattle.ps_ring.specs.Readings.{Assignment}
use Rattle.ps_mono.specs.Sets.{holds, IsVarSet}
use Rattle.ps_mono.specs.Truth.{times, differ}
use Rattle.ps_mono.proofs.Laws.{climbing_set, set_all_below}
use Rattle.ps_bool.specs.Polys.{bool_value, Each, IsPoly, AllSets}
use Rattle.ps_bool.specs.Merging.{merge}
use Rattle.ps_bool.proofs.Merges.{merge_value, merge_each, merge_poly}
use Rattle.ps_bool.proofs.Laws.{bool_value-var, bool_value-one}
use Rattle.ps_bool.proofs.Unique.{one_form}
use Rattle.ps_phase.specs.declared.terms.Term.{Term}
use Rattle.ps_phase.specs.Phases.{phase_value, IsPhasePoly}
use Rattle.ps_phase.specs.Adding.{put_term, add_terms}
use Rattle.ps_phase.proofs.Adding.{add_value, add_form, put_form, put_value}
use Rattle.ps_phase.proofs.Unique.{same_terms}
use Rattle.ps_overlap.specs.Overlapping.{EachTerm}
use Rattle.ps_cliff.specs.Quadratics.{IsQuadraticTerm, IsLinear}
use Rattle.ps_cliff.proofs.Adding.{add_quadratic, put_quadratic}

-- the values of a quadratic phase, up to whole turns
pub record Turns (F : Assignment → ℕ) : Type 0 where
  pub terms : List Term
  pub form : IsPhasePoly terms
  pub quadratic : EachTerm IsQuadraticTerm terms
  pub value : (a : Assignment) → phase_value terms a % 4294967296 ≡ F a % 4294967296

-- the values of an affine polynomial
pub record Parity (f : Assignment → Bool) : Type 0 where
  pub monos : List (List ℕ)
  pub form : IsPoly monos
  pub linear : Each IsLinear monos
  pub value : (a : Assignment) → bool_value monos a ≡ f a

-- ---- sums
pub turns_same : (F G : Assignment → ℕ) → ((a : Assignment) → F a % 4294967296 ≡ G a % 4294967296) → Turns F → Turns G
turns_same F G e t = record { terms = t.terms; form = t.form; quadratic = t.quadratic; value = λ a. t.value a ∙ e a }

pub turns_add : (F G : Assignment → ℕ) → Turns F → Turns G → Turns (λ a. F a + G a)
turns_add F G t u = record {
  terms = add_terms t.terms u.terms;
  form = add_form t.terms u.terms t.form u.form;
  quadratic = add_quadratic t.terms u.terms t.quadratic u.quadratic;
  value = λ a. let s = add_value t.terms u.terms a in let l = t.value a in let r = u.value a in omega arith;
}

no_term : (a : Assignment) → phase_value [] a % 4294967296 ≡ 0
unfolding phase_value
no_term a = refl

turns_none : Turns (λ a. 0)
turns_none = record { terms = []; form = tt; quadratic = tt; value = no_term }

suc_times : (n x : ℕ) → suc n * x ≡ x + n * x
suc_times n x = grind arith

pub turns_scale : (n : ℕ) (F : Assignment → ℕ) → Turns F → Turns (λ a. n * F a)
turns_scale zero F t = turns_same (λ a. 0) (λ a. 0 * F a) (λ a. omega arith) turns_none
turns_scale (suc n) F t = turns_same (λ a. F a + n * F a) (λ a. suc n * F a) (λ a. ap (λ k. k % 4294967296) (sym (suc_times n (F a)))) (turns_add F (λ a. n * F a) t (turns_scale n F t))

pub parity_same : (f g : Assignment → Bool) → ((a : Assignment) → f a ≡ g a) → Parity f → Parity g
parity_same f g e p = record { monos = p.monos; form = p.form; linear = p.linear; value = λ a. p.value a ∙ e a }

pub parity_add : (f g : Assignment → Bool) → Parity f → Parity g → Parity (λ a. differ (f a) (g a))
parity_add f g p q = record {
  monos = merge p.monos q.monos;
  form = merge_poly p.monos q.monos p.form q.form;
  linear = merge_each IsLinear p.monos q.monos p.linear q.linear;
  value = λ a. merge_value p.monos q.monos a ∙ ap₂ differ (p.value a) (q.value a);
}

-- ---- one term
no_more : (a : Assignment) → phase_value [] a ≡ 0
unfolding phase_value
no_more a = refl

-- a set of variables that turns by so much
turns_put : (m : List ℕ) (p : ℕ) → IsVarSet m → (p % 4294967296 ≢ 0 → IsQuadraticTerm (record { mono = m; phase = p % 4294967296 })) → Turns (λ a. times (holds m a) p)
unfolding times
turns_put m p s q = record {
  terms = put_term m (p % 4294967296) [];
  form = put_form m (p % 4294967296) [] s (omega arith) tt tt;
  quadratic = put_quadratic m (p % 4294967296) [] q tt;
  value = λ a. ap (λ k. k % 4294967296) (put_value m (p % 4294967296) [] a) ∙ worth (holds m a) (phase_value [] a) (no_more a);
}
  where
    worth : (b : Bool) (r : ℕ) → r ≡ 0 → (times b (p % 4294967296) + r) % 4294967296 ≡ times b p % 4294967296
    worth true r z = omega arith
    worth false r z = omega arith

pub turns_constant : (p : ℕ) → Turns (λ a. p)
unfolding holds times
turns_constant p = turns_same (λ a. times (holds [] a) p) (λ a. p) (λ a. refl) (turns_put [] p (climbing_set [] tt tt) (λ d. record { degree = omega arith; quarters = λ o. absurd (omega arith); halves = λ o. absurd (omega arith) }))

-- one variable by a quarter
turns_one : (v : ℕ) → v < 512 → Turns (λ a. times (a v && true) 1073741824)
unfolding holds
turns_one v l = turns_put (v ∷ []) 1073741824 (climbing_set (v ∷ []) (tt, tt) (l, tt)) (λ d. record { degree = omega arith; quarters = λ o. refl; halves = λ o. absurd (omega arith) })

-- two variables by half a turn
turns_two : (u v : ℕ) → u < v → v < 512 → Turns (λ a. times (a u && (a v && true)) 2147483648)
unfolding holds
turns_two u v l b = turns_put (u ∷ v ∷ []) 2147483648 (climbing_set (u ∷ v ∷ []) ((l, tt), (tt, tt)) (omega arith, (b, tt))) (λ d. record { degree = omega arith; quarters = λ o. absurd (omega arith); halves = λ o. refl })

-- one variable by half a turn
turns_half : (v : ℕ) → v < 512 → Turns (λ a. times (a v && true) 2147483648)
unfolding holds
turns_half v l = turns_put (v ∷ []) 2147483648 (climbing_set (v ∷ []) (tt, tt) (l, tt)) (λ d. record { degree = omega arith; quarters = λ o. refl; halves = λ o. absurd (omega arith) })

bool_one : (m : List ℕ) (a : Assignment) → bool_value (m ∷ []) a ≡ holds m a
unfolding bool_value differ
bool_one m a = by (holds m a)
  where
    by : (b : Bool) → differ b false ≡ b
    by true = refl
    by false = refl

-- ---- products
-- a set of at most one variable has none, or one that is below 512
data Short (m : List ℕ) : Type 0 where
  empty : m ≡ [] → Short m
  single : (v : ℕ) → v < 512 → m ≡ v ∷ [] → Short m

short : (m : List ℕ) → IsVarSet m → IsLinear m → Short m
short [] s l = empty refl
short (v ∷ []) s l = single v (set_all_below (v ∷ []) s).0 refl
short (v ∷ u ∷ m) s l = absurd (omega arith)

and_true : (x : Bool) → (x && true) ≡ x
and_true true = refl
and_true false = refl

twice : (x : Bool) → (x && x) ≡ x
twice true = refl
twice false = refl

swapped : (x y : Bool) → (x && y) ≡ (y && x)
swapped true true = refl
swapped true false = refl
swapped false true = refl
swapped false false = refl

turns_where : (f g : Assignment → Bool) (p : ℕ) → ((a : Assignment) → f a ≡ g a) → Turns (λ a. times (f a) p) → Turns (λ a. times (g a) p)
turns_where f g p e t = turns_same (λ a. times (f a) p) (λ a. times (g a) p) (λ a. ap (λ b. times b p % 4294967296) (e a)) t

two_variables : (u v : ℕ) → u < 512 → v < 512 → Turns (λ a. times (a u && a v) 2147483648)
two_variables u v lu lv = by (cases_lt u v)
  where
    above : v ≤ u → ((u ≡ v) ⊎ (u ≢ v)) → Turns (λ a. times (a u && a v) 2147483648)
    above o (inl e) = turns_where (λ a. a v && true) (λ a. a u && a v) 2147483648 (λ a. and_true (a v) ∙ sym (ap (λ w. a w && a v) e ∙ twice (a v))) (turns_half v lv)
    above o (inr d) = let l : v < u = omega arith in turns_where (λ a. a v && (a u && true)) (λ a. a u && a v) 2147483648 (λ a. ap (λ b. a v && b) (and_true (a u)) ∙ swapped (a v) (a u)) (turns_two v u l lu)

    by : ((u < v) ⊎ (v ≤ u)) → Turns (λ a. times (a u && a v) 2147483648)
    by (inl l) = turns_where (λ a. a u && (a v && true)) (λ a. a u && a v) 2147483648 (λ a. ap (λ b. a u && b) (and_true (a v))) (turns_two u v l lv)
    by (inr l) = above l (cases_eq u v)

two_monos : (m k : List ℕ) → Short m → Short k → Turns (λ a. times (holds m a && holds k a) 2147483648)
unfolding holds times
two_monos m k (empty e) (empty d) = turns_where (λ a. true) (λ a. holds m a && holds k a) 2147483648 (λ a. ap₂ (λ (x y : List ℕ). holds x a && holds y a) (sym e) (sym d)) (turns_constant 2147483648)
two_monos m k (empty e) (single v l d) = turns_where (λ a. a v && true) (λ a. holds m a && holds k a) 2147483648 (λ a. ap₂ (λ (x y : List ℕ). holds x a && holds y a) (sym e) (sym d)) (turns_half v l)
two_monos m k (single u l e) (empty d) = turns_where (λ a. a u && true) (λ a. holds m a && holds k a) 2147483648 (λ a. sym (and_true (a u && true)) ∙ ap₂ (λ (x y : List ℕ). holds x a && holds y a) (sym e) (sym d)) (turns_half u l)
two_monos m k (single u lu e) (single v lv d) = turns_where (λ a. a u && a v) (λ a. holds m a && holds k a) 2147483648 (λ a. ap₂ (λ (x y : Bool). x && y) (sym (and_true (a u))) (sym (and_true (a v))) ∙ ap₂ (λ (x y : List ℕ). holds x a && holds y a) (sym e) (sym d)) (two_variables u v lu lv)

times_off : (p : Bool) (c : ℕ) → times (p && false) c ≡ 0
unfolding times
times_off true c = refl
times_off false c = refl

split_right : (p q r : Bool) → (times (p && q) 2147483648 + times (p && r) 2147483648) % 4294967296 ≡ times (p && differ q r) 2147483648 % 4294967296
unfolding times differ
split_right true true true = refl
split_right true true false = refl
split_right true false true = refl
split_right true false false = refl
split_right false q r = refl

split_left : (p q r : Bool) → (times (p && r) 2147483648 + times (q && r) 2147483648) % 4294967296 ≡ times (differ p q && r) 2147483648 % 4294967296
unfolding times differ
split_left true true true = refl
split_left true true false = refl
split_left true false true = refl
split_left true false false = refl
split_left false true true = refl
split_left false true false = refl
split_left false false true = refl
split_left false false false = refl

mono_polynomial : (m : List ℕ) (g : List (List ℕ)) → Short m → AllSets g → Each IsLinear g → Turns (λ a. times (holds m a && bool_value g a) 2147483648)
unfolding bool_value
mono_polynomial m [] s b l = turns_same (λ a. 0) (λ a. times (holds m a && false) 2147483648) (λ a. ap (λ k. k % 4294967296) (sym (times_off (holds m a) 2147483648))) (turns_constant 0)
mono_polynomial m (k ∷ g) s b l = turns_same (λ a. times (holds m a && holds k a) 2147483648 + times (holds m a && bool_value g a) 2147483648) _
    (λ a. split_right (holds m a) (holds k a) (bool_value g a))
    (turns_add (λ a. times (holds m a && holds k a) 2147483648) (λ a. times (holds m a && bool_value g a) 2147483648) (two_monos m k s (short k b.0 l.0)) (mono_polynomial m g s b.1 l.1))

two_polynomials : (f g : List (List ℕ)) → AllSets f → Each IsLinear f → AllSets g → Each IsLinear g → Turns (λ a. times (bool_value f a && bool_value g a) 2147483648)
unfolding bool_value times
two_polynomials [] g b l c k = turns_same (λ a. 0) (λ a. 0) (λ a. refl) (turns_constant 0)
two_polynomials (m ∷ f) g b l c k = turns_same (λ a. times (holds m a && bool_value g a) 2147483648 + times (bool_value f a && bool_value g a) 2147483648) _
    (λ a. split_left (holds m a) (bool_value f a) (bool_value g a))
    (turns_add (λ a. times (holds m a && bool_value g a) 2147483648) (λ a. times (bool_value f a && bool_value g a) 2147483648) (mono_polynomial m g (short m b.0 l.0) c k) (two_polynomials f g b.1 l.1 c k))

-- half a turn where both are true
pub turns_both : (f g : Assignment → Bool) → Parity f → Parity g → Turns (λ a. times (f a && g a) 2147483648)
turns_both f g p q = turns_where (λ a. bool_value p.monos a && bool_value q.monos a) (λ a. f a && g a) 2147483648 (λ a. ap₂ (λ (x y : Bool). x && y) (p.value a) (q.value a))
    (two_polynomials p.monos q.monos p.form.sets p.linear q.form.sets q.linear)

-- ---- quarters
split_quarter : (p q : Bool) → (times p 1073741824 + times q 1073741824 + times (p && q) 2147483648) % 4294967296 ≡ times (differ p q) 1073741824 % 4294967296
unfolding times differ
split_quarter true true = refl
split_quarter true false = refl
split_quarter false true = refl
split_quarter false false = refl

quarter_mono : (m : List ℕ) → Short m → Turns (λ a. times (holds m a) 1073741824)
unfolding holds times
quarter_mono m (empty e) = turns_where (λ a. true) (λ a. holds m a) 1073741824 (λ a. ap (λ (x : List ℕ). holds x a) (sym e)) (turns_constant 1073741824)
quarter_mono m (single v l e) = turns_where (λ a. a v && true) (λ a. holds m a) 1073741824 (λ a. ap (λ (x : List ℕ). holds x a) (sym e)) (turns_one v l)

quarter_polynomial : (f : List (List ℕ)) → AllSets f → Each IsLinear f → Turns (λ a. times (bool_value f a) 1073741824)
unfolding bool_value times
quarter_polynomial [] b l = turns_same (λ a. 0) (λ a. 0) (λ a. refl) (turns_constant 0)
quarter_polynomial (m ∷ f) b l = turns_same (λ a. times (holds m a) 1073741824 + times (bool_value f a) 1073741824 + times (holds m a && bool_value f a) 2147483648) _
    (λ a. split_quarter (holds m a) (bool_value f a))
    (turns_add (λ a. times (holds m a) 1073741824 + times (bool_value f a) 1073741824) (λ a. times (holds m a && bool_value f a) 2147483648)
    (turns_add (λ a. times (holds m a) 1073741824) (λ a. times (bool_value f a) 1073741824) (quarter_mono m (short m b.0 l.0)) (quarter_polynomial f b.1 l.1))
    (mono_polynomial m f (short m b.0 l.0) b.1 l.1))

-- a quarter where it is true
pub turns_quarter : (f : Assignment → Bool) → Parity f → Turns (λ a. times (f a) 1073741824)
turns_quarter f p = turns_where (bool_value p.monos) f 1073741824 p.value (quarter_polynomial p.monos p.form.sets p.linear)

-- ---- parities
pub parity_none : Parity (λ a. false)
unfolding bool_value
parity_none = record { monos = []; form = record { in_order = tt; sets = tt }; linear = tt; value = λ a. refl }

pub parity_mono : (m : List ℕ) → IsVarSet m → IsLinear m → Parity (holds m)
parity_mono m s l = record { monos = m ∷ []; form = record { in_order = (tt, tt); sets = (s, tt) }; linear = (l, tt); value = bool_one m }

pub parity_variable : (v : ℕ) → v < 512 → Parity (λ a. a v)
parity_variable v l = parity_same (holds (v ∷ [])) (λ a. a v) (λ a. sym (bool_one (v ∷ []) a) ∙ bool_value-var v a) (parity_mono (v ∷ []) (climbing_set (v ∷ []) (tt, tt) (l, tt)) (omega arith))

pub parity_constant : (b : Bool) → Parity (λ a. b)
parity_constant true = parity_same (holds []) (λ a. true) (λ a. sym (bool_one [] a) ∙ bool_value-one a) (parity_mono [] (climbing_set [] tt tt) (omega arith))
parity_constant false = parity_none

-- ---- the one form
pub turns_back : (ts : List Term) → IsPhasePoly ts → Turns (phase_value ts) → EachTerm IsQuadraticTerm ts
turns_back ts f t = subst (EachTerm IsQuadraticTerm) (same_terms t.terms ts t.form f t.value) t.quadratic

pub parity_back : (f : List (List ℕ)) → IsPoly f → Parity (bool_value f) → Each IsLinear f
parity_back f b p = subst (Each IsLinear) (one_form p.monos f p.form b p.value) p.linear
