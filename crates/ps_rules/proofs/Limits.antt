-- A step passes the limit with one number, or not at all.
use Rattle.std.proofs.Common.{◌≡◌, ℕ, zero, suc, ◌+◌, ◌%◌, ◌^◌, refl, ap, sym, ◌∙◌, subst, arith, ◌<◌, ◌≤◌, Bool, true, false, cond, List, [], ◌∷◌, ◌++◌, length, take, get_or, map, min, add-zero, length-append, ◌⊎◌, inl, inr, Option, Some, None, MatchOption}
use Rattle.std.proofs.lemmas.Bool.{cases_lt}
use Rattle.std.proofs.lemmas.List.{take_more, take_all}
use Rattle.ps_mono.specs.Sets.{stands}
use Rattle.ps_mono.specs.Truth.{differ}
use Rattle.ps_phase.specs.declared.terms.Term.{Term}
use Rattle.ps_phase.specs.Adding.{terms_where, terms_without}
use Rattle.ps_sum.specs.Counts.{binomial, subsets, raw_term}
use Rattle.ps_sum.proofs.Counting.{Power, raw_is, binomial_zero}
use Rattle.ps_rules.specs.Plans.{IsFirstTold}
use Rattle.ps_bool.proofs.Unique.{one_form}
use Rattle.ps_sum.specs.declared.sums.PathSum.{PathSum}
use Rattle.ps_sum.specs.declared.faults.Passed.{Passed}
use Rattle.ps_sum.specs.declared.faults.What.TheVariants.{Terms}
use Rattle.ps_rules.specs.declared.steps.Step.{Step}
use Rattle.ps_rules.specs.Rules.{IsStepPoly, FirstAbove, NoneAbove, StepPasses, StepFits, step_counts}

one_above : (xs : List ℕ) (c d : ℕ) → FirstAbove xs c → FirstAbove xs d → c ≡ d
one_above [] c d p q = absurd p
one_above (x ∷ xs) c d (inl p) (inl q) = p.1 ∙ sym q.1
one_above (x ∷ xs) c d (inl p) (inr q) = absurd (let a = p.0 in let b = q.0 in omega arith)
one_above (x ∷ xs) c d (inr p) (inl q) = absurd (let a = p.0 in let b = q.0 in omega arith)
one_above (x ∷ xs) c d (inr p) (inr q) = one_above xs c d p.1 q.1

not_within : (xs : List ℕ) (c : ℕ) → FirstAbove xs c → NoneAbove xs → ⊥
not_within [] c p q = p
not_within (x ∷ xs) c (inl p) q = let a = p.0 in let b = q.0 in omega arith
not_within (x ∷ xs) c (inr p) q = not_within xs c p.1 q.1

-- the step's polynomial is one
pub one_poly : (S : PathSum) (s : Step) (q r : List (List ℕ)) → IsStepPoly S s q → IsStepPoly S s r → q ≡ r
one_poly S s q r p t = one_form q r p.form t.form (λ a. p.value a ∙ sym (t.value a))

pub passes_once : (S : PathSum) (s : Step) (p r : Passed) → StepPasses S s p → StepPasses S s r → p ≡ r
passes_once S s p r (q, c, x) (t, d, y) =
    let e : length q ≡ length t = ap (λ (l : List (List ℕ)). length l) (one_poly S s q t x.poly y.poly) in
    let f : c ≡ d = one_above (step_counts S s (length t)) c d (subst (λ (n : ℕ). FirstAbove (step_counts S s n) c) e x.first) y.first in
    x.told ∙ ap (λ (n : ℕ). record { what = Terms; count = min n 1000000000000 }) f ∙ sym y.told

pub passes_not_fits : (S : PathSum) (s : Step) (p : Passed) → StepPasses S s p → StepFits S s → ⊥
passes_not_fits S s p (q, c, x) (t, y) =
    let e : length q ≡ length t = ap (λ (l : List (List ℕ)). length l) (one_poly S s q t x.poly y.poly) in
    not_within (step_counts S s (length t)) c (subst (λ (n : ℕ). FirstAbove (step_counts S s n) c) e x.first) y.within

-- ---- counts that are told as 10^12 where they are above that
abbrev CAP : ℕ
CAP = 1000000000000

pub told_first : (x : ℕ) (xs : List ℕ) (c : ℕ) → c ≡ min x CAP → 65536 < c → IsFirstTold (x ∷ xs) c
told_first x xs c e h = (x, inl ((omega arith), refl), e)

pub told_later : (x n : ℕ) (xs : List ℕ) (c : ℕ) → n ≡ min x CAP → n ≤ 65536 → IsFirstTold xs c → IsFirstTold (x ∷ xs) c
told_later x n xs c e h (k, p, q) = (k, inr ((omega arith), p), q)

pub none_later : (x n : ℕ) (xs : List ℕ) → n ≡ min x CAP → n ≤ 65536 → NoneAbove xs → NoneAbove (x ∷ xs)
none_later x n xs e h p = ((omega arith), p)

pub later : (r : Option ℕ) (x n : ℕ) (xs : List ℕ) → n ≡ min x CAP → n ≤ 65536 → MatchOption r (NoneAbove xs) (λ c. IsFirstTold xs c) → MatchOption r (NoneAbove (x ∷ xs)) (λ c. IsFirstTold (x ∷ xs) c)
later None x n xs e h p = none_later x n xs e h p
later (Some c) x n xs e h p = told_later x n xs c e h p

-- ---- the outputs
pub none_push : (f : List (List ℕ) → ℕ) (gs : List (List (List ℕ))) (g : List (List ℕ)) → f g ≤ 65536 → NoneAbove (map f gs) → NoneAbove (map f (gs ++ g ∷ []))
none_push f [] g h p = (h, tt)
none_push f (x ∷ gs) g h p = (p.0, none_push f gs g h p.1)

pub none_short : (f : List (List ℕ) → ℕ) (gs : List (List (List ℕ))) (i : ℕ) (g : List (List ℕ)) → i < length gs → g ≡ get_or gs i g → f g ≤ 65536 → NoneAbove (map f (take i gs)) → NoneAbove (map f (take (i + 1) gs))
none_short f gs i g h e l p = subst (λ (r : List (List (List ℕ))). NoneAbove (map f r)) (sym (take_more gs i g h ∙ ap (λ (r : List (List ℕ)). take i gs ++ r ∷ []) (sym e))) (none_push f (take i gs) g l p)

pub above_at : (f : List (List ℕ) → ℕ) (gs : List (List (List ℕ))) (i : ℕ) (g : List (List ℕ)) (n : ℕ) → i < length gs → g ≡ get_or gs i g → n ≡ min (f g) CAP → 65536 < n → NoneAbove (map f (take i gs)) → IsFirstTold (map f gs) n
above_at f gs i g n h e en l p = (f g, first gs i h e p, en)
  where
    first : (gs : List (List (List ℕ))) (i : ℕ) → i < length gs → g ≡ get_or gs i g → NoneAbove (map f (take i gs)) → FirstAbove (map f gs) (f g)
    first [] i h e p = absurd (omega arith)
    first (x ∷ gs) zero h e p = inl (subst (λ (y : List (List ℕ)). 65536 < f y) e (omega arith), ap f e)
    first (x ∷ gs) (suc i) h e p = inr (p.0, first gs i (omega arith) e p.1)

pub none_end : (f : List (List ℕ) → ℕ) (gs : List (List (List ℕ))) (i : ℕ) → length gs ≤ i → NoneAbove (map f (take i gs)) → NoneAbove (map f gs)
none_end f gs i h p = subst (λ (r : List (List (List ℕ))). NoneAbove (map f r)) (take_all i gs h) p

-- ---- the terms without a variable
without_push : (v : ℕ) (ts : List Term) (t : Term) → terms_where false v (ts ++ t ∷ []) ≡ terms_where false v ts ++ cond (stands v t.mono) [] (t ∷ [])
unfolding terms_where differ
without_push v [] t = by (stands v t.mono)
  where
    by : (b : Bool) → cond (differ false b) [] (t ∷ []) ≡ cond b [] (t ∷ [])
    by true = refl
    by false = refl
without_push v (x ∷ ts) t = by (differ false (stands v x.mono)) (without_push v ts t)
  where
    end : List Term
    end = cond (stands v t.mono) [] (t ∷ [])

    by : (q : Bool) → terms_where false v (ts ++ t ∷ []) ≡ terms_where false v ts ++ end → cond q (terms_where false v (ts ++ t ∷ [])) (x ∷ terms_where false v (ts ++ t ∷ [])) ≡ cond q (terms_where false v ts) (x ∷ terms_where false v ts) ++ end
    by true e = e
    by false e = ap (λ (r : List Term). x ∷ r) e

without_more : (v : ℕ) (ts : List Term) (i : ℕ) (t : Term) → i < length ts → t ≡ get_or ts i t → terms_where false v (take (i + 1) ts) ≡ terms_where false v (take i ts) ++ cond (stands v t.mono) [] (t ∷ [])
without_more v ts i t h e = ap (terms_where false v) (take_more ts i t h ∙ ap (λ (r : Term). take i ts ++ r ∷ []) (sym e)) ∙ without_push v (take i ts) t

pub kept_start : (w : ℕ) (ts : List Term) → 0 ≡ length (terms_without w (take 0 ts))
unfolding terms_where
kept_start w ts = refl

pub kept_more : (w : ℕ) (ts : List Term) (i n k : ℕ) (x : Term) (b : Bool) → i < length ts → x ≡ get_or ts i x → b ≡ stands w x.mono → ((b ≡ false) × (k ≡ n + 1)) ⊎ ((b ≡ true) × (k ≡ n)) → n ≡ length (terms_without w (take i ts)) → k ≡ length (terms_without w (take (i + 1) ts))
kept_more w ts i n k x b h e eb o en =
    each o ∙ ap (λ r. r + length (cond b [] (x ∷ []))) en ∙ sym (ap (λ (r : List Term). length r) (without_more w ts i x h e ∙ ap (λ c. terms_without w (take i ts) ++ cond c [] (x ∷ [])) (sym eb)) ∙ length-append (terms_without w (take i ts)) (cond b [] (x ∷ [])))
  where
    each : ((b ≡ false) × (k ≡ n + 1)) ⊎ ((b ≡ true) × (k ≡ n)) → k ≡ n + length (cond b [] (x ∷ []))
    each (inl p) = p.1 ∙ ap (λ c. n + length (cond c [] (x ∷ []))) (sym p.0)
    each (inr p) = p.1 ∙ sym (add-zero n) ∙ ap (λ c. n + length (cond c [] (x ∷ []))) (sym p.0)

pub kept_end : (w : ℕ) (ts : List Term) (i n : ℕ) → length ts ≤ i → n ≡ length (terms_without w (take i ts)) → n ≡ length (terms_without w ts)
kept_end w ts i n h e = e ∙ ap (λ (r : List Term). length (terms_without w r)) (take_all i ts h)

-- ---- a quarter of a turn makes t terms and each pair of them
high_power : (v : ℕ) → v ≤ 32 → 30 < v → 1073741824 % 2 ^ v ≡ 0 → ⊥
high_power v h k e = by (cases_lt v 32)
  where
    no : (w : ℕ) → v ≡ w → 1073741824 % 2 ^ w ≡ 0
    no w d = subst (λ (x : ℕ). 1073741824 % 2 ^ x ≡ 0) d e

    never : (n : ℕ) → n ≡ 1073741824 → n ≡ 0 → ⊥
    never n p q = omega arith

    by : ((v < 32) ⊎ (32 ≤ v)) → ⊥
    by (inl l) = never 1073741824 refl (no 31 (omega arith))
    by (inr l) = never 1073741824 refl (no 32 (omega arith))

quarter_power : Power 1073741824 30
quarter_power = record { at_most = omega arith; divides = refl; greatest = λ v h e. least v h e (cases_lt 30 v) }
  where
    least : (v : ℕ) → v ≤ 32 → 1073741824 % 2 ^ v ≡ 0 → ((30 < v) ⊎ (v ≤ 30)) → v ≤ 30
    least v h e (inl l) = absurd (high_power v h l e)
    least v h e (inr l) = l

one_of : (t : ℕ) → binomial t 1 ≡ t
unfolding binomial
one_of zero = refl
one_of (suc t) = omega (arith, one_of t, binomial_zero t)

two_of : (t : ℕ) → binomial t 1 ≡ t → subsets t 2 ≡ t + binomial t 2
unfolding subsets
two_of t o = omega arith

few : (t : ℕ) → subsets t (min 2 t) ≡ t + binomial t 2
unfolding subsets binomial
few zero = refl
few (suc zero) = refl
few (suc (suc t)) =
    let m : min 2 (suc (suc t)) ≡ 2 = omega arith in
    let o : binomial (suc (suc t)) 1 ≡ suc (suc t) = one_of (suc (suc t)) in
    ap (subsets (suc (suc t))) m ∙ two_of (suc (suc t)) o

pub pairs_of : (t : ℕ) → raw_term 1073741824 t ≡ t + binomial t 2
pairs_of t = raw_is 1073741824 t 30 (min 2 t) quarter_power refl ∙ few t

pub omega_told : (k m n t c : ℕ) → m ≡ min k CAP → n ≡ min (raw_term 1073741824 t) CAP → c ≡ min (m + 1 + n) CAP → c ≡ min (k + 1 + t + binomial t 2) CAP
omega_told k m n t c em en ec = let q = pairs_of t in omega arith

-- what the call counts
pub omega_count : (v q t n m k c : ℕ) (ts p : List Term) → ts ≡ p → k ≡ length (terms_without v ts) → m ≡ min k CAP → q ≡ 1073741824 → n ≡ min (raw_term q t) CAP → c ≡ min (m + 1 + n) CAP → c ≡ min (length (terms_without v p) + 1 + t + binomial t 2) CAP
omega_count v q t n m k c ts p e ek em eq en ec =
    omega_told (length (terms_without v p)) m n t c (em ∙ ap (λ r. min r CAP) (ek ∙ ap (λ (r : List Term). length (terms_without v r)) e)) (en ∙ ap (λ r. min (raw_term r t) CAP) eq) ec
