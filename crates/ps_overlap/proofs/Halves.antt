-- One pass over the terms tells which path variables vanish.
use Rattle.std.proofs.Common.{◌≡◌, ◌≢◌, ℕ, zero, suc, ◌+◌, ◌-◌, refl, ap, ap₂, sym, ◌∙◌, subst, arith, ◌<◌, ◌≤◌, Bool, true, false, not, ◌&&◌, ◌||◌, cond, nat_eq, nat_lt, IsTrue, List, [], ◌∷◌, ◌++◌, length, take, get_or, ◌⊎◌, inl, inr}
use Rattle.std.proofs.lemmas.Bool.Decides.{nat_tests}
use Rattle.std.proofs.lemmas.Bool.{cases_eq, cases_lt}
use Rattle.std.proofs.lemmas.List.{take_more, take_all}
use Rattle.ps_mono.specs.Sets.{stands, holds, IsVarSet, Above, Climbing, Below}
use Rattle.ps_mono.specs.Lists.{nat_eq_same, nat_eq_other, nat_eq_true}
use Rattle.ps_mono.specs.Truth.{differ}
use Rattle.ps_mono.proofs.Laws.{set_climbing, holds_at}
use Rattle.ps_mono.proofs.Truths.{holds_all}
use Rattle.ps_phase.specs.declared.terms.Term.{Term}
use Rattle.ps_phase.specs.Phases.{phase_occurs}
use Rattle.ps_phase.specs.Adding.{terms_where, terms_with}
use Rattle.ps_phase.proofs.Values.{free_push}
use Rattle.ps_sum.specs.declared.sums.PathSum.{PathSum}
use Rattle.ps_overlap.specs.Overlapping.{EachTerm, divided, path_terms, Vanishes, NoneVanishes}
use Rattle.ps_overlap.specs.Terms.{IsHalfAtInputs, Looked}
use Rattle.ps_overlap.proofs.Dividing.{stands_divided}
use Rattle.ps_overlap.proofs.Quotients.{below_stands}
use Rattle.ps_overlap.proofs.Moved.{stands_at}

clash : {b : Bool} → b ≡ true → b ≡ false → ⊥
clash e f = cc

pub never : IsTrue false → ⊥
never e = cc

-- ---- one term
pub none_stands : (m : List ℕ) (v : ℕ) → length m ≡ 0 → stands v m ≡ true → ⊥
unfolding stands
none_stands [] v e h = cc
none_stands (u ∷ m) v e h = omega arith

above_last : (v : ℕ) (m : List ℕ) (i u : ℕ) → Above v m → i < length m → u ≡ get_or m i 0 → v < u
above_last v [] i u a h e = absurd (omega arith)
above_last v (w ∷ m) zero u a h e = let l : v < w = a.0 in let d : u ≡ w = e in omega arith
above_last v (w ∷ m) (suc i) u a h e = above_last v m i u a.1 (omega arith) e

-- the last of an ascending list is the greatest
greatest : (m : List ℕ) (v last : ℕ) → Climbing m → last ≡ get_or m (length m - 1) 0 → stands v m ≡ true → v ≤ last
unfolding stands
greatest [] v last c e h = cc
greatest (u ∷ []) v last c e h = by (nat_eq v u) refl h
  where
    by : (t : Bool) → nat_eq v u ≡ t → (t || false) ≡ true → v ≤ last
    by true d k = let q : v ≡ u = nat_eq_true v u d in let r : last ≡ u = e in omega arith
    by false d k = cc
greatest (u ∷ w ∷ m) v last c e h = by (nat_eq v u) refl h (greatest (w ∷ m) v last c.1 e')
  where
    e' : last ≡ get_or (w ∷ m) (length (w ∷ m) - 1) 0
    e' = let d : length (u ∷ w ∷ m) - 1 ≡ suc (length (w ∷ m) - 1) = omega arith in e ∙ ap (λ (k : ℕ). get_or (u ∷ w ∷ m) k 0) d

    by : (t : Bool) → nat_eq v u ≡ t → (t || stands v (w ∷ m)) ≡ true → (stands v (w ∷ m) ≡ true → v ≤ last) → v ≤ last
    by true d k ih = let q : v ≡ u = nat_eq_true v u d in let l = above_last u (w ∷ m) (length (w ∷ m) - 1) last c.0 (omega arith) e' in omega arith
    by false d k ih = ih k

below_from : (n : ℕ) (m : List ℕ) → ((u : ℕ) → stands u m ≡ true → u < n) → Below n m
unfolding stands
below_from n [] h = tt
below_from n (w ∷ m) h = (h w (ap (λ b. b || stands w m) (nat_eq_same w)), below_from n m (λ u s. h u (later (nat_eq u w) (stands u m) s)))
  where
    later : (p q : Bool) → q ≡ true → (p || q) ≡ true
    later true q e = refl
    later false q e = e

both : (p q : Bool) → p ≡ true → q ≡ false → (p && not q) ≡ true
both p q e f = ap₂ (λ x y. x && not y) e f

less_true : (u n : ℕ) → u < n → nat_lt u n ≡ true
less_true u n h = grind (arith, nat_tests)

true_less : (u n : ℕ) → nat_lt u n ≡ true → u < n
true_less u n h = grind (arith, nat_tests)

record OneLeft (n v : ℕ) (m inputs left : List ℕ) (last : ℕ) : Type 0 where
  set : IsVarSet m
  beyond : n ≤ v
  there : stands v m ≡ true
  last_is : last ≡ get_or m (length m - 1) 0
  inputs_are : (u : ℕ) → stands u inputs ≡ nat_lt u n
  members : (u : ℕ) → stands u left ≡ (stands u m && not (nat_eq u last))

last_there : (n v : ℕ) (m inputs left : List ℕ) (last : ℕ) → OneLeft n v m inputs left last → stands last m ≡ true
last_there n v m inputs left last o = stands_at m (length m - 1) last (long m o.there) o.last_is
  where
    long : (m : List ℕ) → stands v m ≡ true → length m - 1 < length m
    long [] h = absurd (none_stands [] v refl h)
    long (u ∷ m) h = omega arith

inside : (n v : ℕ) (m inputs left : List ℕ) (last u : ℕ) → OneLeft n v m inputs left last → holds left (λ w. stands w inputs) ≡ true → stands u left ≡ true → u < n
inside n v m inputs left last u o h s = true_less u n (sym (o.inputs_are u) ∙ holds_at left (λ w. stands w inputs) u h s)

half_then : (n v : ℕ) (m inputs left : List ℕ) (last : ℕ) → OneLeft n v m inputs left last → holds left (λ w. stands w inputs) ≡ true → Below n (divided v m)
half_then n v m inputs left last o h = by (cases_eq v last)
  where
    by : ((v ≡ last) ⊎ (v ≢ last)) → Below n (divided v m)
    by (inl e) = below_from n (divided v m) (λ u s. inside n v m inputs left last u o h (o.members u ∙ ap (λ x. stands u m && not (nat_eq u x)) (sym e) ∙ sym (stands_divided u v m) ∙ s))
    by (inr d) = let l = inside n v m inputs left last v o h (o.members v ∙ both (stands v m) (nat_eq v last) o.there (nat_eq_other v last d)) in let b = o.beyond in absurd (omega arith)

half_back : (n v : ℕ) (m inputs left : List ℕ) (last : ℕ) → OneLeft n v m inputs left last → Below n (divided v m) → holds left (λ w. stands w inputs) ≡ true
half_back n v m inputs left last o b = by (cases_eq v last)
  where
    by : ((v ≡ last) ⊎ (v ≢ last)) → holds left (λ w. stands w inputs) ≡ true
    by (inl e) = holds_all left (λ w. stands w inputs) (λ u s. o.inputs_are u ∙ less_true u n (below_stands n u (divided v m) b (stands_divided u v m ∙ ap (λ x. stands u m && not (nat_eq u x)) e ∙ sym (o.members u) ∙ s)))
    by (inr d) =
        let flip : last ≢ v = λ k. d (sym k) in
        let l : last < n = below_stands n last (divided v m) b (stands_divided last v m ∙ both (stands last m) (nat_eq last v) (last_there n v m inputs left last o) (nat_eq_other last v flip)) in
        let g : v ≤ last = greatest m v last (set_climbing m o.set) o.last_is o.there in
        let k = o.beyond in
        absurd (omega arith)

pub half_is : (n v : ℕ) (t : Term) (inputs left : List ℕ) (last d : ℕ) (r : Bool) → IsVarSet t.mono → n ≤ v → stands v t.mono ≡ true → t.phase ≡ 2147483648 → d ≡ length t.mono → last ≡ get_or t.mono (d - 1) 0 → ((u : ℕ) → stands u inputs ≡ nat_lt u n)
    → ((u : ℕ) → stands u left ≡ (stands u t.mono && not (nat_eq u last))) → r ≡ holds left (λ w. stands w inputs) → (IsTrue r → IsHalfAtInputs n v t) × (IsHalfAtInputs n v t → IsTrue r)
half_is n v t inputs left last d r s l h p ed el f g e =
    let o : OneLeft n v t.mono inputs left last = record { set = s; beyond = l; there = h; last_is = el ∙ ap (λ (k : ℕ). get_or t.mono (k - 1) 0) ed; inputs_are = f; members = g } in (
      λ q. record { half = p; at_inputs = half_then n v t.mono inputs left last o (sym e ∙ q) },
      λ q. e ∙ half_back n v t.mono inputs left last o q.at_inputs,
    )

pub no_half : (n v : ℕ) (t : Term) (d u : ℕ) → d ≡ length t.mono → u ≡ t.phase → stands v t.mono ≡ true → (d ≡ 0) ⊎ (u ≢ 2147483648) → (IsTrue false → IsHalfAtInputs n v t) × (IsHalfAtInputs n v t → IsTrue false)
no_half n v t d u ed eu s (inl z) = (λ q. absurd (never q), λ q. absurd (none_stands t.mono v (sym ed ∙ z) s))
no_half n v t d u ed eu s (inr k) = (λ q. absurd (never q), λ q. absurd (k (eu ∙ q.half)))

-- ---- lists of terms
each_append : (P : Term → Type 0) (xs ys : List Term) → EachTerm P xs → EachTerm P ys → EachTerm P (xs ++ ys)
each_append P [] ys a b = b
each_append P (x ∷ xs) ys a b = (a.0, each_append P xs ys a.1 b)

each_front : (P : Term → Type 0) (xs ys : List Term) → EachTerm P (xs ++ ys) → EachTerm P xs
each_front P [] ys a = tt
each_front P (x ∷ xs) ys a = (a.0, each_front P xs ys a.1)

each_back : (P : Term → Type 0) (xs ys : List Term) → EachTerm P (xs ++ ys) → EachTerm P ys
each_back P [] ys a = a
each_back P (x ∷ xs) ys a = each_back P xs ys a.1

with_push : (v : ℕ) (ts : List Term) (t : Term) → terms_with v (ts ++ t ∷ []) ≡ terms_with v ts ++ cond (stands v t.mono) (t ∷ []) []
unfolding terms_where differ
with_push v [] t = one (stands v t.mono)
  where
    one : (b : Bool) → cond (differ true b) [] (t ∷ []) ≡ cond b (t ∷ []) []
    one true = refl
    one false = refl
with_push v (u ∷ ts) t = by (stands v u.mono) (with_push v ts t)
  where
    by : (b : Bool) → terms_where true v (ts ++ t ∷ []) ≡ terms_where true v ts ++ cond (stands v t.mono) (t ∷ []) []
        → cond (differ true b) (terms_where true v (ts ++ t ∷ [])) (u ∷ terms_where true v (ts ++ t ∷ [])) ≡ cond (differ true b) (terms_where true v ts) (u ∷ terms_where true v ts) ++ cond (stands v t.mono) (t ∷ []) []
    by true e = ap (λ (r : List Term). u ∷ r) e
    by false e = e

with_this : (v : ℕ) (ts : List Term) (t : Term) → stands v t.mono ≡ true → terms_with v (ts ++ t ∷ []) ≡ terms_with v ts ++ t ∷ []
with_this v ts t s = with_push v ts t ∙ ap (λ b. terms_with v ts ++ cond b (t ∷ []) []) s

with_others : (v : ℕ) (ts : List Term) (t : Term) → stands v t.mono ≡ false → terms_with v (ts ++ t ∷ []) ≡ terms_with v ts
with_others v ts t s = with_push v ts t ∙ ap (λ b. terms_with v ts ++ cond b (t ∷ []) []) s ∙ append_nil (terms_with v ts)
  where
    append_nil : (r : List Term) → r ++ [] ≡ r
    append_nil [] = refl
    append_nil (x ∷ r) = ap (λ (q : List Term). x ∷ q) (append_nil r)

occurs_last : (v : ℕ) (ts : List Term) (t : Term) → stands v t.mono ≡ true → phase_occurs v (ts ++ t ∷ []) ≡ true
unfolding phase_occurs
occurs_last v [] t s = ap (λ b. b || false) s
occurs_last v (u ∷ ts) t s = later (stands v u.mono) (phase_occurs v (ts ++ t ∷ [])) (occurs_last v ts t s)
  where
    later : (p q : Bool) → q ≡ true → (p || q) ≡ true
    later true q e = refl
    later false q e = e

occurs_earlier : (v : ℕ) (ts : List Term) (t : Term) → phase_occurs v ts ≡ true → phase_occurs v (ts ++ t ∷ []) ≡ true
unfolding phase_occurs
occurs_earlier v [] t h = cc
occurs_earlier v (u ∷ ts) t h = by (stands v u.mono) h (occurs_earlier v ts t)
  where
    by : (b : Bool) → (b || phase_occurs v ts) ≡ true → (phase_occurs v ts ≡ true → phase_occurs v (ts ++ t ∷ []) ≡ true) → (b || phase_occurs v (ts ++ t ∷ [])) ≡ true
    by true k ih = refl
    by false k ih = ih k

-- ---- what the pass keeps
looked_same : (n v : ℕ) (ts : List Term) (t : Term) (half other half' other' : Bool) → stands v t.mono ≡ false → half' ≡ half → other' ≡ other → Looked n v ts half other → Looked n v (ts ++ t ∷ []) half' other'
looked_same n v ts t half other half' other' s eh eo l =
    let w = with_others v ts t s in record {
      all = λ o. subst (EachTerm (IsHalfAtInputs n v)) (sym w) (l.all (sym eo ∙ o));
      some_other = λ o a. l.some_other (sym eo ∙ o) (subst (EachTerm (IsHalfAtInputs n v)) w a);
      some_half = λ h. occurs_earlier v ts t (l.some_half (sym eh ∙ h));
      neither = λ h o. free_push v ts t (l.neither (sym eh ∙ h) (sym eo ∙ o)) s;
    }

looked_half : (n v : ℕ) (ts : List Term) (t : Term) (half other half' other' : Bool) → stands v t.mono ≡ true → IsHalfAtInputs n v t → half' ≡ true → other' ≡ other → Looked n v ts half other → Looked n v (ts ++ t ∷ []) half' other'
looked_half n v ts t half other half' other' s q eh eo l =
    let w = with_this v ts t s in record {
      all = λ o. subst (EachTerm (IsHalfAtInputs n v)) (sym w) (each_append (IsHalfAtInputs n v) (terms_with v ts) (t ∷ []) (l.all (sym eo ∙ o)) (q, tt));
      some_other = λ o a. l.some_other (sym eo ∙ o) (each_front (IsHalfAtInputs n v) (terms_with v ts) (t ∷ []) (subst (EachTerm (IsHalfAtInputs n v)) w a));
      some_half = λ h. occurs_last v ts t s;
      neither = λ h o. absurd (clash eh h);
    }

looked_other : (n v : ℕ) (ts : List Term) (t : Term) (half other half' other' : Bool) → stands v t.mono ≡ true → (IsHalfAtInputs n v t → ⊥) → half' ≡ half → other' ≡ true → Looked n v ts half other → Looked n v (ts ++ t ∷ []) half' other'
looked_other n v ts t half other half' other' s q eh eo l =
    let w = with_this v ts t s in record {
      all = λ o. absurd (clash eo o);
      some_other = λ o a. q (each_back (IsHalfAtInputs n v) (terms_with v ts) (t ∷ []) (subst (EachTerm (IsHalfAtInputs n v)) w a)).0;
      some_half = λ h. occurs_last v ts t s;
      neither = λ h o. absurd (clash eo o);
    }

abbrev pub LookedAll : ℕ → List Term → List ℕ → List ℕ → Type 0
LookedAll n ts halves others = (v : ℕ) → n ≤ v → Looked n v ts (stands v halves) (stands v others)

pub looked_start : (n : ℕ) (halves others : List ℕ) → halves ≡ [] → others ≡ [] → LookedAll n [] halves others
unfolding stands terms_where phase_occurs
looked_start n halves others eh eo v l = record {
  all = λ o. tt;
  some_other = λ o a. clash o (ap (stands v) eo);
  some_half = λ h. absurd (clash h (ap (stands v) eh));
  neither = λ h o. refl;
}

or_this : (p q : Bool) → q ≡ true → (p || q) ≡ true
or_this true q e = refl
or_this false q e = e

or_none : (p q : Bool) → q ≡ false → (p || q) ≡ p
or_none true q e = refl
or_none false q e = e

pub looked_more : (n : ℕ) (ts : List Term) (halves others halves' others' : List ℕ) (i : ℕ) (t : Term) (r : Bool) → i < length ts → t ≡ get_or ts i t → ((v : ℕ) → n ≤ v → stands v t.mono ≡ true → (IsTrue r → IsHalfAtInputs n v t) × (IsHalfAtInputs n v t → IsTrue r))
    → ((r ≡ true) × ((v : ℕ) → stands v halves' ≡ (stands v halves || stands v t.mono)) × (others' ≡ others)) ⊎ ((r ≡ false) × ((v : ℕ) → stands v others' ≡ (stands v others || stands v t.mono)) × (halves' ≡ halves))
    → LookedAll n (take i ts) halves others → LookedAll n (take (i + 1) ts) halves' others'
looked_more n ts halves others halves' others' i t r h et f c g v l = subst (λ (x : List Term). Looked n v x (stands v halves') (stands v others')) (sym (take_more ts i t h ∙ ap (λ (x : Term). take i ts ++ x ∷ []) (sym et))) (by (stands v t.mono) refl c)
  where
    by : (b : Bool) → stands v t.mono ≡ b → ((r ≡ true) × ((v : ℕ) → stands v halves' ≡ (stands v halves || stands v t.mono)) × (others' ≡ others)) ⊎ ((r ≡ false) × ((v : ℕ) → stands v others' ≡ (stands v others || stands v t.mono)) × (halves' ≡ halves))
        → Looked n v (take i ts ++ t ∷ []) (stands v halves') (stands v others')
    by true e (inl p) = looked_half n v (take i ts) t (stands v halves) (stands v others) (stands v halves') (stands v others') e ((f v l e).0 p.0) (p.1 v ∙ or_this (stands v halves) (stands v t.mono) e) (ap (stands v) p.2) (g v l)
    by true e (inr p) = looked_other n v (take i ts) t (stands v halves) (stands v others) (stands v halves') (stands v others') e (λ q. clash ((f v l e).1 q) p.0) (ap (stands v) p.2) (p.1 v ∙ or_this (stands v others) (stands v t.mono) e) (g v l)
    by false e (inl p) = looked_same n v (take i ts) t (stands v halves) (stands v others) (stands v halves') (stands v others') e (p.1 v ∙ or_none (stands v halves) (stands v t.mono) e) (ap (stands v) p.2) (g v l)
    by false e (inr p) = looked_same n v (take i ts) t (stands v halves) (stands v others) (stands v halves') (stands v others') e (ap (stands v) p.2) (p.1 v ∙ or_none (stands v others) (stands v t.mono) e) (g v l)

pub looked_end : (n : ℕ) (ts : List Term) (halves others : List ℕ) (i : ℕ) → length ts ≤ i → LookedAll n (take i ts) halves others → LookedAll n ts halves others
looked_end n ts halves others i h g v l = subst (λ (x : List Term). Looked n v x (stands v halves) (stands v others)) (take_all i ts h) (g v l)

-- ---- which variables vanish
each_half : (n v : ℕ) (ts : List Term) → EachTerm (IsHalfAtInputs n v) ts → EachTerm (λ t. t.phase ≡ 2147483648) ts
each_half n v [] a = tt
each_half n v (t ∷ ts) a = (a.0.half, each_half n v ts a.1)

each_at_inputs : (n v : ℕ) (ts : List Term) → EachTerm (IsHalfAtInputs n v) ts → EachTerm (λ t. Below n (divided v t.mono)) ts
each_at_inputs n v [] a = tt
each_at_inputs n v (t ∷ ts) a = (a.0.at_inputs, each_at_inputs n v ts a.1)

each_both : (n v : ℕ) (ts : List Term) → EachTerm (λ t. t.phase ≡ 2147483648) ts → EachTerm (λ t. Below n (divided v t.mono)) ts → EachTerm (IsHalfAtInputs n v) ts
each_both n v [] a b = tt
each_both n v (t ∷ ts) a b = (record { half = a.0; at_inputs = b.0 }, each_both n v ts a.1 b.1)

pub vanishes_is : (S : PathSum) (ts : List Term) (y v : ℕ) (half other : Bool) → ts ≡ S.phase → y < S.m → v ≡ S.n + y → Looked S.n v ts half other → half ≡ true → other ≡ false → Vanishes S y
vanishes_is S ts y v half other et h ev l eh eo =
    let a : EachTerm (IsHalfAtInputs S.n (S.n + y)) (path_terms S y) = subst (λ (x : List Term). EachTerm (IsHalfAtInputs S.n (S.n + y)) (terms_with (S.n + y) x)) et (subst (λ w. EachTerm (IsHalfAtInputs S.n w) (terms_with w ts)) ev (l.all eo)) in record {
      inside = h;
      some = ap₂ (λ (w : ℕ) (x : List Term). phase_occurs w x) (sym ev) (sym et) ∙ l.some_half eh;
      halves = each_half S.n (S.n + y) (path_terms S y) a;
      at_inputs = each_at_inputs S.n (S.n + y) (path_terms S y) a;
    }

pub vanishes_not : (S : PathSum) (ts : List Term) (y v : ℕ) (half other : Bool) → ts ≡ S.phase → v ≡ S.n + y → Looked S.n v ts half other → (half ≡ false) ⊎ (other ≡ true) → ¬ (Vanishes S y)
vanishes_not S ts y v half other et ev l c q = by other refl c
  where
    each : EachTerm (IsHalfAtInputs S.n v) (terms_with v ts)
    each = subst (λ w. EachTerm (IsHalfAtInputs S.n w) (terms_with w ts)) (sym ev) (subst (λ (x : List Term). EachTerm (IsHalfAtInputs S.n (S.n + y)) (terms_with (S.n + y) x)) (sym et) (each_both S.n (S.n + y) (path_terms S y) q.halves q.at_inputs))

    by : (b : Bool) → other ≡ b → (half ≡ false) ⊎ (other ≡ true) → ⊥
    by true e c = l.some_other e each
    by false e (inl h) = clash (ap₂ (λ (w : ℕ) (x : List Term). phase_occurs w x) ev et ∙ q.some) (l.neither h e)
    by false e (inr o) = clash o e

pub none_below : (S : PathSum) (i : ℕ) → S.m ≤ i → ((z : ℕ) → z < i → ¬ (Vanishes S z)) → NoneVanishes S
none_below S i h f y q = let l = q.inside in f y (omega arith) q

pub until_next : (S : PathSum) (y : ℕ) → ((z : ℕ) → z < y → ¬ (Vanishes S z)) → ¬ (Vanishes S y) → (z : ℕ) → z < y + 1 → ¬ (Vanishes S z)
until_next S y f n z h = by (cases_lt z y)
  where
    by : ((z < y) ⊎ (y ≤ z)) → ¬ (Vanishes S z)
    by (inl l) = f z l
    by (inr l) = let e : y ≡ z = omega arith in subst (λ (x : ℕ). ¬ (Vanishes S x)) e n

pub no_answer : (S : PathSum) (i : ℕ) → S.m ≤ i → ((z : ℕ) → z < i → ¬ (Vanishes S z)) → (false ≡ false → NoneVanishes S) × (NoneVanishes S → false ≡ false)
no_answer S i h f = (λ e. none_below S i h f, λ n. refl)

pub an_answer : (S : PathSum) (y : ℕ) → Vanishes S y → (true ≡ false → NoneVanishes S) × (NoneVanishes S → true ≡ false)
an_answer S y q = (λ e. absurd (clash refl e), λ n. absurd (n y q))
