-- The terms sorted out by two variables, and what they count.
use Rattle.std.proofs.Common.{◌≡◌, ℕ, suc, ◌+◌, ◌*◌, refl, ap, ap₂, sym, ◌∙◌, subst, arith, ◌<◌, ◌≤◌, Bool, true, false, cond, not, nat_eq, ◌&&◌, List, [], ◌∷◌, ◌++◌, length, take, get_or, min, length-append}
use Rattle.std.specs.Cmp.Lexicographic.{pointwise}
use Rattle.std.proofs.lemmas.List.{take_more, take_all}
use Rattle.ps_mono.specs.Sets.{stands}
use Rattle.ps_mono.specs.Truth.{differ}
use Rattle.ps_phase.specs.declared.terms.Term.{Term}
use Rattle.ps_phase.specs.Phases.{IsPhasePoly}
use Rattle.ps_phase.specs.Adding.{terms_where, terms_with, terms_without}
use Rattle.ps_phase.proofs.Scaling.{selected_form}
use Rattle.ps_sum.specs.Counts.{raw_term, raw_phase, raw_bool}
use Rattle.ps_rules.proofs.Quotients.{Dividing, dividing_start, dividing_more, dividing_skip}

where_push : (b : Bool) (v : ℕ) (ts : List Term) (t : Term) → terms_where b v (ts ++ t ∷ []) ≡ terms_where b v ts ++ cond (differ b (stands v t.mono)) [] (t ∷ [])
unfolding terms_where
where_push b v [] t = refl
where_push b v (x ∷ ts) t = by (differ b (stands v x.mono)) (where_push b v ts t)
  where
    end : List Term
    end = cond (differ b (stands v t.mono)) [] (t ∷ [])

    by : (q : Bool) → terms_where b v (ts ++ t ∷ []) ≡ terms_where b v ts ++ end → cond q (terms_where b v (ts ++ t ∷ [])) (x ∷ terms_where b v (ts ++ t ∷ [])) ≡ cond q (terms_where b v ts) (x ∷ terms_where b v ts) ++ end
    by true e = e
    by false e = ap (λ (r : List Term). x ∷ r) e

append_none : (ts : List Term) → ts ++ [] ≡ ts
append_none [] = refl
append_none (x ∷ ts) = ap (λ (r : List Term). x ∷ r) (append_none ts)

kept_by : (b : Bool) (v : ℕ) (ts : List Term) (t : Term) → differ b (stands v t.mono) ≡ false → terms_where b v (ts ++ t ∷ []) ≡ terms_where b v ts ++ t ∷ []
kept_by b v ts t e = where_push b v ts t ∙ ap (λ q. terms_where b v ts ++ cond q [] (t ∷ [])) e

lost_by : (b : Bool) (v : ℕ) (ts : List Term) (t : Term) → differ b (stands v t.mono) ≡ true → terms_where b v (ts ++ t ∷ []) ≡ terms_where b v ts
lost_by b v ts t e = where_push b v ts t ∙ ap (λ q. terms_where b v ts ++ cond q [] (t ∷ [])) e ∙ append_none (terms_where b v ts)

has : (p : Bool) → p ≡ true → differ true p ≡ false
unfolding differ
has true e = refl
has false e = cc

has_not : (p : Bool) → p ≡ false → differ true p ≡ true
unfolding differ
has_not false e = refl
has_not true e = cc

lacks : (p : Bool) → p ≡ false → differ false p ≡ false
unfolding differ
lacks false e = refl
lacks true e = cc

lacks_not : (p : Bool) → p ≡ true → differ false p ≡ true
unfolding differ
lacks_not true e = refl
lacks_not false e = cc

abbrev pub intos : ℕ → ℕ → List Term → List Term
intos v w ts = terms_without v (terms_with w ts)

abbrev pub lefts : ℕ → ℕ → List Term → List Term
lefts v w ts = terms_without w (terms_without v ts)

-- a term with v comes to neither
into_first : (v w : ℕ) (ts : List Term) (t : Term) (q : Bool) → stands w t.mono ≡ q → stands v t.mono ≡ true → intos v w (ts ++ t ∷ []) ≡ intos v w ts
into_first v w ts t true f e = ap (terms_without v) (kept_by true w ts t (has _ f)) ∙ lost_by false v (terms_with w ts) t (lacks_not _ e)
into_first v w ts t false f e = ap (terms_without v) (lost_by true w ts t (has_not _ f))

left_first : (v w : ℕ) (ts : List Term) (t : Term) → stands v t.mono ≡ true → lefts v w (ts ++ t ∷ []) ≡ lefts v w ts
left_first v w ts t e = ap (terms_without w) (lost_by false v ts t (lacks_not _ e))

-- one with w alone
into_second : (v w : ℕ) (ts : List Term) (t : Term) → stands v t.mono ≡ false → stands w t.mono ≡ true → intos v w (ts ++ t ∷ []) ≡ intos v w ts ++ t ∷ []
into_second v w ts t e f = ap (terms_without v) (kept_by true w ts t (has _ f)) ∙ kept_by false v (terms_with w ts) t (lacks _ e)

left_second : (v w : ℕ) (ts : List Term) (t : Term) → stands v t.mono ≡ false → stands w t.mono ≡ true → lefts v w (ts ++ t ∷ []) ≡ lefts v w ts
left_second v w ts t e f = ap (terms_without w) (kept_by false v ts t (lacks _ e)) ∙ lost_by false w (terms_without v ts) t (lacks_not _ f)

-- one with neither
into_neither : (v w : ℕ) (ts : List Term) (t : Term) → stands w t.mono ≡ false → intos v w (ts ++ t ∷ []) ≡ intos v w ts
into_neither v w ts t f = ap (terms_without v) (lost_by true w ts t (has_not _ f))

left_neither : (v w : ℕ) (ts : List Term) (t : Term) → stands v t.mono ≡ false → stands w t.mono ≡ false → length (lefts v w (ts ++ t ∷ [])) ≡ length (lefts v w ts) + 1
left_neither v w ts t e f = ap (λ (r : List Term). length r) (ap (terms_without w) (kept_by false v ts t (lacks _ e)) ∙ kept_by false w (terms_without v ts) t (lacks _ f)) ∙ length-append (lefts v w ts) (t ∷ [])

-- ---- the loop of `parted`
pub record Parting (v w : ℕ) (m : List ℕ) (ts : List Term) (i : ℕ) (out : List (List ℕ)) (found : List Term) (count : ℕ) : Type 0 where
  pub dividing : Dividing v m ts i out
  pub into : found ≡ intos v w (take i ts)
  pub left : count ≡ length (lefts v w (take i ts))
  pub most : count ≤ i

pub parting_start : (v w : ℕ) (m : List ℕ) (ts : List Term) (out : List (List ℕ)) (found : List Term) → out ≡ [] → found ≡ [] → Parting v w m ts 0 out found 0
unfolding terms_where
parting_start v w m ts out found e f = record { dividing = dividing_start v m ts out e; into = f; left = refl; most = omega arith }

taken : (ts : List Term) (i : ℕ) (t : Term) → i < length ts → t ≡ get_or ts i t → take (i + 1) ts ≡ take i ts ++ t ∷ []
taken ts i t h e = take_more ts i t h ∙ ap (λ (r : Term). take i ts ++ r ∷ []) (sym e)

pub parting_end : (v w : ℕ) (ts : List Term) (i : ℕ) (into : List Term) → length ts ≤ i → into ≡ intos v w (take i ts) → into ≡ intos v w ts
parting_end v w ts i into h e = e ∙ ap (intos v w) (take_all i ts h)

pub left_end : (v w : ℕ) (ts : List Term) (i left : ℕ) → length ts ≤ i → left ≡ length (lefts v w (take i ts)) → left ≡ length (lefts v w ts)
left_end v w ts i left h e = e ∙ ap (λ (r : List Term). length (lefts v w r)) (take_all i ts h)

same_other : (p q : Bool) → p ≡ true → q ≡ false → (p && not q) ≡ true
same_other true false e f = refl
same_other true true e f = cc
same_other false q e f = cc

same_same : (p q : Bool) → q ≡ true → (p && not q) ≡ false
same_same true true f = refl
same_same false q f = refl
same_same true false f = cc

same_free : (p q : Bool) → p ≡ false → (p && not q) ≡ false
same_free false q e = refl
same_free true q e = cc

-- a term with v that is not the product
pub parting_other : (v w : ℕ) (m : List ℕ) (ts : List Term) (i : ℕ) (t : Term) (r : List ℕ) (monos monos' : List (List ℕ)) (into into' : List Term) (left left' : ℕ) → i < length ts → t ≡ get_or ts i t → stands v t.mono ≡ true → pointwise nat_eq m t.mono ≡ false
    → ((u : ℕ) → stands u r ≡ (stands u t.mono && not (nat_eq u v))) → monos' ≡ monos ++ r ∷ [] → into' ≡ into → left' ≡ left → Parting v w m ts i monos into left → Parting v w m ts (i + 1) monos' into' left'
parting_other v w m ts i t r monos monos' into into' left left' h e y n er em ei el s = record {
  dividing = dividing_more v m ts i t r true monos monos' h e (sym (same_other _ _ y n)) refl er em s.dividing;
  into = ei ∙ s.into ∙ sym (ap (intos v w) (taken ts i t h e) ∙ into_first v w (take i ts) t _ refl y);
  left = el ∙ s.left ∙ sym (ap (λ (x : List Term). length x) (ap (lefts v w) (taken ts i t h e) ∙ left_first v w (take i ts) t y));
  most = (let q = s.most in omega arith);
}

-- the product
pub parting_product : (v w : ℕ) (m : List ℕ) (ts : List Term) (i : ℕ) (t : Term) (monos monos' : List (List ℕ)) (into into' : List Term) (left left' : ℕ) → i < length ts → t ≡ get_or ts i t → stands v t.mono ≡ true → pointwise nat_eq m t.mono ≡ true
    → monos' ≡ monos → into' ≡ into → left' ≡ left → Parting v w m ts i monos into left → Parting v w m ts (i + 1) monos' into' left'
parting_product v w m ts i t monos monos' into into' left left' h e y n em ei el s = record {
  dividing = dividing_skip v m ts i t false monos monos' h e (sym (same_same (stands v t.mono) _ n)) refl em s.dividing;
  into = ei ∙ s.into ∙ sym (ap (intos v w) (taken ts i t h e) ∙ into_first v w (take i ts) t _ refl y);
  left = el ∙ s.left ∙ sym (ap (λ (x : List Term). length x) (ap (lefts v w) (taken ts i t h e) ∙ left_first v w (take i ts) t y));
  most = (let q = s.most in omega arith);
}

-- one with w alone
pub parting_into : (v w : ℕ) (m : List ℕ) (ts : List Term) (i : ℕ) (t : Term) (monos monos' : List (List ℕ)) (into into' : List Term) (left left' : ℕ) → i < length ts → t ≡ get_or ts i t → stands v t.mono ≡ false → stands w t.mono ≡ true
    → monos' ≡ monos → into' ≡ into ++ t ∷ [] → left' ≡ left → Parting v w m ts i monos into left → Parting v w m ts (i + 1) monos' into' left'
parting_into v w m ts i t monos monos' into into' left left' h e n y em ei el s = record {
  dividing = dividing_skip v m ts i t false monos monos' h e (sym (same_free (stands v t.mono) _ n)) refl em s.dividing;
  into = ei ∙ ap (λ (r : List Term). r ++ t ∷ []) s.into ∙ sym (ap (intos v w) (taken ts i t h e) ∙ into_second v w (take i ts) t n y);
  left = el ∙ s.left ∙ sym (ap (λ (x : List Term). length x) (ap (lefts v w) (taken ts i t h e) ∙ left_second v w (take i ts) t n y));
  most = (let q = s.most in omega arith);
}

-- one with neither
pub parting_left : (v w : ℕ) (m : List ℕ) (ts : List Term) (i : ℕ) (t : Term) (monos monos' : List (List ℕ)) (into into' : List Term) (left left' : ℕ) → i < length ts → t ≡ get_or ts i t → stands v t.mono ≡ false → stands w t.mono ≡ false
    → monos' ≡ monos → into' ≡ into → left' ≡ left + 1 → Parting v w m ts i monos into left → Parting v w m ts (i + 1) monos' into' left'
parting_left v w m ts i t monos monos' into into' left left' h e n y em ei el s = record {
  dividing = dividing_skip v m ts i t false monos monos' h e (sym (same_free (stands v t.mono) _ n)) refl em s.dividing;
  into = ei ∙ s.into ∙ sym (ap (intos v w) (taken ts i t h e) ∙ into_neither v w (take i ts) t y);
  left = el ∙ ap (λ k. k + 1) s.left ∙ sym (ap (λ (x : List Term). length (lefts v w x)) (taken ts i t h e) ∙ left_neither v w (take i ts) t n y);
  most = (let q = s.most in omega arith);
}

pub into_form : (v w : ℕ) (ts p into : List Term) → ts ≡ p → IsPhasePoly p → into ≡ intos v w ts → IsPhasePoly into
into_form v w ts p into e f g = subst IsPhasePoly (sym (g ∙ ap (intos v w) e)) (selected_form false v (terms_with w p) (selected_form true w p f))

-- ---- what they count
raw_split : (v t : ℕ) (xs : List Term) → raw_phase v t xs ≡ length (terms_without v xs) + raw_phase v t (terms_with v xs)
unfolding raw_phase terms_where differ
raw_split v t [] = refl
raw_split v t (x ∷ xs) = by (stands v x.mono) refl (raw_split v t xs)
  where
    by : (q : Bool) → stands v x.mono ≡ q → raw_phase v t xs ≡ length (terms_where false v xs) + raw_phase v t (terms_where true v xs)
        → cond q (raw_term x.phase t) 1 + raw_phase v t xs ≡ length (cond (differ false q) (terms_where false v xs) (x ∷ terms_where false v xs)) + raw_phase v t (cond (differ true q) (terms_where true v xs) (x ∷ terms_where true v xs))
    by true e r = let d : raw_phase v t (x ∷ terms_where true v xs) ≡ raw_term x.phase t + raw_phase v t (terms_where true v xs) = ap (λ q. cond q (raw_term x.phase t) 1 + raw_phase v t (terms_where true v xs)) e in omega (arith, d, r)
    by false e r = omega (arith, r)

with_without : (v w : ℕ) (xs : List Term) → terms_with w (terms_without v xs) ≡ terms_without v (terms_with w xs)
unfolding terms_where differ
with_without v w [] = refl
with_without v w (x ∷ xs) = by (stands v x.mono) refl (stands w x.mono) refl (with_without v w xs)
  where
    by : (p : Bool) → stands v x.mono ≡ p → (q : Bool) → stands w x.mono ≡ q → terms_where true w (terms_where false v xs) ≡ terms_where false v (terms_where true w xs)
        → terms_where true w (cond (differ false p) (terms_where false v xs) (x ∷ terms_where false v xs)) ≡ terms_where false v (cond (differ true q) (terms_where true w xs) (x ∷ terms_where true w xs))
    by true e true f r = r ∙ sym (ap (λ b. cond (differ false b) (terms_where false v (terms_where true w xs)) (x ∷ terms_where false v (terms_where true w xs))) e)
    by true e false f r = r
    by false e true f r = ap (λ b. cond (differ true b) (terms_where true w (terms_where false v xs)) (x ∷ terms_where true w (terms_where false v xs))) f ∙ ap (λ (y : List Term). x ∷ y) r
        ∙ sym (ap (λ b. cond (differ false b) (terms_where false v (terms_where true w xs)) (x ∷ terms_where false v (terms_where true w xs))) e)
    by false e false f r = ap (λ b. cond (differ true b) (terms_where true w (terms_where false v xs)) (x ∷ terms_where true w (terms_where false v xs))) f ∙ r

pub parts_count : (v w t left k made c : ℕ) (ts into : List Term) → left ≡ length (lefts v w ts) → into ≡ intos v w ts → k ≡ min left 1000000000000 → made ≡ min (raw_phase w t into) 1000000000000 → c ≡ min (k + made) 1000000000000
    → c ≡ min (raw_phase w t (terms_without v ts)) 1000000000000
parts_count v w t left k made c ts into el ei ek em ec =
    let s : raw_phase w t (terms_without v ts) ≡ left + raw_phase w t into =
    raw_split w t (terms_without v ts) ∙ ap₂ (λ (x y : ℕ). x + y) (sym el) (ap (raw_phase w t) (with_without v w ts ∙ sym ei))
    in
    omega (arith, s)

-- ---- short outputs
short_out : (v t : ℕ) (f : List (List ℕ)) → t ≤ 256 → raw_bool v t f ≤ length f * 256
unfolding raw_bool
short_out v t [] h = omega arith
short_out v t (m ∷ f) h = by (stands v m) (short_out v t f h)
  where
    by : (q : Bool) → raw_bool v t f ≤ length f * 256 → cond q t 1 + raw_bool v t f ≤ suc (length f) * 256
    by true r = omega arith
    by false r = omega arith

pub short_within : (v t : ℕ) (f : List (List ℕ)) → length f ≤ 256 → t ≤ 256 → raw_bool v t f ≤ 65536
short_within v t f h k = let r = short_out v t f k in omega arith
