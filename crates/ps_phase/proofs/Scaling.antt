-- Terms scaled, and terms selected.
use Rattle.std.proofs.Common.{◌≡◌, ℕ, ◌+◌, ◌*◌, ◌%◌, refl, ap, sym, ◌∙◌, subst, arith, ◌<◌, ◌≤◌, Bool, true, false, cond, List, [], ◌∷◌, ◌++◌, length, drop, get_or, ◌⊎◌, inl, inr, drop_of_length-le, append-nil, append_assoc}
use mathlib.Core.Bool.{beq}
use Rattle.ps_phase.specs.declared.terms.Term.{Term}
use Rattle.ps_mono.specs.Sets.{holds, stands}
use Rattle.ps_mono.specs.Truth.{times, differ}
use Rattle.ps_phase.specs.Phases.{phase_value, phase_occurs, TermBefore, IsPhasePoly}
use Rattle.ps_phase.specs.Adding.{put_term, scaled_terms, terms_where, terms_with, terms_without}
use Rattle.ps_phase.proofs.Adding.{M, put_value, put_before, put_form, put_free, put_append, cut, neither, from_one}

-- ---- scaled
scale_step : (b : Bool) (by p q r : ℕ) → r % M ≡ (by * q) % M → (times b ((by * p) % M) + r) % M ≡ (by * (times b p + q)) % M
unfolding times
scale_step true by p q r e = omega arith
scale_step false by p q r e = omega arith

pub scaled_value : (by : ℕ) (ts : List Term) (a : ℕ → Bool) → phase_value (scaled_terms by ts) a % M ≡ (by * phase_value ts a) % M
unfolding phase_value scaled_terms
scaled_value by [] a = omega arith
scaled_value by (t ∷ ts) a =
    ap (λ r. r % M) (put_value t.mono ((by * t.phase) % M) (scaled_terms by ts) a) ∙ scale_step (holds t.mono a) by t.phase (phase_value ts a) _ (scaled_value by ts a)

scaled_before : (m : List ℕ) (by : ℕ) (ts : List Term) → TermBefore m ts → TermBefore m (scaled_terms by ts)
unfolding scaled_terms
scaled_before m by [] b = tt
scaled_before m by (t ∷ ts) b = put_before m t.mono _ _ b.0 (scaled_before m by ts b.1)

pub scaled_form : (by : ℕ) (ts : List Term) → IsPhasePoly ts → IsPhasePoly (scaled_terms by ts)
unfolding scaled_terms
scaled_form by [] s = tt
scaled_form by (t ∷ ts) s = put_form t.mono _ _ s.0.set (omega arith) (scaled_before t.mono by ts s.1) (scaled_form by ts s.2)

pub scaled_free : (v by : ℕ) (ts : List Term) → phase_occurs v ts ≡ false → phase_occurs v (scaled_terms by ts) ≡ false
unfolding scaled_terms phase_occurs
scaled_free v by [] h = h
scaled_free v by (t ∷ ts) h = let n = neither (stands v t.mono) (phase_occurs v ts) h in put_free v t.mono _ _ n.0 (scaled_free v by ts n.1)

-- so many times and once more is no turn
pub negated_value : (p q : ℕ) → p % M ≡ (4294967295 * q) % M → (p + q) % M ≡ 0
negated_value p q e = omega arith

-- ---- the loop of `scaled`
pub scaled_start : (ts out : List Term) (by : ℕ) → out ≡ [] → out ++ scaled_terms by (drop 0 ts) ≡ scaled_terms by ts
scaled_start ts out by e = ap (λ (r : List Term). r ++ scaled_terms by ts) e

pub scaled_more : (ts out out' all : List Term) (by i p : ℕ) (t : Term) → i < length ts → t ≡ get_or ts i t → p ≡ (by * t.phase) % M → out' ≡ out ++ put_term t.mono p [] → out ++ scaled_terms by (drop i ts) ≡ all → out' ++ scaled_terms by (drop (i + 1) ts) ≡ all
unfolding scaled_terms
scaled_more ts out out' all by i p t h et ep eo e =
    ap (λ (r : List Term). r ++ scaled_terms by (drop (i + 1) ts)) (eo ∙ ap (λ (r : ℕ). out ++ put_term t.mono r []) ep) ∙ append_assoc out (put_term t.mono ((by * t.phase) % M) []) _
    ∙ ap (λ (r : List Term). out ++ r) (put_append t.mono ((by * t.phase) % M) _ ∙ ap (scaled_terms by) (sym (cut ts i t h et))) ∙ e

pub scaled_end : (ts out all : List Term) (by i : ℕ) → length ts ≤ i → out ++ scaled_terms by (drop i ts) ≡ all → out ≡ all
unfolding scaled_terms
scaled_end ts out all by i h e = sym (append-nil out) ∙ ap (λ (r : List Term). out ++ scaled_terms by r) (sym (drop_of_length-le ts h)) ∙ e

-- ---- selected
where_kept : (b q : Bool) (u w : List Term) → q ≡ b → cond (differ b q) u w ≡ w
unfolding differ
where_kept true true u w e = refl
where_kept true false u w e = cc
where_kept false true u w e = cc
where_kept false false u w e = refl

where_left : (b q : Bool) (u w : List Term) → (q ≡ b → ⊥) → cond (differ b q) u w ≡ u
unfolding differ
where_left true true u w e = absurd (e refl)
where_left true false u w e = refl
where_left false true u w e = refl
where_left false false u w e = absurd (e refl)

selected_before : (m : List ℕ) (b : Bool) (v : ℕ) (ts : List Term) → TermBefore m ts → TermBefore m (terms_where b v ts)
unfolding terms_where
selected_before m b v [] h = tt
selected_before m b v (t ∷ ts) h = by (differ b (stands v t.mono)) (selected_before m b v ts h.1)
  where
    by : (q : Bool) → TermBefore m (terms_where b v ts) → TermBefore m (cond q (terms_where b v ts) (t ∷ terms_where b v ts))
    by true r = r
    by false r = (h.0, r)

pub selected_form : (b : Bool) (v : ℕ) (ts : List Term) → IsPhasePoly ts → IsPhasePoly (terms_where b v ts)
unfolding terms_where
selected_form b v [] s = tt
selected_form b v (t ∷ ts) s = by (differ b (stands v t.mono)) (selected_form b v ts s.2)
  where
    by : (q : Bool) → IsPhasePoly (terms_where b v ts) → IsPhasePoly (cond q (terms_where b v ts) (t ∷ terms_where b v ts))
    by true r = r
    by false r = (s.0, selected_before t.mono b v ts s.1, r)

pub same_of : (p q : Bool) → beq p q ≡ true → p ≡ q
unfolding beq
same_of true true e = refl
same_of true false e = cc
same_of false true e = cc
same_of false false e = refl

pub other_of : (p q : Bool) → beq p q ≡ false → p ≡ q → ⊥
unfolding beq
other_of true true e f = cc
other_of true false e f = cc
other_of false true e f = cc
other_of false false e f = cc

pub selected_start : (ts out : List Term) (b : Bool) (v : ℕ) → out ≡ [] → out ++ terms_where b v (drop 0 ts) ≡ terms_where b v ts
selected_start ts out b v e = ap (λ (r : List Term). r ++ terms_where b v ts) e

pub selected_more : (ts out out' all : List Term) (w : Bool) (v i : ℕ) (b : Bool) (t : Term) → i < length ts → t ≡ get_or ts i t → b ≡ stands v t.mono → ((b ≡ w) × (out' ≡ out ++ t ∷ [])) ⊎ ((b ≡ w → ⊥) × (out' ≡ out)) → out ++ terms_where w v (drop i ts) ≡ all → out' ++ terms_where w v (drop (i + 1) ts) ≡ all
unfolding terms_where
selected_more ts out out' all w v i b t h et eb (inl p) e =
    ap (λ (r : List Term). r ++ terms_where w v (drop (i + 1) ts)) p.1 ∙ append_assoc out (t ∷ []) _
    ∙ ap (λ (r : List Term). out ++ r) (sym (where_kept w (stands v t.mono) (terms_where w v (drop (i + 1) ts)) (t ∷ terms_where w v (drop (i + 1) ts)) (sym eb ∙ p.0)) ∙ ap (terms_where w v) (sym (cut ts i t h et))) ∙ e
selected_more ts out out' all w v i b t h et eb (inr p) e =
    ap (λ (r : List Term). r ++ terms_where w v (drop (i + 1) ts)) p.1
    ∙ ap (λ (r : List Term). out ++ r) (sym (where_left w (stands v t.mono) (terms_where w v (drop (i + 1) ts)) (t ∷ terms_where w v (drop (i + 1) ts)) (λ k. p.0 (eb ∙ k))) ∙ ap (terms_where w v) (sym (cut ts i t h et))) ∙ e

pub selected_end : (ts out all : List Term) (w : Bool) (v i : ℕ) → length ts ≤ i → out ++ terms_where w v (drop i ts) ≡ all → out ≡ all
unfolding terms_where
selected_end ts out all w v i h e = sym (append-nil out) ∙ ap (λ (r : List Term). out ++ terms_where w v r) (sym (drop_of_length-le ts h)) ∙ e

split_step : (v : ℕ) (t : Term) (ts : List Term) (a : ℕ → Bool) (q : Bool) → phase_value (terms_where false v ts) a + phase_value (terms_where true v ts) a ≡ phase_value ts a
    → phase_value (cond (differ false q) (terms_where false v ts) (t ∷ terms_where false v ts)) a + phase_value (cond (differ true q) (terms_where true v ts) (t ∷ terms_where true v ts)) a ≡ times (holds t.mono a) t.phase + phase_value ts a
unfolding differ phase_value
split_step v t ts a true e = omega arith
split_step v t ts a false e = omega arith

-- the two kinds together are worth what all are
pub split_value : (v : ℕ) (ts : List Term) (a : ℕ → Bool) → phase_value (terms_without v ts) a + phase_value (terms_with v ts) a ≡ phase_value ts a
unfolding terms_where phase_value
split_value v [] a = refl
split_value v (t ∷ ts) a = split_step v t ts a (stands v t.mono) (split_value v ts a)

-- ---- what `scaled` and `selected` give; f is the list as it is passed, p as clauses see it
pub scale_form : (by : ℕ) (xs f vs : List Term) → f ≡ xs → vs ≡ scaled_terms by f → IsPhasePoly xs → IsPhasePoly vs
scale_form by xs f vs ef e s = subst IsPhasePoly (sym (e ∙ ap (scaled_terms by) ef)) (scaled_form by xs s)

pub scale_value : (by : ℕ) (p xs f vs : List Term) → xs ≡ p → f ≡ xs → vs ≡ scaled_terms by f → (a : ℕ → Bool) → phase_value vs a % M ≡ (by * phase_value p a) % M
scale_value by p xs f vs ep ef e a = ap (λ (u : List Term). phase_value u a % M) (e ∙ ap (scaled_terms by) (ef ∙ ep)) ∙ scaled_value by p a

pub scale_free : (by : ℕ) (p xs f vs : List Term) → xs ≡ p → f ≡ xs → vs ≡ scaled_terms by f → (v : ℕ) → phase_occurs v vs ≡ true → phase_occurs v p ≡ true
scale_free by p xs f vs ep ef e v h = from_one _ _ (λ a. scaled_free v by p a) (ap (phase_occurs v) (sym (e ∙ ap (scaled_terms by) (ef ∙ ep))) ∙ h)

pub select_form : (b : Bool) (v : ℕ) (xs f vs : List Term) → f ≡ xs → vs ≡ terms_where b v f → IsPhasePoly xs → IsPhasePoly vs
select_form b v xs f vs ef e s = subst IsPhasePoly (sym (e ∙ ap (terms_where b v) ef)) (selected_form b v xs s)
