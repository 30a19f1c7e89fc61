-- Sights of many variables at once.
use Rattle.std.proofs.Common.{◌≡◌, ◌≢◌, ℕ, zero, suc, ◌+◌, ◌-◌, refl, ap, ap₂, sym, ◌∙◌, subst, arith, ◌<◌, ◌≤◌, Bool, true, false, cond, not, nat_eq, ◌&&◌, ◌||◌, List, [], ◌∷◌, ◌++◌, length, take, drop, drop-cons, add-one, drop_of_length-le, set, get_or, ◌⊎◌, inl, inr}
use Rattle.std.proofs.lemmas.Bool.{cases_eq}
use Rattle.std.proofs.lemmas.Bool.Decides.{nat_tests}
use Rattle.std.proofs.lemmas.List.{take_more, take_all, take-append-drop, get_or-set_same, get_or-set_other}
use Rattle.std.proofs.Math.ListN.{length-set}
use Rattle.ps_mono.specs.Sets.{stands, Climbing, Above}
use Rattle.ps_mono.specs.Lists.{nat_eq_same, nat_eq_other}
use Rattle.ps_mono.proofs.Laws.{set_climbing}
use Rattle.ps_bool.specs.Polys.{occurs}
use Rattle.ps_phase.specs.declared.terms.Term.{Term}
use Rattle.ps_phase.specs.Phases.{phase_occurs, TermBefore, IsPhasePoly}
use Rattle.ps_phase.proofs.Values.{free_push}
use Rattle.ps_sum.specs.Outs.{outs_occur}
use Rattle.ps_rules.specs.declared.sights.Kind.{Kind}
use Rattle.ps_rules.specs.declared.sights.Kind.TheVariants.{Free, Halves, Quarter, Other}
use Rattle.ps_rules.specs.declared.sights.Sight.{Sight}
use Rattle.ps_rules.specs.Terms.{IsHalf}
use Rattle.ps_rules.specs.Sights.{in_pair, in_wide, IsQuarter, IsSpoilt, Partners, SeenAs, Seen, IsFresh, EachSight}
use Rattle.ps_rules.proofs.Deciding.{get_above, place_stands}
use Rattle.ps_rules.proofs.Seeing.{off, each_push, in_pair_push, in_wide_push, kept_coefficient, spoilt_more, last_term}

-- ---- one sight written
pub each_set : (R Q : ℕ → Sight → Type 0) (base : ℕ) (xs ys : List Sight) (u at : ℕ) (s : Sight) → base ≤ u → at ≡ u - base → at < length xs → ys ≡ set xs at s → Q u s → ((v : ℕ) (x : Sight) → v ≢ u → R v x → Q v x) → EachSight R base xs → EachSight Q base ys
each_set R Q base xs ys u at s b ea l e q f h k d lk = by (cases_eq k at)
  where
    n : length ys ≡ length xs
    n = ap (λ (r : List Sight). length r) e ∙ length-set xs at s

    by : ((k ≡ at) ⊎ (k ≢ at)) → Q (base + k) (get_or ys k d)
    by (inl c) =
        let w : base + k ≡ u = omega arith in
        let g : get_or ys k d ≡ s = ap₂ (λ (r : List Sight) (i : ℕ). get_or r i d) e c ∙ get_or-set_same xs at s d l in
        subst (λ (x : ℕ). Q x (get_or ys k d)) (sym w) (subst (Q u) (sym g) q)
    by (inr c) =
        let w : base + k ≢ u = omega arith in
        let g : get_or ys k d ≡ get_or xs k d = ap (λ (r : List Sight). get_or r k d) e ∙ rw get_or-set_other refl in
        f (base + k) (get_or ys k d) w (subst (R (base + k)) (sym g) (h k d (omega (arith, n))))

-- none written
pub each_keep : (R Q : ℕ → Sight → Type 0) (base : ℕ) (xs ys : List Sight) (u : ℕ) → ((u < base) ⊎ (length xs ≤ u - base)) → ys ≡ xs → ((v : ℕ) (x : Sight) → v ≢ u → R v x → Q v x) → EachSight R base xs → EachSight Q base ys
each_keep R Q base xs ys u o e f h = subst (EachSight Q base) (sym e) (λ k d l. f (base + k) (get_or xs k d) (apart k l o) (h k d l))
  where
    apart : (k : ℕ) → k < length xs → ((u < base) ⊎ (length xs ≤ u - base)) → base + k ≢ u
    apart k l (inl a) = omega arith
    apart k l (inr a) = omega arith

pub each_map : (R Q : ℕ → Sight → Type 0) (base : ℕ) (xs : List Sight) → ((v : ℕ) (x : Sight) → R v x → Q v x) → EachSight R base xs → EachSight Q base xs
each_map R Q base xs f h k d l = f (base + k) (get_or xs k d) (h k d l)

-- ---- one variable of a monomial more
stands_push : (v : ℕ) (m : List ℕ) (u : ℕ) → stands v (m ++ u ∷ []) ≡ (stands v m || nat_eq v u)
unfolding stands
stands_push v [] u = none (nat_eq v u)
  where
    none : (b : Bool) → (b || false) ≡ b
    none true = refl
    none false = refl
stands_push v (x ∷ m) u = ap (λ b. nat_eq v x || b) (stands_push v m u) ∙ move (nat_eq v x) (stands v m) (nat_eq v u)
  where
    move : (p q r : Bool) → (p || (q || r)) ≡ ((p || q) || r)
    move true q r = refl
    move false q r = refl

stands_more : (m : List ℕ) (i u v : ℕ) → i < length m → u ≡ get_or m i 0 → stands v (take (i + 1) m) ≡ (stands v (take i m) || nat_eq v u)
stands_more m i u v l e = ap (stands v) (take_more m i 0 l ∙ ap (λ (x : ℕ). take i m ++ x ∷ []) (sym e)) ∙ stands_push v (take i m) u

or_none : (b : Bool) → (b || false) ≡ b
or_none true = refl
or_none false = refl

or_true : (b : Bool) → (b || true) ≡ true
or_true true = refl
or_true false = refl

pub stands_other : (m : List ℕ) (i u v : ℕ) → i < length m → u ≡ get_or m i 0 → v ≢ u → stands v (take (i + 1) m) ≡ stands v (take i m)
stands_other m i u v l e d = stands_more m i u v l e ∙ ap (λ b. stands v (take i m) || b) (nat_eq_other v u d) ∙ or_none _

pub stands_own : (m : List ℕ) (i u : ℕ) → i < length m → u ≡ get_or m i 0 → stands u (take (i + 1) m) ≡ true
stands_own m i u l e = stands_more m i u u l e ∙ ap (λ b. stands u (take i m) || b) (nat_eq_same u) ∙ or_true _

-- ---- marks
pub marked_start : (p : ℕ → Bool) (m : List ℕ) (base : ℕ) (xs : List Sight) → EachSight (λ v s. IsFresh (p v) s) base xs → EachSight (λ v s. IsFresh (p v || stands v (take 0 m)) s) base xs
unfolding stands
marked_start p m base xs h = each_map (λ v s. IsFresh (p v) s) (λ v s. IsFresh (p v || false) s) base xs (λ v x f. subst (λ (b : Bool). IsFresh b x) (sym (or_none (p v))) f) h

pub marked_set : (p : ℕ → Bool) (m : List ℕ) (base i u at : ℕ) (xs ys : List Sight) (s : Sight) → i < length m → u ≡ get_or m i 0 → base ≤ u → at ≡ u - base → at < length xs → ys ≡ set xs at s → IsFresh true s
    → EachSight (λ v s. IsFresh (p v || stands v (take i m)) s) base xs → EachSight (λ v s. IsFresh (p v || stands v (take (i + 1) m)) s) base ys
marked_set p m base i u at xs ys s l e b ea la ey f h =
    each_set (λ v s. IsFresh (p v || stands v (take i m)) s) (λ v s. IsFresh (p v || stands v (take (i + 1) m)) s) base xs ys u at s b ea la ey
    (subst (λ (b : Bool). IsFresh b s) (sym (ap (λ b. p u || b) (stands_own m i u l e) ∙ or_true (p u))) f)
    (λ v x d. subst (λ (b : Bool). IsFresh (p v || b) x) (sym (stands_other m i u v l e d))) h

pub marked_keep : (p : ℕ → Bool) (m : List ℕ) (base i u : ℕ) (xs ys : List Sight) → i < length m → u ≡ get_or m i 0 → ((u < base) ⊎ (length xs ≤ u - base)) → ys ≡ xs
    → EachSight (λ v s. IsFresh (p v || stands v (take i m)) s) base xs → EachSight (λ v s. IsFresh (p v || stands v (take (i + 1) m)) s) base ys
marked_keep p m base i u xs ys l e o ey h =
    each_keep (λ v s. IsFresh (p v || stands v (take i m)) s) (λ v s. IsFresh (p v || stands v (take (i + 1) m)) s) base xs ys u o ey
    (λ v x d. subst (λ (b : Bool). IsFresh (p v || b) x) (sym (stands_other m i u v l e d))) h

pub marked_end : (p : ℕ → Bool) (m : List ℕ) (base i : ℕ) (xs : List Sight) → length m ≤ i → EachSight (λ v s. IsFresh (p v || stands v (take i m)) s) base xs → EachSight (λ v s. IsFresh (p v || stands v m) s) base xs
marked_end p m base i xs l h = subst (λ (r : List ℕ). EachSight (λ v s. IsFresh (p v || stands v r) s) base xs) (take_all i m l) h

-- ---- one monomial more, one output more
or_move : (p q r : Bool) → ((p || q) || r) ≡ (p || (q || r))
or_move true q r = refl
or_move false q r = refl

pub occurs_push : (v : ℕ) (f : List (List ℕ)) (m : List ℕ) → occurs v (f ++ m ∷ []) ≡ (occurs v f || stands v m)
unfolding occurs
occurs_push v [] m = or_none (stands v m)
occurs_push v (k ∷ f) m = ap (λ b. stands v k || b) (occurs_push v f m) ∙ sym (or_move (stands v k) (occurs v f) (stands v m))

pub poly_start : (p : ℕ → Bool) (f : List (List ℕ)) (base : ℕ) (xs : List Sight) → EachSight (λ v s. IsFresh (p v) s) base xs → EachSight (λ v s. IsFresh (p v || occurs v (take 0 f)) s) base xs
unfolding occurs
poly_start p f base xs h = each_map (λ v s. IsFresh (p v) s) (λ v s. IsFresh (p v || false) s) base xs (λ v x f. subst (λ (b : Bool). IsFresh b x) (sym (or_none (p v))) f) h

pub poly_more : (p : ℕ → Bool) (f : List (List ℕ)) (base i : ℕ) (m : List ℕ) (ys : List Sight) → i < length f → m ≡ get_or f i m
    → EachSight (λ v s. IsFresh ((p v || occurs v (take i f)) || stands v m) s) base ys → EachSight (λ v s. IsFresh (p v || occurs v (take (i + 1) f)) s) base ys
poly_more p f base i m ys l e h =
    each_map (λ v s. IsFresh ((p v || occurs v (take i f)) || stands v m) s) (λ v s. IsFresh (p v || occurs v (take (i + 1) f)) s) base ys
    (λ v x. subst (λ (b : Bool). IsFresh b x) (or_move (p v) (occurs v (take i f)) (stands v m) ∙ ap (λ b. p v || b) (sym (ap (occurs v) (take_more f i m l ∙ ap (λ (r : List ℕ). take i f ++ r ∷ []) (sym e)) ∙ occurs_push v (take i f) m)))) h

pub poly_end : (p : ℕ → Bool) (g f : List (List ℕ)) (base i : ℕ) (xs : List Sight) → f ≡ g → length f ≤ i → EachSight (λ v s. IsFresh (p v || occurs v (take i f)) s) base xs → EachSight (λ v s. IsFresh (p v || occurs v g) s) base xs
poly_end p g f base i xs eg l h = subst (λ (r : List (List ℕ)). EachSight (λ v s. IsFresh (p v || occurs v r) s) base xs) (take_all i f l ∙ eg) h

pub outs_push : (v : ℕ) (fs : List (List (List ℕ))) (f : List (List ℕ)) → outs_occur v (fs ++ f ∷ []) ≡ (outs_occur v fs || occurs v f)
unfolding outs_occur
outs_push v [] f = or_none (occurs v f)
outs_push v (g ∷ fs) f = ap (λ b. occurs v g || b) (outs_push v fs f) ∙ sym (or_move (occurs v g) (outs_occur v fs) (occurs v f))

pub outs_start : (fs : List (List (List ℕ))) (base : ℕ) (xs : List Sight) → EachSight (λ v s. IsFresh false s) base xs → EachSight (λ v s. IsFresh (outs_occur v (take 0 fs)) s) base xs
unfolding outs_occur
outs_start fs base xs h = h

pub outs_more : (fs : List (List (List ℕ))) (base i : ℕ) (f : List (List ℕ)) (ys : List Sight) → i < length fs → f ≡ get_or fs i f
    → EachSight (λ v s. IsFresh (outs_occur v (take i fs) || occurs v f) s) base ys → EachSight (λ v s. IsFresh (outs_occur v (take (i + 1) fs)) s) base ys
outs_more fs base i f ys l e h =
    each_map (λ v s. IsFresh (outs_occur v (take i fs) || occurs v f) s) (λ v s. IsFresh (outs_occur v (take (i + 1) fs)) s) base ys
    (λ v x. subst (λ (b : Bool). IsFresh b x) (sym (ap (outs_occur v) (take_more fs i f l ∙ ap (λ (r : List (List ℕ)). take i fs ++ r ∷ []) (sym e)) ∙ outs_push v (take i fs) f))) h

pub outs_end : (fs : List (List (List ℕ))) (base i : ℕ) (xs : List Sight) → length fs ≤ i → EachSight (λ v s. IsFresh (outs_occur v (take i fs)) s) base xs → EachSight (λ v s. IsFresh (outs_occur v fs) s) base xs
outs_end fs base i xs l h = subst (λ (r : List (List (List ℕ))). EachSight (λ v s. IsFresh (outs_occur v r) s) base xs) (take_all i fs l) h

-- ---- a term without the variable
partners_skip : (v : ℕ) (ts : List Term) (t : Term) (pairs wide : List ℕ) → stands v t.mono ≡ false → Partners v ts pairs wide → Partners v (ts ++ t ∷ []) pairs wide
partners_skip v ts t pairs wide n p = record {
  pairs_are = λ u. p.pairs_are u ∙ sym (in_pair_push v u ts t ∙ ap (λ b. in_pair v u ts || ((b && nat_eq (length t.mono) 2) && stands u t.mono)) n ∙ or_none _);
  wide_are = λ u. p.wide_are u ∙ sym (in_wide_push v u ts t ∙ ap (λ b. in_wide v u ts || ((b && not (nat_eq (length t.mono) 2)) && stands u t.mono)) n ∙ or_none _);
}

present_push : (v : ℕ) (ts : List Term) (t : Term) → phase_occurs v ts ≡ true → phase_occurs v (ts ++ t ∷ []) ≡ true
unfolding phase_occurs
present_push v [] t e = absurd (off e refl)
present_push v (x ∷ ts) t e = by (stands v x.mono) e (present_push v ts t)
  where
    by : (b : Bool) → (b || phase_occurs v ts) ≡ true → (phase_occurs v ts ≡ true → phase_occurs v (ts ++ t ∷ []) ≡ true) → (b || phase_occurs v (ts ++ t ∷ [])) ≡ true
    by true k r = refl
    by false k r = r k

quarter_some : (c : ℕ) → IsQuarter c → c ≢ 0
quarter_some c (inl e) = λ z. omega arith
quarter_some c (inr e) = λ z. omega arith

seen_skip_as : (k : Kind) (v : ℕ) (outs : List (List (List ℕ))) (ts : List Term) (t : Term) (pairs wide : List ℕ) → stands v t.mono ≡ false → SeenAs k v outs ts pairs wide → SeenAs k v outs (ts ++ t ∷ []) pairs wide
seen_skip_as Free v outs ts t pairs wide n h = record { silent = h.silent; absent = free_push v ts t h.absent n; partners = partners_skip v ts t pairs wide n h.partners }
seen_skip_as Halves v outs ts t pairs wide n h = record {
  silent = h.silent;
  present = present_push v ts t h.present;
  halves = each_push v IsHalf ts t h.halves (λ s. absurd (off s n));
  partners = partners_skip v ts t pairs wide n h.partners;
}
seen_skip_as Quarter v outs ts t pairs wide n h = record {
  silent = h.silent;
  quarter = subst IsQuarter (sym (kept_coefficient (v ∷ []) ts (t ∷ []) (quarter_some _ h.quarter))) h.quarter;
  halves = each_push v (λ t. t.mono ≢ v ∷ [] → IsHalf t) ts t h.halves (λ s. absurd (off s n));
}
seen_skip_as Other v outs ts t pairs wide n h = spoilt_more v outs ts (t ∷ []) h

pub seen_skip : (v : ℕ) (outs : List (List (List ℕ))) (ts : List Term) (t : Term) (s : Sight) → stands v t.mono ≡ false → Seen v outs ts s → Seen v outs (ts ++ t ∷ []) s
seen_skip v outs ts t s n h = seen_skip_as s.kind v outs ts t s.pairs s.wide n h

-- ---- a term, variable by variable
-- the terms that a variable has seen, where the first variables of t's monomial are told
abbrev pub so_far : List Term → Term → List ℕ → ℕ → List Term
so_far ts t done v = cond (stands v done) (ts ++ t ∷ []) ts

pub looked_start : (outs : List (List (List ℕ))) (ts : List Term) (t : Term) (base : ℕ) (xs : List Sight) → EachSight (λ v s. Seen v outs ts s) base xs → EachSight (λ v s. Seen v outs (so_far ts t (take 0 t.mono) v) s) base xs
unfolding stands
looked_start outs ts t base xs h = h

above_stands : (w u : ℕ) (m : List ℕ) → Above w m → stands w m ≡ false
unfolding stands
above_stands w u [] a = refl
above_stands w u (x ∷ m) a = let e : nat_eq w x ≡ false = (let k = a.0 in grind (arith, nat_tests)) in ap₂ (λ (p q : Bool). p || q) e (above_stands w u m a.1)

-- the one at place i does not stand before it
place_fresh : (m : List ℕ) (i u : ℕ) → Climbing m → i < length m → u ≡ get_or m i 0 → stands u (take i m) ≡ false
unfolding stands
place_fresh [] i u c l e = absurd (omega arith)
place_fresh (x ∷ m) zero u c l e = refl
place_fresh (x ∷ m) (suc i) u c l e =
    let a : x < get_or m i 0 = get_above x m i c.0 (omega arith) in
    let k : nat_eq u x ≡ false = grind (arith, nat_tests) in
    ap₂ (λ (p q : Bool). p || q) k (place_fresh m i u c.1 (omega arith) e)

pub looked_set : (outs : List (List (List ℕ))) (ts : List Term) (t : Term) (base i u at : ℕ) (xs ys : List Sight) (d old s : Sight) → IsPhasePoly (ts ++ t ∷ []) → i < length t.mono → u ≡ get_or t.mono i 0 → base ≤ u → at ≡ u - base → at < length xs → old ≡ get_or xs at d → ys ≡ set xs at s
    → (stands u t.mono ≡ true → Seen u outs ts old → Seen u outs (ts ++ t ∷ []) s)
    → EachSight (λ v s. Seen v outs (so_far ts t (take i t.mono) v) s) base xs → EachSight (λ v s. Seen v outs (so_far ts t (take (i + 1) t.mono) v) s) base ys
looked_set outs ts t base i u at xs ys d old s p l e b ea la eo ey f h =
    let w : base + at ≡ u = omega arith in
    let n : stands u (take i t.mono) ≡ false = place_fresh t.mono i u (set_climbing t.mono (last_term ts t p).set) l e in
    let was : Seen u outs ts old = subst (λ (r : List Term). Seen u outs r old) (ap (λ (b : Bool). cond b (ts ++ t ∷ []) ts) n) (subst (λ (x : Sight). Seen u outs (so_far ts t (take i t.mono) u) x) (sym eo) (subst (λ (v : ℕ). Seen v outs (so_far ts t (take i t.mono) v) (get_or xs at d)) w (h at d la))) in
    each_set (λ v s. Seen v outs (so_far ts t (take i t.mono) v) s) (λ v s. Seen v outs (so_far ts t (take (i + 1) t.mono) v) s) base xs ys u at s b ea la ey
    (subst (λ (r : List Term). Seen u outs r s) (ap (λ (b : Bool). cond b (ts ++ t ∷ []) ts) (sym (stands_own t.mono i u l e))) (f (place_stands t.mono i u l e) was))
    (λ v x n. subst (λ (b : Bool). Seen v outs (cond b (ts ++ t ∷ []) ts) x) (sym (stands_other t.mono i u v l e n))) h

pub looked_keep : (outs : List (List (List ℕ))) (ts : List Term) (t : Term) (base i u : ℕ) (xs ys : List Sight) → i < length t.mono → u ≡ get_or t.mono i 0 → ((u < base) ⊎ (length xs ≤ u - base)) → ys ≡ xs
    → EachSight (λ v s. Seen v outs (so_far ts t (take i t.mono) v) s) base xs → EachSight (λ v s. Seen v outs (so_far ts t (take (i + 1) t.mono) v) s) base ys
looked_keep outs ts t base i u xs ys l e o ey h =
    each_keep (λ v s. Seen v outs (so_far ts t (take i t.mono) v) s) (λ v s. Seen v outs (so_far ts t (take (i + 1) t.mono) v) s) base xs ys u o ey
    (λ v x d. subst (λ (b : Bool). Seen v outs (cond b (ts ++ t ∷ []) ts) x) (sym (stands_other t.mono i u v l e d))) h

pub looked_end : (outs : List (List (List ℕ))) (ts : List Term) (t : Term) (base i : ℕ) (xs : List Sight) → length t.mono ≤ i → EachSight (λ v s. Seen v outs (so_far ts t (take i t.mono) v) s) base xs → EachSight (λ v s. Seen v outs (ts ++ t ∷ []) s) base xs
looked_end outs ts t base i xs l h =
    each_map (λ v s. Seen v outs (so_far ts t (take i t.mono) v) s) (λ v s. Seen v outs (ts ++ t ∷ []) s) base xs
    (λ v x k. by v x (stands v t.mono) refl (subst (λ (r : List ℕ). Seen v outs (so_far ts t r v) x) (take_all i t.mono l) k)) h
  where
    by : (v : ℕ) (x : Sight) (b : Bool) → stands v t.mono ≡ b → Seen v outs (cond b (ts ++ t ∷ []) ts) x → Seen v outs (ts ++ t ∷ []) x
    by v x true e k = k
    by v x false e k = seen_skip v outs ts t x e k

-- ---- all terms
before_take : (m : List ℕ) (ts : List Term) (n : ℕ) → TermBefore m ts → TermBefore m (take n ts)
before_take m [] zero b = tt
before_take m [] (suc n) b = tt
before_take m (t ∷ ts) zero b = tt
before_take m (t ∷ ts) (suc n) b = (b.0, before_take m ts n b.1)

pub poly_take : (ts : List Term) (n : ℕ) → IsPhasePoly ts → IsPhasePoly (take n ts)
poly_take [] zero p = tt
poly_take [] (suc n) p = tt
poly_take (t ∷ ts) zero p = tt
poly_take (t ∷ ts) (suc n) p = (p.0, before_take t.mono ts n p.1, poly_take ts n p.2)

pub more_is : (ts : List Term) (i : ℕ) (t : Term) → i < length ts → t ≡ get_or ts i t → take (i + 1) ts ≡ take i ts ++ t ∷ []
more_is ts i t l e = take_more ts i t l ∙ ap (λ (r : Term). take i ts ++ r ∷ []) (sym e)

pub last_poly : (ts : List Term) (i : ℕ) (t : Term) → IsPhasePoly ts → i < length ts → t ≡ get_or ts i t → IsPhasePoly (take i ts ++ t ∷ [])
last_poly ts i t p l e = subst IsPhasePoly (more_is ts i t l e) (poly_take ts (i + 1) p)

pub terms_start : (outs : List (List (List ℕ))) (ts : List Term) (base : ℕ) (xs : List Sight) → EachSight (λ v s. IsFresh (outs_occur v outs) s) base xs → EachSight (λ v s. Seen v outs (take 0 ts) s) base xs
terms_start outs ts base xs h = each_map (λ v s. IsFresh (outs_occur v outs) s) (λ v s. Seen v outs [] s) base xs (λ v x f. f v outs refl) h

pub terms_more : (outs : List (List (List ℕ))) (ts : List Term) (base i : ℕ) (t : Term) (xs ys : List Sight) → IsPhasePoly ts → i < length ts → t ≡ get_or ts i t
    → ((os : List (List (List ℕ))) (rs : List Term) → IsPhasePoly (rs ++ t ∷ []) → EachSight (λ v s. Seen v os rs s) base xs → EachSight (λ v s. Seen v os (rs ++ t ∷ []) s) base ys)
    → EachSight (λ v s. Seen v outs (take i ts) s) base xs → EachSight (λ v s. Seen v outs (take (i + 1) ts) s) base ys
terms_more outs ts base i t xs ys p l e f h = subst (λ (r : List Term). EachSight (λ v s. Seen v outs r s) base ys) (sym (more_is ts i t l e)) (f outs (take i ts) (last_poly ts i t p l e) h)

pub terms_end : (outs : List (List (List ℕ))) (g ts : List Term) (base i : ℕ) (xs : List Sight) → ts ≡ g → length ts ≤ i → EachSight (λ v s. Seen v outs (take i ts) s) base xs → EachSight (λ v s. Seen v outs g s) base xs
terms_end outs g ts base i xs e l h = subst (λ (r : List Term). EachSight (λ v s. Seen v outs r s) base xs) (take_all i ts l ∙ e) h

-- ---- one variable alone
pub sight_more : (v : ℕ) (outs : List (List (List ℕ))) (ts : List Term) (i : ℕ) (t : Term) (old new next : Sight) → IsPhasePoly ts → i < length ts → t ≡ get_or ts i t → stands v t.mono ≡ true → new ≡ next
    → ((w : ℕ) (os : List (List (List ℕ))) (rs : List Term) → IsPhasePoly (rs ++ t ∷ []) → stands w t.mono ≡ true → Seen w os rs old → Seen w os (rs ++ t ∷ []) next) → Seen v outs (take i ts) old → Seen v outs (take (i + 1) ts) new
sight_more v outs ts i t old new next p l e s q f h =
    subst (λ (r : List Term). Seen v outs r new) (sym (more_is ts i t l e)) (subst (Seen v outs (take i ts ++ t ∷ [])) (sym q) (f v outs (take i ts) (last_poly ts i t p l e) s h))

pub sight_skip : (v : ℕ) (outs : List (List (List ℕ))) (ts : List Term) (i : ℕ) (t : Term) (old new : Sight) → i < length ts → t ≡ get_or ts i t → stands v t.mono ≡ false → new ≡ old → Seen v outs (take i ts) old → Seen v outs (take (i + 1) ts) new
sight_skip v outs ts i t old new l e n q h =
    subst (λ (r : List Term). Seen v outs r new) (sym (more_is ts i t l e)) (subst (Seen v outs (take i ts ++ t ∷ [])) (sym q) (seen_skip v outs (take i ts) t old n h))

-- what some of the terms tell of a variable that no step takes away, all of them do
pub other_early : (v : ℕ) (outs : List (List (List ℕ))) (g ts : List Term) (i : ℕ) (s : Sight) → s.kind ≡ Other → ts ≡ g → Seen v outs (take i ts) s → Seen v outs g s
other_early v outs g ts i s k e h =
    let spoilt = subst (λ x. SeenAs x v outs (take i ts) s.pairs s.wide) k h in
    subst (λ x. SeenAs x v outs g s.pairs s.wide) (sym k) (subst (IsSpoilt v outs) (take-append-drop i ts ∙ e) (spoilt_more v outs (take i ts) (drop i ts) spoilt))

-- ---- whether a variable stands in an output
outs_step : (v : ℕ) (fs : List (List (List ℕ))) (i : ℕ) (d : List (List ℕ)) → i < length fs → outs_occur v (drop i fs) ≡ (occurs v (get_or fs i d) || outs_occur v (drop (i + 1) fs))
unfolding outs_occur
outs_step v fs i d h = rw (add-one, drop-cons fs i d) refl

pub spoken_here : (v : ℕ) (fs : List (List (List ℕ))) (i : ℕ) (f : List (List ℕ)) (r : Bool) → i < length fs → f ≡ get_or fs i f → r ≡ occurs v f → r ≡ true → outs_occur v fs ≡ outs_occur v (drop i fs) → true ≡ outs_occur v fs
spoken_here v fs i f r l e er t k = sym (k ∙ outs_step v fs i f l ∙ ap (λ b. b || outs_occur v (drop (i + 1) fs)) (ap (occurs v) (sym e) ∙ sym er ∙ t))

pub spoken_next : (v : ℕ) (fs : List (List (List ℕ))) (i : ℕ) (f : List (List ℕ)) (r : Bool) → i < length fs → f ≡ get_or fs i f → r ≡ occurs v f → r ≡ false → outs_occur v fs ≡ outs_occur v (drop i fs) → outs_occur v fs ≡ outs_occur v (drop (i + 1) fs)
spoken_next v fs i f r l e er t k = k ∙ outs_step v fs i f l ∙ ap (λ b. b || outs_occur v (drop (i + 1) fs)) (ap (occurs v) (sym e) ∙ sym er ∙ t)

pub spoken_end : (v : ℕ) (fs : List (List (List ℕ))) (i : ℕ) → length fs ≤ i → outs_occur v fs ≡ outs_occur v (drop i fs) → false ≡ outs_occur v fs
unfolding outs_occur
spoken_end v fs i l k = sym (k ∙ ap (outs_occur v) (drop_of_length-le fs l))
