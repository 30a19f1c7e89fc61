-- Runs of one monomial combined, in a list that rises.
use Rattle.std.proofs.Common.{◌≡◌, ℕ, zero, suc, ◌+◌, ◌%◌, refl, ap, ap₂, sym, ◌∙◌, subst, arith, ◌<◌, ◌≤◌, Bool, true, false, List, [], ◌∷◌, ◌++◌, length, drop, take, get_or, append_assoc, drop_of_length-le, Ordering, Less, Equal, Greater, nat_cmp, ◌||◌, ◌⊎◌, inl, inr}
use Rattle.std.proofs.lemmas.Bool.{cases_lt}
use Rattle.ps_phase.proofs.Values.{coefficient_at, coefficient_none}
use Rattle.std.specs.Ordering.{is_lt, ordering_then, ordering_reverse, ordering_index}
use Rattle.std.specs.Cmp.Lexicographic.{slice_cmp}
use Rattle.std.specs.List.{sum_by, list_any}
use Rattle.std.specs.List.Sorted.{IsPermutation, IsSortedBy, IsPartitionPoint, IsNonDecreasingBy}
use Rattle.std.proofs.lemmas.Bool.Decides.{nat_tests}
use Rattle.std.proofs.lemmas.List.{take_more, take_all}
use Rattle.std.proofs.lemmas.List.Sorted.{sum_by-IsPermutation, list_any-IsPermutation, searchable_from_sorted}
use Rattle.std.proofs.lemmas.List.Sums.{sum_by-cons}
use Rattle.ps_phase.specs.declared.terms.Term.{Term}
use Rattle.ps_mono.specs.Sets.{mono_cmp, holds, stands, IsVarSet}
use Rattle.ps_mono.specs.Truth.{times}
use Rattle.ps_mono.proofs.Orders.{mono_total, mono_equal, mono_same, mono_flip, mono_trans}
use Rattle.ps_phase.specs.Phases.{phase_value, phase_occurs, coefficient, TermBefore, IsPhasePoly, AllSmall}
use Rattle.ps_phase.specs.Placing.{IsPlace}
use Rattle.ps_phase.specs.Adding.{choose, put_term, combined_terms}
use Rattle.ps_phase.proofs.Adding.{M, put_value, put_before, put_form, put_free, put_append, cut, choose_value, choose_before, choose_form, choose_free, both_value, neither, set_empty, times_none, from_one}

-- ---- values
apart : (m : List ℕ) (p : ℕ) (t : Term) (ts : List Term) (a : ℕ → Bool) → phase_value (combined_terms t.mono t.phase ts) a % M ≡ (times (holds t.mono a) t.phase + phase_value ts a) % M
    → phase_value (put_term m p (combined_terms t.mono t.phase ts)) a % M ≡ (times (holds m a) p + (times (holds t.mono a) t.phase + phase_value ts a)) % M
apart m p t ts a r = let q = put_value m p (combined_terms t.mono t.phase ts) a in omega arith

tied : (m : List ℕ) (p : ℕ) (t : Term) (ts : List Term) (a : ℕ → Bool) → mono_cmp m t.mono ≡ Equal → phase_value (combined_terms m ((p + t.phase) % M) ts) a % M ≡ (times (holds m a) ((p + t.phase) % M) + phase_value ts a) % M
    → phase_value (combined_terms m ((p + t.phase) % M) ts) a % M ≡ (times (holds m a) p + (times (holds t.mono a) t.phase + phase_value ts a)) % M
tied m p t ts a l q =
    let z : phase_value ts a % M ≡ (0 + phase_value ts a) % M = omega arith in
    let b = both_value (holds m a) p t.phase 0 (phase_value ts a) (phase_value ts a) z in
    let d = ap (λ k. times (holds k a) t.phase) (mono_equal m t.mono l) in
    omega arith

pub combined_value : (m : List ℕ) (p : ℕ) (ts : List Term) (a : ℕ → Bool) → phase_value (combined_terms m p ts) a % M ≡ (times (holds m a) p + phase_value ts a) % M
unfolding combined_terms phase_value
combined_value m p [] a = ap (λ r. r % M) (put_value m p [] a)
combined_value m p (t ∷ ts) a =
    choose_value (mono_cmp m t.mono) a _ _ _ _ (λ l. apart m p t ts a (combined_value t.mono t.phase ts a)) (λ l. tied m p t ts a l (combined_value m ((p + t.phase) % M) ts a)) (λ l. apart m p t ts a (combined_value t.mono t.phase ts a))

-- ---- order
-- nothing is below the one before it, from m on
abbrev Rising : List ℕ → List Term → Type 0
Rising m [] = Unit {0}
Rising m (t ∷ ts) = (is_lt (mono_cmp t.mono m) ≡ false) × Rising t.mono ts

no_fall : (m k : List ℕ) → mono_cmp m k ≡ Greater → is_lt (mono_cmp k m) ≡ false → ⊥
no_fall m k g l = tell (sym (ap is_lt (mono_flip m k g)) ∙ l)
  where
    tell : true ≡ false → ⊥
    tell e = cc

combined_before : (k m : List ℕ) (p : ℕ) (ts : List Term) → mono_cmp k m ≡ Less → Rising m ts → TermBefore k (combined_terms m p ts)
unfolding combined_terms
combined_before k m p [] l r = put_before k m p [] l tt
combined_before k m p (t ∷ ts) l r = choose_before k (mono_cmp m t.mono) _ _ _
    (λ o. put_before k m p _ l (combined_before k t.mono t.phase ts (mono_trans k m t.mono l o) r.1))
    (λ o. combined_before k m _ ts l (subst (λ (x : List ℕ). Rising x ts) (sym (mono_equal m t.mono o)) r.1))
    (λ o. absurd (no_fall m t.mono o r.0))

pub combined_form : (m : List ℕ) (p : ℕ) (ts : List Term) → IsVarSet m → p < M → AllSmall ts → Rising m ts → IsPhasePoly (combined_terms m p ts)
unfolding combined_terms
combined_form m p [] s h k r = put_form m p [] s h tt tt
combined_form m p (t ∷ ts) s h k r = choose_form (mono_cmp m t.mono) _ _ _
    (λ o. put_form m p _ s h (combined_before m t.mono t.phase ts o r.1) (combined_form t.mono t.phase ts k.0 k.1 k.2 r.1))
    (λ o. combined_form m _ ts s (omega arith) k.2 (subst (λ (x : List ℕ). Rising x ts) (sym (mono_equal m t.mono o)) r.1))
    (λ o. absurd (no_fall m t.mono o r.0))

pub combined_free : (v : ℕ) (m : List ℕ) (p : ℕ) (ts : List Term) → stands v m ≡ false → phase_occurs v ts ≡ false → phase_occurs v (combined_terms m p ts) ≡ false
unfolding combined_terms phase_occurs
combined_free v m p [] h k = put_free v m p [] h k
combined_free v m p (t ∷ ts) h k =
    let n = neither (stands v t.mono) (phase_occurs v ts) k in
    let f = put_free v m p _ h (combined_free v t.mono t.phase ts n.0 n.1) in
    choose_free v (mono_cmp m t.mono) _ _ _ f (combined_free v m _ ts h n.1) f

-- ---- a list that was sorted
abbrev pub falls : Term → Term → Bool
falls x y = is_lt (mono_cmp x.mono y.mono)

rising_from : (t : Term) (ts : List Term) → IsSortedBy falls (t ∷ ts) → Rising t.mono ts
rising_from t [] h = tt
rising_from t (u ∷ ts) h = (h 0 t (omega arith) (omega arith), rising_from u ts (λ k d a b. let e : suc k + 1 ≡ suc (k + 1) = omega arith in subst (λ (n : ℕ). falls (get_or (t ∷ u ∷ ts) n d) (get_or (u ∷ ts) k d) ≡ false) e (h (suc k) d (omega arith) (omega arith))))

none_below : (m : List ℕ) → is_lt (mono_cmp m []) ≡ false
none_below [] = refl
none_below (v ∷ m) = let e : nat_cmp (suc (length m)) 0 ≡ Greater = grind (arith, nat_tests) in ap (λ o. is_lt (ordering_then o (slice_cmp nat_cmp (v ∷ m) []))) e

pub sorted_rising : (ts : List Term) → IsSortedBy falls ts → Rising [] ts
sorted_rising [] h = tt
sorted_rising (t ∷ ts) h = (none_below t.mono, rising_from t ts h)

-- ---- another order of the terms
pub value_sum : (ts : List Term) (a : ℕ → Bool) → phase_value ts a ≡ sum_by (λ (t : Term). times (holds t.mono a) t.phase) ts
unfolding phase_value
value_sum [] a = refl
value_sum (t ∷ ts) a = ap (λ r. times (holds t.mono a) t.phase + r) (value_sum ts a) ∙ sym (sum_by-cons (λ (u : Term). times (holds u.mono a) u.phase) t ts)

pub moved_value : (xs ys : List Term) (a : ℕ → Bool) → IsPermutation xs ys → phase_value ys a ≡ phase_value xs a
moved_value xs ys a p = value_sum ys a ∙ sum_by-IsPermutation (λ (t : Term). times (holds t.mono a) t.phase) xs ys p ∙ sym (value_sum xs a)

occurs_any : (v : ℕ) (ts : List Term) → phase_occurs v ts ≡ list_any (λ (t : Term). stands v t.mono) ts
unfolding phase_occurs
occurs_any v [] = refl
occurs_any v (t ∷ ts) = ap (λ r. stands v t.mono || r) (occurs_any v ts)

pub moved_occurs : (v : ℕ) (xs ys : List Term) → IsPermutation xs ys → phase_occurs v ys ≡ phase_occurs v xs
moved_occurs v xs ys p = occurs_any v ys ∙ sym (list_any-IsPermutation (λ (t : Term). stands v t.mono) xs ys p) ∙ sym (occurs_any v xs)

-- ---- the loop of `combined`
pub combined_start : (ts out : List Term) (m : List ℕ) (p : ℕ) → out ≡ [] → m ≡ [] → p ≡ 0 → out ++ combined_terms m p (drop 0 ts) ≡ combined_terms [] 0 ts
combined_start ts out m p e f g = ap (λ (r : List Term). r ++ combined_terms m p ts) e ∙ ap₂ (λ (x : List ℕ) (y : ℕ). combined_terms x y ts) f g

pub combined_same : (ts out all : List Term) (m : List ℕ) (p q i : ℕ) (t : Term) → i < length ts → t ≡ get_or ts i t → Equal ≡ mono_cmp m t.mono → q ≡ (p + t.phase) % M → out ++ combined_terms m p (drop i ts) ≡ all → out ++ combined_terms m q (drop (i + 1) ts) ≡ all
unfolding combined_terms choose
combined_same ts out all m p q i t h et o eq e =
    ap (λ (r : List Term). out ++ r) (ap (λ (r : ℕ). combined_terms m r (drop (i + 1) ts)) eq
    ∙ ap (λ (c : Ordering). choose c (put_term m p (combined_terms t.mono t.phase (drop (i + 1) ts))) (combined_terms m ((p + t.phase) % M) (drop (i + 1) ts)) (put_term m p (combined_terms t.mono t.phase (drop (i + 1) ts)))) o
    ∙ ap (combined_terms m p) (sym (cut ts i t h et))) ∙ e

untied : (o : Ordering) (u w : List Term) → (o ≡ Equal → ⊥) → u ≡ choose o u w u
unfolding choose
untied Less u w n = refl
untied Equal u w n = absurd (n refl)
untied Greater u w n = refl

pub combined_other : (ts out out' all : List Term) (m m' : List ℕ) (p p' i : ℕ) (t : Term) → i < length ts → t ≡ get_or ts i t → (mono_cmp m t.mono ≡ Equal → ⊥) → m' ≡ t.mono → p' ≡ t.phase → out' ≡ out ++ put_term m p [] → out ++ combined_terms m p (drop i ts) ≡ all → out' ++ combined_terms m' p' (drop (i + 1) ts) ≡ all
unfolding combined_terms
combined_other ts out out' all m m' p p' i t h et o em ep eo e =
    ap (λ (r : List Term). r ++ combined_terms m' p' (drop (i + 1) ts)) eo ∙ append_assoc out (put_term m p []) _
    ∙ ap (λ (r : List Term). out ++ r) (put_append m p _ ∙ ap₂ (λ (x : List ℕ) (y : ℕ). put_term m p (combined_terms x y (drop (i + 1) ts))) em ep
    ∙ untied (mono_cmp m t.mono) _ _ o ∙ ap (combined_terms m p) (sym (cut ts i t h et))) ∙ e

pub combined_end : (ts out out' all : List Term) (m : List ℕ) (p i : ℕ) → length ts ≤ i → out' ≡ out ++ put_term m p [] → out ++ combined_terms m p (drop i ts) ≡ all → out' ≡ all
unfolding combined_terms
combined_end ts out out' all m p i h eo e = eo ∙ ap (λ (r : List Term). out ++ combined_terms m p r) (sym (drop_of_length-le ts h)) ∙ e

small_push : (ts : List Term) (t : Term) → AllSmall ts → IsVarSet t.mono → t.phase < M → AllSmall (ts ++ t ∷ [])
small_push [] t k s l = (s, l, tt)
small_push (u ∷ ts) t k s l = (k.0, k.1, small_push ts t k.2 s l)

pub small_more : (ts : List Term) (i : ℕ) (t : Term) → i < length ts → t ≡ get_or ts i t → IsVarSet t.mono → t.phase < M → AllSmall (take i ts) → AllSmall (take (i + 1) ts)
small_more ts i t h et s l k = subst AllSmall (sym (take_more ts i t h ∙ ap (λ (r : Term). take i ts ++ r ∷ []) (sym et))) (small_push (take i ts) t k s l)

pub small_end : (ts : List Term) (i : ℕ) → length ts ≤ i → AllSmall (take i ts) → AllSmall ts
small_end ts i h k = subst AllSmall (take_all i ts h) k

-- ---- a polynomial is sorted
less_back : (m k : List ℕ) → mono_cmp m k ≡ Less → is_lt (mono_cmp k m) ≡ false
less_back m k e = ap is_lt (mono_total.antisymm k m ∙ ap ordering_reverse e)

pub poly_sorted : (ts : List Term) → IsPhasePoly ts → IsSortedBy falls ts
poly_sorted [] s k d a b = absurd (omega arith)
poly_sorted (t ∷ []) s k d a b = absurd (omega arith)
poly_sorted (t ∷ u ∷ ts) s zero d a b = less_back t.mono u.mono s.1.0
poly_sorted (t ∷ u ∷ ts) s (suc k) d a b =
    let e : suc k + 1 ≡ suc (k + 1) = omega arith in
    subst (λ (n : ℕ). falls (get_or (t ∷ u ∷ ts) n d) (get_or (u ∷ ts) k d) ≡ false) (sym e) (poly_sorted (u ∷ ts) s.2 k d (omega arith) (omega arith))

not_tied : (o : Ordering) → (o ≡ Less) ⊎ (o ≡ Greater) → o ≡ Equal → ⊥
not_tied o (inl e) f = cc
not_tied o (inr e) f = cc

-- a search that ends between the lower and the higher
pub search_none : (m : List ℕ) (ts : List Term) (i : ℕ) → IsPartitionPoint (λ (y : Term). mono_cmp y.mono m ≡ Less) (λ (y : Term). mono_cmp y.mono m ≡ Greater) ts i → coefficient m ts ≡ 0
search_none m ts i p = coefficient_none m ts (λ k d l e. not_tied (mono_cmp (get_or ts k d).mono m) (side k d l (cases_lt k i)) (ap (λ x. mono_cmp x m) e ∙ mono_same m))
  where
    side : (k : ℕ) (d : Term) → k < length ts → ((k < i) ⊎ (i ≤ k)) → (mono_cmp (get_or ts k d).mono m ≡ Less) ⊎ (mono_cmp (get_or ts k d).mono m ≡ Greater)
    side k d l (inl h) = inl (p.0 k d (omega arith) h)
    side k d l (inr h) = inr (p.1 k d h l)

-- ---- the two steps of the loop, as its branches give them
pub combined_step_same : (ts out out' all : List Term) (m m' : List ℕ) (p p' q i : ℕ) (t : Term) → i < length ts → t ≡ get_or ts i t → Equal ≡ mono_cmp m t.mono → q ≡ (p + t.phase) % M → out' ≡ out → m' ≡ m → p' ≡ q → out ++ combined_terms m p (drop i ts) ≡ all → out' ++ combined_terms m' p' (drop (i + 1) ts) ≡ all
combined_step_same ts out out' all m m' p p' q i t h et o eq eo em ep e =
    ap₂ (λ (r : List Term) (x : List ℕ). r ++ combined_terms x p' (drop (i + 1) ts)) eo em ∙ combined_same ts out all m p p' i t h et o (ep ∙ eq) e

pub combined_step_other : (ts out new out' all : List Term) (m m' : List ℕ) (p p' q u : ℕ) (o : Ordering) (i : ℕ) (t : Term) → i < length ts → t ≡ get_or ts i t → o ≡ mono_cmp m t.mono → (o ≡ Equal → ⊥) → new ≡ out ++ put_term m p [] → q ≡ u → u ≡ t.phase → out' ≡ new → m' ≡ t.mono → p' ≡ q
    → out ++ combined_terms m p (drop i ts) ≡ all → out' ++ combined_terms m' p' (drop (i + 1) ts) ≡ all
combined_step_other ts out new out' all m m' p p' q u o i t h et eo nt en eq eu el em ep e = combined_other ts out out' all m m' p p' i t h et (λ k. nt (eo ∙ k)) em (ep ∙ eq ∙ eu) (el ∙ en) e

-- ---- what `gather` gives, where xs were sorted to ys
pub gathered_form : (ys zs vs : List Term) → zs ≡ ys → vs ≡ combined_terms [] 0 zs → AllSmall zs → IsSortedBy falls ys → IsPhasePoly vs
gathered_form ys zs vs ez ev k s = subst IsPhasePoly (sym ev) (combined_form [] 0 zs set_empty (omega arith) k (subst (Rising []) (sym ez) (sorted_rising ys s)))

pub gathered_value : (xs ys zs vs : List Term) → zs ≡ ys → vs ≡ combined_terms [] 0 zs → IsPermutation xs ys → (a : ℕ → Bool) → phase_value vs a % M ≡ phase_value xs a % M
unfolding times
gathered_value xs ys zs vs ez ev p a =
    let e = ap (λ (r : List Term). phase_value r a) ev in
    let v = combined_value [] 0 zs a in
    let z : times (holds [] a) 0 ≡ 0 = times_none (holds [] a) in
    let w = ap (λ (r : List Term). phase_value r a) ez ∙ moved_value xs ys a p in
    omega arith

pub gathered_free : (xs ys zs vs : List Term) → zs ≡ ys → vs ≡ combined_terms [] 0 zs → IsPermutation xs ys → (v : ℕ) → phase_occurs v vs ≡ true → phase_occurs v xs ≡ true
unfolding stands
gathered_free xs ys zs vs ez ev p v h = from_one _ _ (λ n. combined_free v [] 0 zs refl (ap (phase_occurs v) ez ∙ moved_occurs v xs ys p ∙ n)) (ap (phase_occurs v) (sym ev) ∙ h)

-- ---- what a binary search for m says of the coefficient; f is the list as it is searched, p as clauses see it
pub found_at : (m : List ℕ) (p xs f : List Term) (i : ℕ) (t : Term) → xs ≡ p → f ≡ xs → IsPhasePoly xs → i < length f → t ≡ get_or xs i t → ((d : Term) → mono_cmp (get_or f i d).mono m ≡ Equal) → t.phase ≡ coefficient m p
found_at m p xs f i t ep ef s l et h =
    let n : i < length xs = subst (λ (r : List Term). i < length r) ef l in
    let o : t.mono ≡ m = mono_equal t.mono m (ap (λ (x : Term). mono_cmp x.mono m) et ∙ ap (λ (r : List Term). mono_cmp (get_or r i t).mono m) (sym ef) ∙ h t) in
    coefficient_at m xs i t s n et o ∙ ap (coefficient m) ep

pub found_none : (m : List ℕ) (p xs f : List Term) (i n : ℕ) → xs ≡ p → f ≡ xs → IsPhasePoly xs → n ≡ 0
    → (IsNonDecreasingBy (λ (y : Term). ordering_index (mono_cmp y.mono m)) f → IsPartitionPoint (λ (y : Term). mono_cmp y.mono m ≡ Less) (λ (y : Term). mono_cmp y.mono m ≡ Greater) f i) → n ≡ coefficient m p
found_none m p xs f i n ep ef s z h =
    z ∙ sym (search_none m f i (h (searchable_from_sorted mono_total (λ (t : Term). t.mono) f m (poly_sorted f (subst IsPhasePoly (sym ef) s))))) ∙ ap (coefficient m) (ef ∙ ep)

-- ---- what a search for m says of its place
pub place_of : (m : List ℕ) (ts : List Term) (i : ℕ) → i < length ts → ((d : Term) → mono_cmp (get_or ts i d).mono m ≡ Equal) → IsPlace m ts i
place_of m ts i h f = record { inside = h; mono = λ d. mono_equal (get_or ts i d).mono m (f d) }

pub none_at : (m : List ℕ) (f : List Term) (i : ℕ) → IsPhasePoly f
    → (IsNonDecreasingBy (λ (y : Term). ordering_index (mono_cmp y.mono m)) f → IsPartitionPoint (λ (y : Term). mono_cmp y.mono m ≡ Less) (λ (y : Term). mono_cmp y.mono m ≡ Greater) f i) → coefficient m f ≡ 0
none_at m f i s h = sym (found_none m f f f i 0 refl refl s refl h)
