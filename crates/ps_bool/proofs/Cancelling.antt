-- A sorted list without its equal neighbours in pairs.
use Rattle.std.proofs.Common.{◌≡◌, ℕ, zero, suc, ◌+◌, refl, ap, ap₂, sym, ◌∙◌, subst, arith, ◌<◌, ◌≤◌, Bool, true, false, cond, nat_eq, ◌||◌, List, [], ◌∷◌, ◌++◌, length, take, drop, set, get_or, drop-cons, add-one, drop_of_length-le, append-nil, append_assoc, ◌⊎◌, inl, inr, Ordering, Less, Equal, Greater}
use Rattle.std.specs.Ordering.{is_lt, is_gt, ordering_reverse}
use Rattle.std.specs.List.{sum_by, list_any}
use Rattle.std.specs.List.Sorted.{IsPermutation, IsSorted}
use Rattle.std.specs.Cmp.Lexicographic.{pointwise}
use Rattle.std.proofs.lemmas.Bool.{cases_lt}
use Rattle.std.proofs.lemmas.Cmp.{upto}
use Rattle.std.proofs.lemmas.List.{take_more_set, drop-set-lt}
use Rattle.std.proofs.lemmas.List.Sums.{sum_by-cons}
use Rattle.std.proofs.lemmas.List.Sorted.{sum_by-IsPermutation, list_any-IsPermutation}
use Rattle.ps_mono.specs.Sets.{mono_cmp, holds, stands, IsVarSet}
use Rattle.ps_mono.specs.Truth.{differ, times}
use Rattle.ps_mono.specs.Orders.{mono_total, mono_equal, mono_trans}
use Rattle.ps_bool.specs.Polys.{bool_value, occurs, Each, Ascending, AllSets, IsPoly}
use Rattle.ps_bool.specs.Merging.{cancelled}
use Rattle.ps_bool.proofs.Bools.{differ_self, true_is_not_false, unless}
use Rattle.ps_bool.proofs.Variables.{misses, missed}
use Rattle.ps_bool.proofs.Merges.{Mono}
use Rattle.ps_bool.proofs.Values.{mono_eq}

-- ---- values
pub cancelled_value : (f : List Mono) (a : ℕ → Bool) → bool_value (cancelled f) a ≡ bool_value f a
unfolding cancelled bool_value
cancelled_value [] a = refl
cancelled_value (x ∷ []) a = refl
cancelled_value (x ∷ y ∷ f) a = by (pointwise nat_eq x y) refl (cancelled_value f a) (cancelled_value (y ∷ f) a)
  where
    by : (b : Bool) → pointwise nat_eq x y ≡ b → bool_value (cancelled f) a ≡ bool_value f a → bool_value (cancelled (y ∷ f)) a ≡ differ (holds y a) (bool_value f a)
        → bool_value (cond b (cancelled f) (x ∷ cancelled (y ∷ f))) a ≡ differ (holds x a) (differ (holds y a) (bool_value f a))
    by true e p q = p ∙ sym (differ_self (holds x a) (bool_value f a)) ∙ ap (λ (z : Mono). differ (holds x a) (differ (holds z a) (bool_value f a))) ((mono_eq x y).0 e)
    by false e p q = ap (differ (holds x a)) q

-- ---- what holds of each
pub cancelled_each : (P : Mono → Type 0) (f : List Mono) → Each P f → Each P (cancelled f)
unfolding cancelled
cancelled_each P [] h = tt
cancelled_each P (x ∷ []) h = h
cancelled_each P (x ∷ y ∷ f) h = by (pointwise nat_eq x y) (cancelled_each P f h.1.1) (cancelled_each P (y ∷ f) h.1)
  where
    by : (b : Bool) → Each P (cancelled f) → Each P (cancelled (y ∷ f)) → Each P (cond b (cancelled f) (x ∷ cancelled (y ∷ f)))
    by true p q = p
    by false p q = (h.0, q)

-- ---- order
-- m comes before each or is equal to it
abbrev pub UpTo : Mono → List Mono → Type 0
UpTo m f = Each (λ k. is_gt (mono_cmp m k) ≡ false) f

abbrev pub NonDescending : List Mono → Type 0
NonDescending [] = Unit {0}
NonDescending (m ∷ f) = UpTo m f × NonDescending f

each_map : (P Q : Mono → Type 0) → ((m : Mono) → P m → Q m) → (f : List Mono) → Each P f → Each Q f
each_map P Q h [] e = tt
each_map P Q h (m ∷ f) e = (h m e.0, each_map P Q h f e.1)

not_above : (o : Ordering) → is_gt o ≡ false → (o ≡ Less) ⊎ (o ≡ Equal)
not_above Less e = inl refl
not_above Equal e = inr refl
not_above Greater e = absurd (true_is_not_false e)

less_upto : (x y k : Mono) → mono_cmp x y ≡ Less → is_gt (mono_cmp y k) ≡ false → mono_cmp x k ≡ Less
less_upto x y k l g = by (not_above (mono_cmp y k) g)
  where
    by : ((mono_cmp y k ≡ Less) ⊎ (mono_cmp y k ≡ Equal)) → mono_cmp x k ≡ Less
    by (inl e) = mono_trans x y k l e
    by (inr e) = ap (mono_cmp x) (sym (mono_equal y k e)) ∙ l

strictly : (x y : Mono) → is_gt (mono_cmp x y) ≡ false → pointwise nat_eq x y ≡ false → mono_cmp x y ≡ Less
strictly x y g d = by (not_above (mono_cmp x y) g)
  where
    by : ((mono_cmp x y ≡ Less) ⊎ (mono_cmp x y ≡ Equal)) → mono_cmp x y ≡ Less
    by (inl e) = e
    by (inr e) = absurd (true_is_not_false (sym ((mono_eq x y).1 (mono_equal x y e)) ∙ d))

pub cancelled_ascending : (f : List Mono) → NonDescending f → Ascending (cancelled f)
unfolding cancelled
cancelled_ascending [] h = tt
cancelled_ascending (x ∷ []) h = (tt, tt)
cancelled_ascending (x ∷ y ∷ f) h = by (pointwise nat_eq x y) refl (cancelled_ascending f h.1.1) (cancelled_ascending (y ∷ f) h.1)
  where
    by : (b : Bool) → pointwise nat_eq x y ≡ b → Ascending (cancelled f) → Ascending (cancelled (y ∷ f)) → Ascending (cond b (cancelled f) (x ∷ cancelled (y ∷ f)))
    by true e p q = p
    by false e p q =
        let l : mono_cmp x y ≡ Less = strictly x y h.0.0 e in
        (cancelled_each (λ k. mono_cmp x k ≡ Less) (y ∷ f) (l, each_map _ _ (λ k g. less_upto x y k l g) f h.1.0), q)

-- ---- from a sort
turned : (o : Ordering) → is_lt o ≡ false → is_gt (ordering_reverse o) ≡ false
turned Less e = absurd (true_is_not_false e)
turned Equal e = refl
turned Greater e = refl

neighbours : (m k : Mono) (f : List Mono) → IsSorted mono_cmp (m ∷ k ∷ f) → is_gt (mono_cmp m k) ≡ false
neighbours m k f s = ap is_gt (mono_total.antisymm m k) ∙ turned (mono_cmp k m) (s 0 m (omega arith) (omega arith))

sorted_tail : (m : Mono) (f : List Mono) → IsSorted mono_cmp (m ∷ f) → IsSorted mono_cmp f
sorted_tail m f s = λ k d l n. let e : suc k + 1 ≡ suc (k + 1) = omega arith in subst (λ (j : ℕ). is_lt (mono_cmp (get_or (m ∷ f) j d) (get_or f k d)) ≡ false) e (s (suc k) d (omega arith) (omega arith))

pub sorted_nondescending : (f : List Mono) → IsSorted mono_cmp f → NonDescending f
sorted_nondescending [] s = tt
sorted_nondescending (m ∷ f) s = by f s (sorted_nondescending f (sorted_tail m f s))
  where
    by : (f : List Mono) → IsSorted mono_cmp (m ∷ f) → NonDescending f → UpTo m f × NonDescending f
    by [] s n = (tt, tt)
    by (k ∷ f) s n = let g = neighbours m k f s in ((g, each_map _ _ (λ z h. upto mono_total m k z g h) f n.0), n)

-- ---- another order of the same monomials
odd : ℕ → Bool
odd zero = false
odd (suc n) = differ true (odd n)

odd_times : (b : Bool) (n : ℕ) → odd (times b 1 + n) ≡ differ b (odd n)
unfolding odd times differ
odd_times true n = (let e : 1 + n ≡ suc n = omega arith in ap odd e)
odd_times false n = (let e : 0 + n ≡ n = omega arith in ap odd e) ∙ same (odd n)
  where
    same : (b : Bool) → b ≡ differ false b
    same true = refl
    same false = refl

value_count : (f : List Mono) (a : ℕ → Bool) → bool_value f a ≡ odd (sum_by (λ m. times (holds m a) 1) f)
unfolding bool_value odd
value_count [] a = refl
value_count (m ∷ f) a = ap (differ (holds m a)) (value_count f a) ∙ sym (odd_times (holds m a) _) ∙ ap odd (sym (sum_by-cons (λ m. times (holds m a) 1) m f))

pub value-permutation : (f g : List Mono) → IsPermutation f g → (a : ℕ → Bool) → bool_value g a ≡ bool_value f a
value-permutation f g p a = value_count g a ∙ ap odd (sum_by-IsPermutation (λ m. times (holds m a) 1) f g p) ∙ sym (value_count f a)

occurs_any : (v : ℕ) (f : List Mono) → occurs v f ≡ list_any (λ m. stands v m) f
unfolding occurs
occurs_any v [] = refl
occurs_any v (m ∷ f) = ap (λ b. stands v m || b) (occurs_any v f)

pub occurs-permutation : (v : ℕ) (f g : List Mono) → IsPermutation f g → occurs v g ≡ occurs v f
occurs-permutation v f g p = occurs_any v g ∙ sym (list_any-IsPermutation (λ m. stands v m) f g p) ∙ sym (occurs_any v f)

-- ---- the loop, by places
cut : (f : List Mono) (i : ℕ) (x : Mono) → i < length f → x ≡ get_or f i x → drop i f ≡ x ∷ drop (i + 1) f
cut f i x h e = drop-cons f i x h ∙ ap₂ (λ (v : Mono) (n : ℕ). v ∷ drop n f) (sym e) (sym (add-one i))

skip : (x y : Mono) (f : List Mono) → pointwise nat_eq x y ≡ true → cancelled (x ∷ y ∷ f) ≡ cancelled f
unfolding cancelled
skip x y f e = ap (λ b. cond b (cancelled f) (x ∷ cancelled (y ∷ f))) e

pub pair_dropped : (f out all : List Mono) (i : ℕ) (x y : Mono) → i + 1 < length f → x ≡ get_or f i x → y ≡ get_or f (i + 1) y → pointwise nat_eq x y ≡ true
    → out ++ cancelled (drop i f) ≡ all → out ++ cancelled (drop (i + 2) f) ≡ all
pair_dropped f out all i x y h ex ey t e =
    let n : (i + 1) + 1 ≡ i + 2 = omega arith in
    ap (λ (r : List Mono). out ++ r) (ap (λ k. cancelled (drop k f)) (sym n) ∙ sym (skip x y (drop ((i + 1) + 1) f) t) ∙ ap (λ (r : List Mono). cancelled (x ∷ r)) (sym (cut f (i + 1) y h ey)) ∙ ap cancelled (sym (cut f i x (omega arith) ex))) ∙ e

-- the monomial at place i is unlike the one behind it, or the last
abbrev pub Unlike : List Mono → ℕ → Mono → Type 0
Unlike f i x = (length f ≤ i + 1) ⊎ ((y : Mono) × (y ≡ get_or f (i + 1) y) × (pointwise nat_eq x y ≡ false))

last_stays : (f : List Mono) (i : ℕ) (x : Mono) → i < length f → x ≡ get_or f i x → length f ≤ i + 1 → cancelled (drop i f) ≡ x ∷ cancelled (drop (i + 1) f)
unfolding cancelled
last_stays f i x h e l = ap cancelled (cut f i x h e) ∙ ap (λ (r : List Mono). cancelled (x ∷ r)) (drop_of_length-le f l) ∙ ap (λ (r : List Mono). x ∷ cancelled r) (sym (drop_of_length-le f l))

unlike_stays : (f : List Mono) (i : ℕ) (x y : Mono) → i + 1 < length f → x ≡ get_or f i x → y ≡ get_or f (i + 1) y → pointwise nat_eq x y ≡ false → cancelled (drop i f) ≡ x ∷ cancelled (drop (i + 1) f)
unfolding cancelled
unlike_stays f i x y l e d w =
    let c = cut f (i + 1) y l d in
    ap cancelled (cut f i x (omega arith) e) ∙ ap (λ (r : List Mono). cancelled (x ∷ r)) c ∙ ap (λ b. cond b (cancelled (drop ((i + 1) + 1) f)) (x ∷ cancelled (y ∷ drop ((i + 1) + 1) f))) w ∙ ap (λ (r : List Mono). x ∷ cancelled r) (sym c)

stays : (f : List Mono) (i : ℕ) (x : Mono) → i < length f → x ≡ get_or f i x → Unlike f i x → cancelled (drop i f) ≡ x ∷ cancelled (drop (i + 1) f)
stays f i x h e (inl l) = last_stays f i x h e l
stays f i x h e (inr w) = by (cases_lt (i + 1) (length f))
  where
    by : ((i + 1 < length f) ⊎ (length f ≤ i + 1)) → cancelled (drop i f) ≡ x ∷ cancelled (drop (i + 1) f)
    by (inl l) = unlike_stays f i x w.0 l e w.1 w.2
    by (inr l) = last_stays f i x h e l

pub one_kept : (f all : List Mono) (kept i : ℕ) (x : Mono) → kept ≤ i → i < length f → x ≡ get_or f i x → Unlike f i x
    → take kept f ++ cancelled (drop i f) ≡ all → take (kept + 1) (set f kept x) ++ cancelled (drop (i + 1) (set f kept x)) ≡ all
one_kept f all kept i x k h ex u e =
    ap₂ (λ (r s : List Mono). r ++ cancelled s) (take_more_set f kept x (omega arith)) (drop-set-lt (i + 1) f kept x (omega arith))
    ∙ append_assoc (take kept f) (x ∷ []) _
    ∙ ap (λ (r : List Mono). take kept f ++ r) (sym (stays f i x h ex u))
    ∙ e

pub all_kept : (f all : List Mono) (kept i : ℕ) → length f ≤ i → take kept f ++ cancelled (drop i f) ≡ all → take kept f ≡ all
unfolding cancelled
all_kept f all kept i l e = sym (append-nil (take kept f)) ∙ ap (λ (r : List Mono). take kept f ++ cancelled r) (sym (drop_of_length-le f l)) ∙ e

each_append : (P : Mono → Type 0) (f : List Mono) (m : Mono) → Each P f → P m → Each P (f ++ m ∷ [])
each_append P [] m h p = (p, tt)
each_append P (k ∷ f) m h p = (h.0, each_append P f m h.1 p)

pub sets_kept : (f : List Mono) (kept i : ℕ) (x : Mono) → kept ≤ i → i < length f → IsVarSet x → AllSets (take kept f) → AllSets (take (kept + 1) (set f kept x))
sets_kept f kept i x k h s e = rw (take_more_set f kept x (omega arith)) (each_append IsVarSet (take kept f) x e s)

-- ---- after a sort
-- g is f in order, and out is g without pairs
pub gathered_form : (f g out : List Mono) → IsSorted mono_cmp g → out ≡ cancelled g → AllSets out → IsPoly out
gathered_form f g out s e h = record { in_order = rw e (cancelled_ascending g (sorted_nondescending g s)); sets = h }

pub gathered_value : (f g out : List Mono) → IsPermutation f g → out ≡ cancelled g → (a : ℕ → Bool) → bool_value out a ≡ bool_value f a
gathered_value f g out p e a = ap (λ (z : List Mono). bool_value z a) e ∙ cancelled_value g a ∙ value-permutation f g p a

cancelled_occurs : (v : ℕ) (f : List Mono) → occurs v f ≡ false → occurs v (cancelled f) ≡ false
cancelled_occurs v f n = missed v (cancelled f) (cancelled_each (λ m. stands v m ≡ false) f (misses v f n))

pub gathered_variables : (f g out : List Mono) → IsPermutation f g → out ≡ cancelled g → (v : ℕ) → occurs v out ≡ true → occurs v f ≡ true
gathered_variables f g out p e v t = unless (occurs v out) (occurs v f) (λ n. ap (occurs v) e ∙ cancelled_occurs v g (occurs-permutation v f g p ∙ n)) t
