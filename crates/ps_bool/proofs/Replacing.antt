-- The monomials with a variable and those without it, and a value in place of the variable.
use Rattle.std.proofs.Common.{◌≡◌, ◌≢◌, ℕ, ◌+◌, refl, ap, ap₂, sym, ◌∙◌, arith, ◌<◌, ◌≤◌, Bool, true, false, cond, not, ◌&&◌, ◌||◌, nat_eq, List, [], ◌∷◌, ◌++◌, length, drop, get_or, drop-cons, add-one, drop_of_length-le, append-nil, append_assoc, ◌⊎◌, inl, inr, Less}
use Rattle.std.specs.List.{filter}
use Rattle.ps_mono.specs.Sets.{mono_cmp, holds, stands, IsVarSet}
use Rattle.ps_mono.specs.Lists.{nat_eq_same, nat_eq_true}
use Rattle.ps_mono.specs.Truth.{differ, with_value}
use Rattle.ps_mono.proofs.Laws.{holds_without}
use Rattle.ps_bool.specs.Polys.{bool_value, occurs, Each, Before, Ascending, IsPoly}
use Rattle.ps_bool.specs.Merging.{merge}
use Rattle.ps_bool.proofs.Bools.{true_is_not_false, differ_cross, differ_far, differ_none, differ_zero, and_comm, no_first, no_second, both_no, unless}
use Rattle.ps_bool.proofs.Merges.{Mono, merge_value, merge_poly}
use Rattle.ps_bool.proofs.Unique.{holds_agree}
use Rattle.ps_bool.proofs.Variables.{misses, missed, occurs-merge}
use Rattle.ps_bool.proofs.Products.{missing_at}

-- ---- a filter keeps order and sets
filter_each : (P : Mono → Type 0) (p : Mono → Bool) (f : List Mono) → Each P f → Each P (filter p f)
filter_each P p [] h = tt
filter_each P p (m ∷ f) h = by (p m) (filter_each P p f h.1)
  where
    by : (b : Bool) → Each P (filter p f) → Each P (cond b (m ∷ filter p f) (filter p f))
    by true r = (h.0, r)
    by false r = r

filter_ascending : (p : Mono → Bool) (f : List Mono) → Ascending f → Ascending (filter p f)
filter_ascending p [] h = tt
filter_ascending p (m ∷ f) h = by (p m) (filter_each (λ k. mono_cmp m k ≡ Less) p f h.0) (filter_ascending p f h.1)
  where
    by : (b : Bool) → Before m (filter p f) → Ascending (filter p f) → Ascending (cond b (m ∷ filter p f) (filter p f))
    by true r s = (r, s)
    by false r s = s

filter_poly : (p : Mono → Bool) (f : List Mono) → IsPoly f → IsPoly (filter p f)
filter_poly p f h = record { in_order = filter_ascending p f h.in_order; sets = filter_each IsVarSet p f h.sets }

-- ---- the filter of the rest, by places
pub filter_on : (p : Mono → Bool) (f : List Mono) (i : ℕ) (x : Mono) → i < length f → x ≡ get_or f i x → p x ≡ true → filter p (drop i f) ≡ x ∷ filter p (drop (i + 1) f)
filter_on p f i x h e t = ap (filter p) (drop-cons f i x h ∙ ap₂ (λ (y : Mono) (n : ℕ). y ∷ drop n f) (sym e) (sym (add-one i))) ∙ ap (λ b. cond b (x ∷ filter p (drop (i + 1) f)) (filter p (drop (i + 1) f))) t

pub filter_off : (p : Mono → Bool) (f : List Mono) (i : ℕ) (x : Mono) → i < length f → x ≡ get_or f i x → p x ≡ false → filter p (drop i f) ≡ filter p (drop (i + 1) f)
filter_off p f i x h e t = ap (filter p) (drop-cons f i x h ∙ ap₂ (λ (y : Mono) (n : ℕ). y ∷ drop n f) (sym e) (sym (add-one i))) ∙ ap (λ b. cond b (x ∷ filter p (drop (i + 1) f)) (filter p (drop (i + 1) f))) t

pub kept_on : (p : Mono → Bool) (f out : List Mono) (i : ℕ) (x : Mono) → i < length f → x ≡ get_or f i x → p x ≡ true → out ++ filter p (drop i f) ≡ filter p f → (out ++ x ∷ []) ++ filter p (drop (i + 1) f) ≡ filter p f
kept_on p f out i x h e t w = append_assoc out (x ∷ []) _ ∙ ap (λ (r : List Mono). out ++ r) (sym (filter_on p f i x h e t)) ∙ w

pub kept_off : (p : Mono → Bool) (f out : List Mono) (i : ℕ) (x : Mono) → i < length f → x ≡ get_or f i x → p x ≡ false → out ++ filter p (drop i f) ≡ filter p f → out ++ filter p (drop (i + 1) f) ≡ filter p f
kept_off p f out i x h e t w = ap (λ (r : List Mono). out ++ r) (sym (filter_off p f i x h e t)) ∙ w

pub kept_end : (p : Mono → Bool) (f out : List Mono) (i : ℕ) → length f ≤ i → out ++ filter p (drop i f) ≡ filter p f → out ≡ filter p f
kept_end p f out i l w = sym (append-nil out) ∙ ap (λ (r : List Mono). out ++ filter p r) (sym (drop_of_length-le f l)) ∙ w

-- ---- a value in place of a variable
same_value : (m : Mono) (v : ℕ) (a : ℕ → Bool) (b : Bool) → stands v m ≡ false → (u : ℕ) → stands u m ≡ true → with_value a v b u ≡ a u
same_value m v a b n u s = by (nat_eq u v) refl
  where
    by : (t : Bool) → nat_eq u v ≡ t → cond t b (a u) ≡ a u
    by true e = absurd (true_is_not_false (sym s ∙ ap (λ w. stands w m) (nat_eq_true u v e) ∙ n))
    by false e = refl

-- a monomial without v does not see the value of v
pub holds_apart : (m : Mono) (v : ℕ) (a : ℕ → Bool) (b : Bool) → stands v m ≡ false → holds m (with_value a v b) ≡ holds m a
holds_apart m v a b n = holds_agree m (with_value a v b) a (same_value m v a b n)

-- one with v is the value of v times what is left
pub holds_replaced : (m u : Mono) (v : ℕ) (a : ℕ → Bool) (b : Bool) → ((w : ℕ) → stands w u ≡ (stands w m && not (nat_eq w v))) → stands v m ≡ true → holds m (with_value a v b) ≡ (holds u a && b)
holds_replaced m u v a b f t =
    holds_without m u v f t (with_value a v b)
    ∙ ap₂ (λ (x y : Bool). x && y) (ap (λ t. cond t b (a v)) (nat_eq_same v)) (holds_apart u v a b (f v ∙ ap₂ (λ (x y : Bool). x && not y) t (nat_eq_same v)))
    ∙ and_comm b (holds u a)

-- ---- the monomials with v, replaced
pub replaced_next : (f g by xs : List Mono) (i : ℕ) (x u : Mono) (v : ℕ) (r : Bool) → i < length xs → x ≡ get_or xs i x → r ≡ stands v x → r ≡ true → ((w : ℕ) → stands w u ≡ (stands w x && not (nat_eq w v))) → (a : ℕ → Bool)
    → bool_value g a ≡ differ (bool_value f a) (holds u a && bool_value by a)
    → differ (bool_value f a) (bool_value (filter (λ m. stands v m) (drop i xs)) (with_value a v (bool_value by a))) ≡ bool_value (filter (λ m. stands v m) xs) (with_value a v (bool_value by a))
    → differ (bool_value g a) (bool_value (filter (λ m. stands v m) (drop (i + 1) xs)) (with_value a v (bool_value by a))) ≡ bool_value (filter (λ m. stands v m) xs) (with_value a v (bool_value by a))
unfolding bool_value
replaced_next f g by xs i x u v r h e er t k a p w =
    let s : stands v x ≡ true = sym er ∙ t in
    let b : Bool = bool_value by a in
    let rest : Bool = bool_value (filter (λ m. stands v m) (drop (i + 1) xs)) (with_value a v b) in
    ap (λ c. differ c rest) (p ∙ ap (differ (bool_value f a)) (sym (holds_replaced x u v a b k s)))
    ∙ sym (differ_cross (bool_value f a) (holds x (with_value a v b)) rest)
    ∙ ap (λ (z : List Mono). differ (bool_value f a) (bool_value z (with_value a v b))) (sym (filter_on (λ m. stands v m) xs i x h e s))
    ∙ w

pub replaced_off : (f by xs : List Mono) (i : ℕ) (x : Mono) (v : ℕ) (r : Bool) → i < length xs → x ≡ get_or xs i x → r ≡ stands v x → r ≡ false → (a : ℕ → Bool)
    → differ (bool_value f a) (bool_value (filter (λ m. stands v m) (drop i xs)) (with_value a v (bool_value by a))) ≡ bool_value (filter (λ m. stands v m) xs) (with_value a v (bool_value by a))
    → differ (bool_value f a) (bool_value (filter (λ m. stands v m) (drop (i + 1) xs)) (with_value a v (bool_value by a))) ≡ bool_value (filter (λ m. stands v m) xs) (with_value a v (bool_value by a))
replaced_off f by xs i x v r h e er t a w = ap (λ (z : List Mono). differ (bool_value f a) (bool_value z (with_value a v (bool_value by a)))) (sym (filter_off (λ m. stands v m) xs i x h e (sym er ∙ t))) ∙ w

pub replaced_end : (f by xs : List Mono) (i : ℕ) (v : ℕ) → length xs ≤ i → (a : ℕ → Bool)
    → differ (bool_value f a) (bool_value (filter (λ m. stands v m) (drop i xs)) (with_value a v (bool_value by a))) ≡ bool_value (filter (λ m. stands v m) xs) (with_value a v (bool_value by a))
    → bool_value f a ≡ bool_value (filter (λ m. stands v m) xs) (with_value a v (bool_value by a))
unfolding bool_value
replaced_end f by xs i v l a w = sym (differ_zero (bool_value f a)) ∙ ap (λ (z : List Mono). differ (bool_value f a) (bool_value (filter (λ m. stands v m) z) (with_value a v (bool_value by a)))) (sym (drop_of_length-le xs l)) ∙ w

pub replaced_start : (xs by : List Mono) (v : ℕ) (a : ℕ → Bool) → differ (bool_value [] a) (bool_value (filter (λ m. stands v m) xs) (with_value a v (bool_value by a))) ≡ bool_value (filter (λ m. stands v m) xs) (with_value a v (bool_value by a))
unfolding bool_value
replaced_start xs by v a = sym (differ_none _)

and_less : (p q s : Bool) → (s ≡ true → p ≡ true) → (p && q) ≡ false → (s && q) ≡ false
and_less p q true h n = ap (λ b. b && q) (sym (h refl)) ∙ n
and_less p q false h n = refl

-- what is left of a monomial brings in no other variable
pub left_missing : (u v : ℕ) (xs : List Mono) (i : ℕ) (x r : Mono) → i < length xs → x ≡ get_or xs i x → ((w : ℕ) → stands w r ≡ (stands w x && not (nat_eq w v))) → (occurs u xs && not (nat_eq u v)) ≡ false → stands u r ≡ false
left_missing u v xs i x r h e k n = k u ∙ and_less (occurs u xs) (not (nat_eq u v)) (stands u x) (unless (stands u x) (occurs u xs) (λ o. missing_at u xs i x h e o)) n

-- ---- both together
value-split : (f : List Mono) (v : ℕ) (a : ℕ → Bool) → differ (bool_value (filter (λ m. not (stands v m)) f) a) (bool_value (filter (λ m. stands v m) f) a) ≡ bool_value f a
unfolding bool_value
value-split [] v a = sym (differ_none false)
value-split (m ∷ f) v a = by (stands v m) (value-split f v a)
  where
    by : (b : Bool) → differ (bool_value (filter (λ m. not (stands v m)) f) a) (bool_value (filter (λ m. stands v m) f) a) ≡ bool_value f a
        → differ (bool_value (cond (not b) (m ∷ filter (λ m. not (stands v m)) f) (filter (λ m. not (stands v m)) f)) a) (bool_value (cond b (m ∷ filter (λ m. stands v m) f) (filter (λ m. stands v m) f)) a) ≡ differ (holds m a) (bool_value f a)
    by true w = differ_far (bool_value (filter (λ m. not (stands v m)) f) a) (holds m a) (bool_value (filter (λ m. stands v m) f) a) ∙ ap (differ (holds m a)) w
    by false w = sym (differ_cross (holds m a) (bool_value (filter (λ m. not (stands v m)) f) a) (bool_value (filter (λ m. stands v m) f) a)) ∙ ap (differ (holds m a)) w

value-without : (f : List Mono) (v : ℕ) (a : ℕ → Bool) (b : Bool) → bool_value (filter (λ m. not (stands v m)) f) (with_value a v b) ≡ bool_value (filter (λ m. not (stands v m)) f) a
unfolding bool_value
value-without [] v a b = refl
value-without (m ∷ f) v a b = by (stands v m) refl (value-without f v a b)
  where
    by : (t : Bool) → stands v m ≡ t → bool_value (filter (λ m. not (stands v m)) f) (with_value a v b) ≡ bool_value (filter (λ m. not (stands v m)) f) a
        → bool_value (cond (not t) (m ∷ filter (λ m. not (stands v m)) f) (filter (λ m. not (stands v m)) f)) (with_value a v b) ≡ bool_value (cond (not t) (m ∷ filter (λ m. not (stands v m)) f) (filter (λ m. not (stands v m)) f)) a
    by true e w = w
    by false e w = ap₂ differ (holds_apart m v a b e) w

filter_misses : (v : ℕ) (f : List Mono) → occurs v (filter (λ m. not (stands v m)) f) ≡ false
unfolding occurs
filter_misses v [] = refl
filter_misses v (m ∷ f) = by (stands v m) refl (filter_misses v f)
  where
    by : (t : Bool) → stands v m ≡ t → occurs v (filter (λ m. not (stands v m)) f) ≡ false → occurs v (cond (not t) (m ∷ filter (λ m. not (stands v m)) f) (filter (λ m. not (stands v m)) f)) ≡ false
    by true e w = w
    by false e w = both_no (stands v m) _ e w

occurs-without : (u v : ℕ) (f : List Mono) → (occurs u f && not (nat_eq u v)) ≡ false → occurs u (filter (λ m. not (stands v m)) f) ≡ false
occurs-without u v f n = by (nat_eq u v) refl n
  where
    by : (t : Bool) → nat_eq u v ≡ t → (occurs u f && not t) ≡ false → occurs u (filter (λ m. not (stands v m)) f) ≡ false
    by true e k = ap (λ w. occurs w (filter (λ m. not (stands v m)) f)) (nat_eq_true u v e) ∙ filter_misses v f
    by false e k = missed u (filter (λ m. not (stands v m)) f) (filter_each (λ m. stands u m ≡ false) (λ m. not (stands v m)) f (misses u f (sym (and_comm (occurs u f) true) ∙ k)))

-- f without v, and the polynomial g of its other monomials with `by` in place of v
pub record Replaces (f by g : List Mono) (v : ℕ) : Type 0 where
  pub form : IsPoly g
  pub value : (a : ℕ → Bool) → bool_value g a ≡ bool_value (filter (λ m. stands v m) f) (with_value a v (bool_value by a))
  pub variables : (u : ℕ) → (occurs u f && not (nat_eq u v)) ≡ false → occurs u by ≡ false → occurs u g ≡ false

pub subst_value : (f by g : List Mono) (v : ℕ) → Replaces f by g v → (a : ℕ → Bool) → bool_value (merge (filter (λ m. not (stands v m)) f) g) a ≡ bool_value f (with_value a v (bool_value by a))
subst_value f by g v r a =
    merge_value (filter (λ m. not (stands v m)) f) g a
    ∙ ap₂ differ (sym (value-without f v a (bool_value by a))) (r.value a)
    ∙ value-split f v (with_value a v (bool_value by a))

pub subst_variables : (f by g : List Mono) (v : ℕ) → Replaces f by g v → (u : ℕ) → occurs u (merge (filter (λ m. not (stands v m)) f) g) ≡ true → ((occurs u f && not (nat_eq u v)) || occurs u by) ≡ true
subst_variables f by g v r u t =
    unless (occurs u (filter (λ m. not (stands v m)) f) || occurs u g) ((occurs u f && not (nat_eq u v)) || occurs u by)
    (λ n.
    let x = no_first (occurs u f && not (nat_eq u v)) (occurs u by) n in
    let y = no_second (occurs u f && not (nat_eq u v)) (occurs u by) n in
    both_no (occurs u (filter (λ m. not (stands v m)) f)) (occurs u g) (occurs-without u v f x) (r.variables u x y))
    (occurs-merge u (filter (λ m. not (stands v m)) f) g t)

pub subst_form : (f by g : List Mono) (v : ℕ) → IsPoly f → Replaces f by g v → IsPoly (merge (filter (λ m. not (stands v m)) f) g)
subst_form f by g v p r = merge_poly (filter (λ m. not (stands v m)) f) g (filter_poly (λ m. not (stands v m)) f p) r.form

-- ---- one monomial alone
one_variable : (m : Mono) (v : ℕ) → stands v m ≡ true → length m ≡ 1 → m ≡ v ∷ []
unfolding stands
one_variable [] v s l = absurd (omega arith)
one_variable (u ∷ []) v s l = by (nat_eq v u) refl s
  where
    by : (t : Bool) → nat_eq v u ≡ t → (t || false) ≡ true → u ∷ [] ≡ v ∷ []
    by true e k = ap (λ (w : ℕ). w ∷ []) (sym (nat_eq_true v u e))
    by false e k = absurd (true_is_not_false (sym k))
one_variable (u ∷ w ∷ m) v s l = absurd (omega arith)

abbrev pub alone : ℕ → List Mono
alone v = (v ∷ []) ∷ []

pub found_next : (f : List Mono) (i : ℕ) (x : Mono) (v : ℕ) (found : Bool) → i < length f → x ≡ get_or f i x → stands v x ≡ true → found ≡ false → length x ≡ 1
    → filter (λ m. stands v m) f ≡ cond found (alone v) [] ++ filter (λ m. stands v m) (drop i f) → filter (λ m. stands v m) f ≡ alone v ++ filter (λ m. stands v m) (drop (i + 1) f)
found_next f i x v found h e s n l w =
    w ∙ ap (λ b. cond b (alone v) [] ++ filter (λ m. stands v m) (drop i f)) n ∙ filter_on (λ m. stands v m) f i x h e s ∙ ap (λ (y : Mono). y ∷ filter (λ m. stands v m) (drop (i + 1) f)) (one_variable x v s l)

pub found_off : (f : List Mono) (i : ℕ) (x : Mono) (v : ℕ) (found : Bool) → i < length f → x ≡ get_or f i x → stands v x ≡ false
    → filter (λ m. stands v m) f ≡ cond found (alone v) [] ++ filter (λ m. stands v m) (drop i f) → filter (λ m. stands v m) f ≡ cond found (alone v) [] ++ filter (λ m. stands v m) (drop (i + 1) f)
found_off f i x v found h e s w = w ∙ ap (λ (r : List Mono). cond found (alone v) [] ++ r) (filter_off (λ m. stands v m) f i x h e s)

pub found_refused : (f : List Mono) (i : ℕ) (x : Mono) (v : ℕ) (found : Bool) → i < length f → x ≡ get_or f i x → stands v x ≡ true → (found ≡ true) ⊎ (length x ≢ 1)
    → filter (λ m. stands v m) f ≡ cond found (alone v) [] ++ filter (λ m. stands v m) (drop i f) → filter (λ m. stands v m) f ≡ alone v → ⊥
found_refused f i x v found h e s (inl t) w k =
    let c : alone v ≡ alone v ++ (x ∷ filter (λ m. stands v m) (drop (i + 1) f)) = sym k ∙ w ∙ ap (λ b. cond b (alone v) [] ++ filter (λ m. stands v m) (drop i f)) t ∙ ap (λ (r : List Mono). alone v ++ r) (filter_on (λ m. stands v m) f i x h e s) in
    let n : 1 ≡ length (alone v ++ (x ∷ filter (λ m. stands v m) (drop (i + 1) f))) = ap length c in
    omega arith
found_refused f i x v found h e s (inr d) w k = by found (sym k ∙ w ∙ ap (λ (r : List Mono). cond found (alone v) [] ++ r) (filter_on (λ m. stands v m) f i x h e s))
  where
    first : Mono → List Mono → Mono
    first y [] = y
    first y (z ∷ r) = z

    by : (b : Bool) → alone v ≡ cond b (alone v) [] ++ (x ∷ filter (λ m. stands v m) (drop (i + 1) f)) → ⊥
    by true c = let n : 1 ≡ length (alone v ++ (x ∷ filter (λ m. stands v m) (drop (i + 1) f))) = ap length c in omega arith
    by false c = let z : v ∷ [] ≡ x = ap (first []) c in d (sym (ap length z))

pub found_end : (f g : List Mono) (i v : ℕ) (found : Bool) → f ≡ g → length f ≤ i → filter (λ m. stands v m) f ≡ cond found (alone v) [] ++ filter (λ m. stands v m) (drop i f)
    → (found ≡ true → filter (λ m. stands v m) g ≡ alone v) × (filter (λ m. stands v m) g ≡ alone v → found ≡ true)
found_end f g i v found eg l w = by found (ap (filter (λ m. stands v m)) (sym eg) ∙ w ∙ ap (λ (r : List Mono). cond found (alone v) [] ++ filter (λ m. stands v m) r) (drop_of_length-le f l))
  where
    nothing : [] ≡ alone v → ⊥
    nothing e = cc

    by : (b : Bool) → filter (λ m. stands v m) g ≡ cond b (alone v) [] ++ [] → (b ≡ true → filter (λ m. stands v m) g ≡ alone v) × (filter (λ m. stands v m) g ≡ alone v → b ≡ true)
    by true k = (λ t. k, λ c. refl)
    by false k = (λ t. absurd (true_is_not_false (sym t)), λ c. absurd (nothing (sym k ∙ c)))

-- ---- the loops, with both branches
pub kept_step : (v : ℕ) (f out next : List Mono) (i : ℕ) (x : Mono) (r : Bool) → i < length f → x ≡ get_or f i x → r ≡ stands v x → (((r ≡ false) × (next ≡ out ++ x ∷ [])) ⊎ ((r ≡ true) × (next ≡ out)))
    → out ++ filter (λ m. not (stands v m)) (drop i f) ≡ filter (λ m. not (stands v m)) f → next ++ filter (λ m. not (stands v m)) (drop (i + 1) f) ≡ filter (λ m. not (stands v m)) f
kept_step v f out next i x r h e er (inl k) w = ap (λ (z : List Mono). z ++ filter (λ m. not (stands v m)) (drop (i + 1) f)) k.1 ∙ kept_on (λ m. not (stands v m)) f out i x h e (ap not (sym er ∙ k.0)) w
kept_step v f out next i x r h e er (inr k) w = ap (λ (z : List Mono). z ++ filter (λ m. not (stands v m)) (drop (i + 1) f)) k.1 ∙ kept_off (λ m. not (stands v m)) f out i x h e (ap not (sym er ∙ k.0)) w

-- `next` is `out` with the products of what is left of x without v with each of `by`
pub record Multiplies (out next by : List Mono) (x : Mono) (v : ℕ) : Type 0 where
  pub left : Mono
  pub members : (w : ℕ) → stands w left ≡ (stands w x && not (nat_eq w v))
  pub value : (a : ℕ → Bool) → bool_value next a ≡ differ (bool_value out a) (holds left a && bool_value by a)
  pub variables : (w : ℕ) → stands w left ≡ false → occurs w by ≡ false → occurs w out ≡ false → occurs w next ≡ false

pub replaced_value : (v : ℕ) (f out next by : List Mono) (i : ℕ) (x : Mono) (r : Bool) → i < length f → x ≡ get_or f i x → r ≡ stands v x → (((r ≡ true) × Multiplies out next by x v) ⊎ ((r ≡ false) × (next ≡ out))) → (a : ℕ → Bool)
    → differ (bool_value out a) (bool_value (filter (λ m. stands v m) (drop i f)) (with_value a v (bool_value by a))) ≡ bool_value (filter (λ m. stands v m) f) (with_value a v (bool_value by a))
    → differ (bool_value next a) (bool_value (filter (λ m. stands v m) (drop (i + 1) f)) (with_value a v (bool_value by a))) ≡ bool_value (filter (λ m. stands v m) f) (with_value a v (bool_value by a))
replaced_value v f out next by i x r h e er (inl k) a w = replaced_next out next by f i x k.1.left v r h e er k.0 k.1.members a (k.1.value a) w
replaced_value v f out next by i x r h e er (inr k) a w = ap (λ (z : List Mono). differ (bool_value z a) (bool_value (filter (λ m. stands v m) (drop (i + 1) f)) (with_value a v (bool_value by a)))) k.1 ∙ replaced_off out by f i x v r h e er k.0 a w

pub replaced_variables : (v : ℕ) (f out next by : List Mono) (i : ℕ) (x : Mono) (r : Bool) → i < length f → x ≡ get_or f i x → (((r ≡ true) × Multiplies out next by x v) ⊎ ((r ≡ false) × (next ≡ out))) → (u : ℕ)
    → (occurs u f && not (nat_eq u v)) ≡ false → occurs u by ≡ false → occurs u out ≡ false → occurs u next ≡ false
replaced_variables v f out next by i x r h e (inl k) u n b o = k.1.variables u (left_missing u v f i x k.1.left h e k.1.members n) b o
replaced_variables v f out next by i x r h e (inr k) u n b o = ap (occurs u) k.1 ∙ o

pub found_step : (f : List Mono) (i : ℕ) (x : Mono) (v : ℕ) (found next r : Bool) → i < length f → x ≡ get_or f i x → r ≡ stands v x → (((r ≡ true) × ((found ≡ false) × (length x ≡ 1) × (next ≡ true))) ⊎ ((r ≡ false) × (next ≡ found)))
    → filter (λ m. stands v m) f ≡ cond found (alone v) [] ++ filter (λ m. stands v m) (drop i f) → filter (λ m. stands v m) f ≡ cond next (alone v) [] ++ filter (λ m. stands v m) (drop (i + 1) f)
found_step f i x v found next r h e er (inl k) w = found_next f i x v found h e (sym er ∙ k.0) k.1.0 k.1.1 w ∙ ap (λ b. cond b (alone v) [] ++ filter (λ m. stands v m) (drop (i + 1) f)) (sym k.1.2)
found_step f i x v found next r h e er (inr k) w = found_off f i x v found h e (sym er ∙ k.0) w ∙ ap (λ b. cond b (alone v) [] ++ filter (λ m. stands v m) (drop (i + 1) f)) (sym k.1)

pub found_stop : (f g : List Mono) (i : ℕ) (x : Mono) (v : ℕ) (found r : Bool) → f ≡ g → i < length f → x ≡ get_or f i x → r ≡ stands v x → r ≡ true → (found ≡ true) ⊎ (length x ≢ 1)
    → filter (λ m. stands v m) f ≡ cond found (alone v) [] ++ filter (λ m. stands v m) (drop i f) → (false ≡ true → filter (λ m. stands v m) g ≡ alone v) × (filter (λ m. stands v m) g ≡ alone v → false ≡ true)
found_stop f g i x v found r eg h e er t d w = (λ k. absurd (true_is_not_false (sym k)), λ k. absurd (found_refused f i x v found h e (sym er ∙ t) d w (ap (filter (λ m. stands v m)) eg ∙ k)))

opposite : (p q : Bool) → (p ≡ true → q ≡ true) → q ≡ false → p ≡ false
opposite true q h n = absurd (true_is_not_false (sym (h refl) ∙ n))
opposite false q h n = refl

-- r is the monomials replaced, not yet in order, and g is r in order
pub replaces : (f by g r fs bs : List Mono) (v : ℕ) → fs ≡ f → bs ≡ by → IsPoly g → ((a : ℕ → Bool) → bool_value g a ≡ bool_value r a) → ((u : ℕ) → occurs u g ≡ true → occurs u r ≡ true)
    → ((a : ℕ → Bool) → bool_value r a ≡ bool_value (filter (λ m. stands v m) fs) (with_value a v (bool_value bs a))) → ((u : ℕ) → (occurs u fs && not (nat_eq u v)) ≡ false → occurs u bs ≡ false → occurs u r ≡ false) → Replaces f by g v
replaces f by g r fs bs v ef eb form value occur replaced missing = record {
  form = form;
  value = λ a. value a ∙ replaced a ∙ ap₂ (λ (x y : List Mono). bool_value (filter (λ m. stands v m) x) (with_value a v (bool_value y a))) ef eb;
  variables = λ u n o. opposite (occurs u g) (occurs u r) (occur u) (missing u (ap (λ (x : List Mono). occurs u x && not (nat_eq u v)) ef ∙ n) (ap (occurs u) eb ∙ o));
}

pub subst_list : (f g ks gs fs out : List Mono) (v : ℕ) → fs ≡ f → ks ≡ filter (λ m. not (stands v m)) fs → gs ≡ g → out ≡ merge ks gs → out ≡ merge (filter (λ m. not (stands v m)) f) g
subst_list f g ks gs fs out v ef ek eg e = e ∙ ap₂ merge (ek ∙ ap (filter (λ m. not (stands v m))) ef) eg
