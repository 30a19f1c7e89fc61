-- Lists of products, as they grow at the end.
use Rattle.std.proofs.Common.{◌≡◌, ℕ, zero, suc, ◌+◌, refl, ap, sym, ◌∙◌, arith, ◌<◌, ◌≤◌, Bool, false, ◌&&◌, ◌||◌, List, [], ◌∷◌, ◌++◌, length, drop, get_or, drop_of_length-le}
use Rattle.ps_mono.specs.Sets.{holds, stands}
use Rattle.ps_mono.specs.Truth.{differ}
use Rattle.ps_mono.proofs.Laws.{holds_union}
use Rattle.ps_bool.specs.Polys.{bool_value, occurs}
use Rattle.ps_bool.proofs.Bools.{differ_cross, differ_comm, differ_none, differ_zero, and_differ, differ_and, and_false, no_first, no_second, both_no}
use Rattle.ps_bool.proofs.Merges.{Mono}
use Rattle.ps_bool.proofs.Values.{value_step}

-- ---- one monomial more
pub value-push : (f : List Mono) (m : Mono) (a : ℕ → Bool) → bool_value (f ++ m ∷ []) a ≡ differ (bool_value f a) (holds m a)
unfolding bool_value
value-push [] m a = differ_comm (holds m a) false
value-push (k ∷ f) m a = ap (differ (holds k a)) (value-push f m a) ∙ differ_cross (holds k a) (bool_value f a) (holds m a)

pub occurs-push : (v : ℕ) (f : List Mono) (m : Mono) → occurs v f ≡ false → stands v m ≡ false → occurs v (f ++ m ∷ []) ≡ false
unfolding occurs
occurs-push v [] m h s = both_no (stands v m) false s refl
occurs-push v (k ∷ f) m h s = both_no (stands v k) (occurs v (f ++ m ∷ [])) (no_first (stands v k) (occurs v f) h) (occurs-push v f m (no_second (stands v k) (occurs v f) h) s)

-- a variable that does not occur is missing at each place
pub missing_at : (v : ℕ) (f : List Mono) (i : ℕ) (x : Mono) → i < length f → x ≡ get_or f i x → occurs v f ≡ false → stands v x ≡ false
unfolding occurs
missing_at v (k ∷ f) zero x h e n = ap (stands v) e ∙ no_first (stands v k) (occurs v f) n
missing_at v (k ∷ f) (suc i) x h e n = missing_at v f i x (omega arith) e (no_second (stands v k) (occurs v f) n)
missing_at v [] i x h e n = absurd (omega arith)

-- ---- products with one monomial
-- u is the product of m and the monomial at place i
pub push_value : (f g : List Mono) (m : Mono) (xs : List Mono) (i : ℕ) (x u : Mono) → i < length xs → x ≡ get_or xs i x → ((v : ℕ) → stands v u ≡ (stands v m || stands v x)) → (a : ℕ → Bool)
    → differ (bool_value f a) (holds m a && bool_value (drop i xs) a) ≡ differ (bool_value g a) (holds m a && bool_value xs a)
    → differ (bool_value (f ++ u ∷ []) a) (holds m a && bool_value (drop (i + 1) xs) a) ≡ differ (bool_value g a) (holds m a && bool_value xs a)
push_value f g m xs i x u h e k a w =
    ap (λ b. differ b (holds m a && bool_value (drop (i + 1) xs) a)) (value-push f u a ∙ ap (differ (bool_value f a)) (holds_union m x u k a))
    ∙ and_differ (bool_value f a) (holds m a) (holds x a) (bool_value (drop (i + 1) xs) a)
    ∙ ap (λ b. differ (bool_value f a) (holds m a && b)) (ap (λ (y : Mono). differ (holds y a) (bool_value (drop (i + 1) xs) a)) e ∙ sym (value_step xs i a x h))
    ∙ w

pub push_end : (f g : List Mono) (m : Mono) (xs : List Mono) (i : ℕ) (a : ℕ → Bool) → length xs ≤ i
    → differ (bool_value f a) (holds m a && bool_value (drop i xs) a) ≡ differ (bool_value g a) (holds m a && bool_value xs a)
    → bool_value f a ≡ differ (bool_value g a) (holds m a && bool_value xs a)
unfolding bool_value
push_end f g m xs i a h w =
    sym (differ_zero (bool_value f a)) ∙ ap (differ (bool_value f a)) (sym (and_false (holds m a)) ∙ ap (λ (r : List Mono). holds m a && bool_value r a) (sym (drop_of_length-le xs h))) ∙ w

pub push_missing : (f : List Mono) (m : Mono) (xs : List Mono) (i : ℕ) (x u : Mono) → i < length xs → x ≡ get_or xs i x → ((v : ℕ) → stands v u ≡ (stands v m || stands v x))
    → (v : ℕ) → stands v m ≡ false → occurs v xs ≡ false → occurs v f ≡ false → occurs v (f ++ u ∷ []) ≡ false
push_missing f m xs i x u h e k v s n o = occurs-push v f u o (k v ∙ both_no (stands v m) (stands v x) s (missing_at v xs i x h e n))

-- ---- products of two lists
pub products_start : (xs ys : List Mono) (a : ℕ → Bool) → differ (bool_value [] a) (bool_value xs a && bool_value ys a) ≡ (bool_value xs a && bool_value ys a)
unfolding bool_value
products_start xs ys a = sym (differ_none (bool_value xs a && bool_value ys a))

pub no_occurs : (v : ℕ) → occurs v [] ≡ false
unfolding occurs
no_occurs v = refl

pub products_next : (f g : List Mono) (xs ys : List Mono) (i : ℕ) (x : Mono) (a : ℕ → Bool) → i < length xs → x ≡ get_or xs i x
    → bool_value g a ≡ differ (bool_value f a) (holds x a && bool_value ys a)
    → differ (bool_value f a) (bool_value (drop i xs) a && bool_value ys a) ≡ (bool_value xs a && bool_value ys a)
    → differ (bool_value g a) (bool_value (drop (i + 1) xs) a && bool_value ys a) ≡ (bool_value xs a && bool_value ys a)
products_next f g xs ys i x a h e k w =
    ap (λ b. differ b (bool_value (drop (i + 1) xs) a && bool_value ys a)) k
    ∙ differ_and (bool_value f a) (holds x a) (bool_value (drop (i + 1) xs) a) (bool_value ys a)
    ∙ ap (λ b. differ (bool_value f a) (b && bool_value ys a)) (ap (λ (y : Mono). differ (holds y a) (bool_value (drop (i + 1) xs) a)) e ∙ sym (value_step xs i a x h))
    ∙ w

pub products_end : (f xs ys : List Mono) (i : ℕ) (a : ℕ → Bool) → length xs ≤ i
    → differ (bool_value f a) (bool_value (drop i xs) a && bool_value ys a) ≡ (bool_value xs a && bool_value ys a)
    → bool_value f a ≡ (bool_value xs a && bool_value ys a)
unfolding bool_value
products_end f xs ys i a h w =
    sym (differ_zero (bool_value f a)) ∙ ap (λ (r : List Mono). differ (bool_value f a) (bool_value r a && bool_value ys a)) (sym (drop_of_length-le xs h)) ∙ w
