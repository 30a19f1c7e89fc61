-- What single calls compute, by places.
use Rattle.std.proofs.Common.{◌≡◌, ℕ, ◌+◌, refl, ap, ap₂, sym, ◌∙◌, arith, ◌<◌, ◌≤◌, Bool, true, false, not, ◌||◌, nat_eq, subst, List, [], ◌∷◌, length, drop, get_or, drop-cons, add-one, drop_of_length-le, ◌⊎◌, inl, inr}
use Rattle.std.proofs.lemmas.Slice.Eq.{slice_eq-Decides}
use Rattle.std.proofs.lemmas.Bool.Decides.{Decides-eqb}
use Rattle.std.specs.Bool.{Decides}
use Rattle.std.specs.Cmp.Lexicographic.{pointwise}
use Rattle.ps_mono.specs.Sets.{holds, stands}
use Rattle.ps_mono.specs.Truth.{differ}
use Rattle.ps_bool.specs.Polys.{bool_value, occurs, IsPoly}
use Rattle.ps_bool.proofs.Merges.{Mono}
use Rattle.ps_bool.proofs.Unique.{bool_value-least, one_form}

pub value_step : (ms : List Mono) (i : ℕ) (a : ℕ → Bool) (d : Mono) → i < length ms → bool_value (drop i ms) a ≡ differ (holds (get_or ms i d) a) (bool_value (drop (i + 1) ms) a)
unfolding bool_value
value_step ms i a d h = rw (add-one, drop-cons ms i d) refl

differ_on : (b h p : Bool) → differ b (differ h p) ≡ differ (differ b h) p
unfolding differ
differ_on true true true = refl
differ_on true true false = refl
differ_on true false true = refl
differ_on true false false = refl
differ_on false true true = refl
differ_on false true false = refl
differ_on false false true = refl
differ_on false false false = refl

pub odd_step : (ms : List Mono) (i : ℕ) (a : ℕ → Bool) (d : Mono) (b : Bool) → i < length ms → bool_value ms a ≡ differ b (bool_value (drop i ms) a) → bool_value ms a ≡ differ (differ b (holds (get_or ms i d) a)) (bool_value (drop (i + 1) ms) a)
odd_step ms i a d b h e = e ∙ ap (differ b) (value_step ms i a d h) ∙ differ_on b _ _

none_before : (b : Bool) → b ≡ differ false b
unfolding differ
none_before true = refl
none_before false = refl

none_after : (b : Bool) → differ b false ≡ b
unfolding differ
none_after true = refl
none_after false = refl

flip : (b r o : Bool) → ((r ≡ true) × (o ≡ not b)) ⊎ ((r ≡ false) × (o ≡ b)) → differ b r ≡ o
unfolding differ
flip true true o (inl k) = sym k.1
flip false true o (inl k) = sym k.1
flip true false o (inr k) = sym k.1
flip false false o (inr k) = sym k.1
flip true false o (inl k) = let e = k.0 in cc
flip false false o (inl k) = let e = k.0 in cc
flip true true o (inr k) = let e = k.0 in cc
flip false true o (inr k) = let e = k.0 in cc

pub odd_start : (ms : List Mono) (a : ℕ → Bool) → bool_value ms a ≡ differ false (bool_value (drop 0 ms) a)
odd_start ms a = none_before (bool_value ms a)

pub odd_next : (ms : List Mono) (i : ℕ) (a : ℕ → Bool) (x : Mono) (b r o : Bool) → i < length ms → x ≡ get_or ms i x → r ≡ holds x a → ((r ≡ true) × (o ≡ not b)) ⊎ ((r ≡ false) × (o ≡ b))
    → bool_value ms a ≡ differ b (bool_value (drop i ms) a) → bool_value ms a ≡ differ o (bool_value (drop (i + 1) ms) a)
odd_next ms i a x b r o h e er k p = odd_step ms i a x b h p ∙ ap (λ v. differ v (bool_value (drop (i + 1) ms) a)) (ap (λ m. differ b (holds m a)) (sym e) ∙ ap (differ b) (sym er) ∙ flip b r o k)

pub odd_end : (ms : List Mono) (i : ℕ) (a : ℕ → Bool) (b : Bool) → length ms ≤ i → bool_value ms a ≡ differ b (bool_value (drop i ms) a) → b ≡ bool_value ms a
unfolding bool_value
odd_end ms i a b h e = sym (e ∙ ap (λ (r : List Mono). differ b (bool_value r a)) (drop_of_length-le ms h) ∙ none_after b)

-- ---- whether a variable occurs
pub occurs_step : (v : ℕ) (f : List Mono) (i : ℕ) (d : Mono) → i < length f → occurs v (drop i f) ≡ (stands v (get_or f i d) || occurs v (drop (i + 1) f))
unfolding occurs
occurs_step v f i d h = rw (add-one, drop-cons f i d) refl

pub occurs_found : (v : ℕ) (f : List Mono) (i : ℕ) (x : Mono) (r : Bool) → i < length f → x ≡ get_or f i x → r ≡ stands v x → r ≡ true → occurs v f ≡ occurs v (drop i f) → true ≡ occurs v f
occurs_found v f i x r h e er t k = sym (k ∙ occurs_step v f i x h ∙ ap (λ b. b || occurs v (drop (i + 1) f)) (ap (stands v) (sym e) ∙ sym er ∙ t))

pub occurs_next : (v : ℕ) (f : List Mono) (i : ℕ) (x : Mono) (r : Bool) → i < length f → x ≡ get_or f i x → r ≡ stands v x → r ≡ false → occurs v f ≡ occurs v (drop i f) → occurs v f ≡ occurs v (drop (i + 1) f)
occurs_next v f i x r h e er t k = k ∙ occurs_step v f i x h ∙ ap (λ b. b || occurs v (drop (i + 1) f)) (ap (stands v) (sym e) ∙ sym er ∙ t)

pub occurs_end : (v : ℕ) (f : List Mono) (i : ℕ) → length f ≤ i → occurs v f ≡ occurs v (drop i f) → false ≡ occurs v f
unfolding occurs
occurs_end v f i h e = sym (e ∙ ap (occurs v) (drop_of_length-le f h))

-- ---- the least monomial
pub least_value : (f g : List Mono) (m : Mono) → f ≡ g → IsPoly f → 0 < length f → m ≡ get_or f 0 m → bool_value g (λ v. stands v m) ≡ true
least_value [] g m eg p h e = absurd (omega arith)
least_value (k ∷ f) g m eg p h e = ap₂ (λ (x : List Mono) (y : Mono). bool_value x (λ v. stands v y)) (sym eg) e ∙ bool_value-least k f p

-- ---- equality
pub mono_eq : (m k : Mono) → Decides (pointwise nat_eq m k) (m ≡ k)
mono_eq m k = slice_eq-Decides Decides-eqb m k (pointwise nat_eq m k) refl

same_list : (r : Bool) (f g : List Mono) → r ≡ pointwise (pointwise nat_eq) f g → Decides r (f ≡ g)
same_list r f g e = slice_eq-Decides mono_eq f g r e

pub equal_lists : (r : Bool) (f g xs ys : List Mono) → r ≡ pointwise (pointwise nat_eq) f g → f ≡ xs → g ≡ ys → (r ≡ true → xs ≡ ys) × (xs ≡ ys → r ≡ true)
equal_lists r f g xs ys e ef eg = let d : Decides r (f ≡ g) = same_list r f g e in (λ y. sym ef ∙ d.0 y ∙ eg, λ h. d.1 (ef ∙ h ∙ sym eg))

pub equal_values : (r : Bool) (f g xs ys : List Mono) → r ≡ pointwise (pointwise nat_eq) f g → f ≡ xs → g ≡ ys → IsPoly f → IsPoly g
    → (r ≡ true → (a : ℕ → Bool) → bool_value xs a ≡ bool_value ys a) × (((a : ℕ → Bool) → bool_value xs a ≡ bool_value ys a) → r ≡ true)
equal_values r f g xs ys e ef eg s t =
    let d = equal_lists r f g xs ys e ef eg in
    (λ y a. ap (λ (u : List Mono). bool_value u a) (d.0 y), λ h. d.1 (one_form xs ys (subst IsPoly ef s) (subst IsPoly eg t) h))
