-- A polynomial is determined by its values.
use Rattle.std.proofs.Common.{◌≡◌, ℕ, refl, ap, ap₂, sym, ◌∙◌, Bool, true, false, ◌&&◌, nat_eq, List, [], ◌∷◌, Ordering, Less, Equal, Greater}
use Rattle.ps_mono.specs.Sets.{mono_cmp, holds, stands, IsVarSet}
use Rattle.ps_mono.specs.Truth.{differ}
use Rattle.ps_mono.specs.Lists.{nat_eq_same}
use Rattle.ps_mono.proofs.Orders.{mono_equal, mono_flip}
use Rattle.ps_mono.proofs.Points.{holds-point, holds-earlier_point}
use Rattle.ps_bool.specs.Polys.{bool_value, occurs, Before, AllSets, IsPoly}
use Rattle.ps_bool.proofs.Bools.{true_is_not_false, differ_cancel, or_first, or_second}
use Rattle.ps_bool.proofs.Merges.{before_before}

-- what comes later is 0 at the point of m
later_off : (m : List ℕ) (f : List (List ℕ)) → IsVarSet m → AllSets f → Before m f → bool_value f (λ v. stands v m) ≡ false
unfolding bool_value differ
later_off m [] s t b = refl
later_off m (k ∷ f) s t b = ap₂ differ (holds-earlier_point m k s t.0 b.0) (later_off m f s t.1 b.1)

-- a polynomial is 1 at the point of its least monomial
pub bool_value-least : (m : List ℕ) (f : List (List ℕ)) → IsPoly (m ∷ f) → bool_value (m ∷ f) (λ v. stands v m) ≡ true
unfolding bool_value differ
bool_value-least m f p = ap₂ differ (holds-point m) (later_off m f p.sets.0 p.sets.1 p.in_order.0)

rest : (m : List ℕ) (f : List (List ℕ)) → IsPoly (m ∷ f) → IsPoly f
rest m f p = record { in_order = p.in_order.1; sets = p.sets.1 }

-- equal values, equal lists
pub one_form : (f g : List (List ℕ)) → IsPoly f → IsPoly g → ((a : ℕ → Bool) → bool_value f a ≡ bool_value g a) → f ≡ g
unfolding bool_value
one_form [] [] p q e = refl
one_form [] (k ∷ g) p q e = absurd (true_is_not_false (sym (bool_value-least k g q) ∙ sym (e (λ v. stands v k))))
one_form (m ∷ f) [] p q e = absurd (true_is_not_false (sym (bool_value-least m f p) ∙ e (λ v. stands v m)))
one_form (m ∷ f) (k ∷ g) p q e = by (λ d. one_form f g (rest m f p) (rest k g q) d) (mono_cmp m k) refl
  where
    by : (((a : ℕ → Bool) → bool_value f a ≡ bool_value g a) → f ≡ g) → (o : Ordering) → mono_cmp m k ≡ o → m ∷ f ≡ k ∷ g
    by ih Less o = absurd (true_is_not_false (sym (bool_value-least m f p) ∙ e (λ v. stands v m) ∙ later_off m (k ∷ g) p.sets.0 q.sets (o, before_before m k g o q.in_order.0)))
    by ih Equal o = let d = mono_equal m k o in ap₂ (λ (x : List ℕ) (y : List (List ℕ)). x ∷ y) d (ih (λ a. differ_cancel (holds m a) _ _ (e a ∙ ap (λ (x : List ℕ). differ (holds x a) (bool_value g a)) (sym d))))
    by ih Greater o = absurd (true_is_not_false (sym (bool_value-least k g q) ∙ sym (e (λ v. stands v k)) ∙ later_off k (m ∷ f) q.sets.0 p.sets (mono_flip m k o, before_before k m f (mono_flip m k o) p.in_order.0)))

-- ---- assignments that agree at each variable that occurs give one value
pub holds_agree : (m : List ℕ) (a b : ℕ → Bool) → ((v : ℕ) → stands v m ≡ true → a v ≡ b v) → holds m a ≡ holds m b
unfolding holds stands
holds_agree [] a b h = refl
holds_agree (u ∷ m) a b h =
    ap₂ (λ (x y : Bool). x && y) (h u (or_first (nat_eq u u) (stands u m) (nat_eq_same u))) (holds_agree m a b (λ v s. h v (or_second (nat_eq v u) (stands v m) s)))

pub bool_value-agree : (f : List (List ℕ)) (a b : ℕ → Bool) → ((v : ℕ) → occurs v f ≡ true → a v ≡ b v) → bool_value f a ≡ bool_value f b
unfolding bool_value occurs
bool_value-agree [] a b h = refl
bool_value-agree (m ∷ f) a b h =
    ap₂ differ (holds_agree m a b (λ v s. h v (or_first (stands v m) (occurs v f) s))) (bool_value-agree f a b (λ v s. h v (or_second (stands v m) (occurs v f) s)))
