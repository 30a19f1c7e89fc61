-- Laws of values and variables for callers.
use Rattle.std.proofs.Common.{◌≡◌, ℕ, refl, ap, sym, ◌∙◌, ◌<◌, Bool, true, false, cond, ◌&&◌, ◌||◌, nat_eq, List, [], ◌∷◌, ◌⊎◌, inl, inr}
use Rattle.ps_mono.specs.Sets.{holds, stands}
use Rattle.ps_mono.specs.Lists.{nat_eq_true}
use Rattle.ps_mono.specs.Truth.{differ, with_value}
use Rattle.ps_mono.proofs.Laws.{set_below}
use Rattle.ps_bool.specs.Polys.{bool_value, occurs, AllSets, IsPoly}
use Rattle.ps_bool.proofs.Bools.{true_is_not_false, differ_zero, or_cases, and_true}
use Rattle.ps_bool.proofs.Unique.{bool_value-agree}

pub bool_value-zero : (a : ℕ → Bool) → bool_value [] a ≡ false
unfolding bool_value
bool_value-zero a = refl

pub bool_value-one : (a : ℕ → Bool) → bool_value ([] ∷ []) a ≡ true
unfolding bool_value holds differ
bool_value-one a = refl

pub bool_value-var : (v : ℕ) (a : ℕ → Bool) → bool_value ((v ∷ []) ∷ []) a ≡ a v
unfolding bool_value holds
bool_value-var v a = differ_zero (a v && true) ∙ and_true (a v)

pub occurs-one : (u : ℕ) → occurs u ([] ∷ []) ≡ false
unfolding occurs stands
occurs-one u = refl

pub occurs-var : (u v : ℕ) → occurs u ((v ∷ []) ∷ []) ≡ true → u ≡ v
unfolding occurs stands
occurs-var u v t = by (nat_eq u v) refl t
  where
    by : (b : Bool) → nat_eq u v ≡ b → ((b || false) || false) ≡ true → u ≡ v
    by true e s = nat_eq_true u v e
    by false e s = absurd (true_is_not_false (sym s))

below_of_sets : (v : ℕ) (f : List (List ℕ)) → AllSets f → occurs v f ≡ true → v < 512
unfolding occurs
below_of_sets v [] s t = absurd (true_is_not_false (sym t))
below_of_sets v (m ∷ f) s t = by (or_cases (stands v m) (occurs v f) t) (λ o. below_of_sets v f s.1 o)
  where
    by : ((stands v m ≡ true) ⊎ (occurs v f ≡ true)) → (occurs v f ≡ true → v < 512) → v < 512
    by (inl o) r = set_below m v s.0 o
    by (inr o) r = r o

-- each variable is below 512
pub occurs-below : (v : ℕ) (f : List (List ℕ)) → IsPoly f → occurs v f ≡ true → v < 512
occurs-below v f p t = below_of_sets v f p.sets t

-- a variable that does not occur does not matter
pub bool_value-with_value : (f : List (List ℕ)) (v : ℕ) (a : ℕ → Bool) (b : Bool) → occurs v f ≡ false → bool_value f (with_value a v b) ≡ bool_value f a
bool_value-with_value f v a b n = bool_value-agree f (with_value a v b) a (λ u t. by u t (nat_eq u v) refl)
  where
    by : (u : ℕ) → occurs u f ≡ true → (c : Bool) → nat_eq u v ≡ c → cond c b (a u) ≡ a u
    by u t true e = absurd (true_is_not_false (sym t ∙ ap (λ w. occurs w f) (nat_eq_true u v e) ∙ n))
    by u t false e = refl
