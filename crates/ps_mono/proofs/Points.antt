-- A monomial at the point where just the variables of another are true.
use Rattle.std.proofs.Common.{◌≡◌, ℕ, refl, ap, ap₂, sym, ◌∙◌, subst, arith, ◌<◌, ◌≤◌, Bool, true, false, ◌&&◌, ◌||◌, nat_eq, List, [], ◌∷◌, length, Less}
use Rattle.std.proofs.lemmas.Bool.Decides.{nat_tests}
use Rattle.ps_mono.specs.Sets.{mono_cmp, holds, stands, IsVarSet, Above, Climbing}
use Rattle.ps_mono.proofs.Laws.{set_climbing}
use Rattle.ps_mono.proofs.Orders.{cmp_length, never_self}

-- true in just the variables of m
abbrev pub point : List ℕ → ℕ → Bool
point m v = stands v m

below_less : (v u : ℕ) (m : List ℕ) → v < u → Above u m → Above v m
below_less v u [] h b = tt
below_less v u (w ∷ m) h b = (omega (arith, b.0), below_less v u m h b.1)

and_left : (p q : Bool) → (p && q) ≡ true → p ≡ true
and_left true q e = refl
and_left false q e = e

and_right : (p q : Bool) → (p && q) ≡ true → q ≡ true
and_right true q e = e
and_right false q e = absurd (off e)
  where
    off : false ≡ true → ⊥
    off e = cc

-- below all of m nothing stands
not_there : (v : ℕ) (m : List ℕ) → Above v m → stands v m ≡ false
unfolding stands
not_there v [] b = refl
not_there v (u ∷ m) b = let e : nat_eq v u ≡ false = grind (arith, nat_tests, b.0) in ap₂ (λ p q. p || q) e (not_there v m b.1)

-- k's variables all stand in u ∷ m, and k is above u: they stand in m
smaller : (u : ℕ) (m k : List ℕ) → Above u k → holds k (point (u ∷ m)) ≡ true → holds k (point m) ≡ true
unfolding holds stands
smaller u m [] b h = refl
smaller u m (v ∷ k) b h =
    let e : nat_eq v u ≡ false = grind (arith, nat_tests, b.0) in
    let p : stands v m ≡ true = ap (λ r. r || stands v m) (sym e) ∙ and_left _ _ h in
    ap₂ (λ r s. r && s) p (smaller u m k b.1 (and_right _ _ h))

stands_above : (u v : ℕ) (m : List ℕ) → Above u m → stands v m ≡ true → u < v
unfolding stands
stands_above u v [] b h = absurd (off h)
  where
    off : false ≡ true → ⊥
    off e = cc
stands_above u v (w ∷ m) b h = by (λ k. stands_above u v m b.1 k) (nat_eq v w) refl h
  where
    by : (stands v m ≡ true → u < v) → (t : Bool) → nat_eq v w ≡ t → (t || stands v m) ≡ true → u < v
    by ih true e k = grind (arith, nat_tests, b.0)
    by ih false e k = ih k

-- as many variables, all in m: the same monomial
abbrev Within : List ℕ → List ℕ → Type 0
Within m k = (length k ≤ length m) × (length k ≡ length m → k ≡ m)

within : (m k : List ℕ) → Climbing m → Climbing k → holds k (point m) ≡ true → Within m k
unfolding holds stands
within [] [] r s h = (omega arith, λ e. refl)
within [] (v ∷ k) r s h = absurd (off h)
  where
    off : false ≡ true → ⊥
    off e = cc
within (u ∷ m) [] r s h = (omega arith, λ e. absurd (omega arith))
within (u ∷ m) (v ∷ k) r s h = by (λ p. within m k (r.1) (s.1) p) (λ p. within m (v ∷ k) (r.1) s p) (nat_eq v u) refl (and_left _ _ h) (and_right _ _ h)
  where
    by : (holds k (point m) ≡ true → Within m k) → (holds (v ∷ k) (point m) ≡ true → Within m (v ∷ k)) → (t : Bool) → nat_eq v u ≡ t → (t || stands v m) ≡ true → holds k (point (u ∷ m)) ≡ true → Within (u ∷ m) (v ∷ k)
    by same later true e l q =
        let d : v ≡ u = grind (arith, nat_tests) in
        let b : Above u k = subst (λ (x : ℕ). Above x k) d (s.0) in
        let w = same (smaller u m k b q) in
        (omega arith, λ n. ap₂ (λ (x : ℕ) (y : List ℕ). x ∷ y) d (w.1 (omega arith)))
    by same later false e l q =
        let a : u < v = stands_above u v m (r.0) l in
        let w = later (ap₂ (λ x y. x && y) l (smaller u m k (below_less u v k a (s.0)) q)) in
        (omega arith, λ n. absurd (omega arith))

own_stands : (u v : ℕ) (m : List ℕ) → stands v m ≡ true → stands v (u ∷ m) ≡ true
unfolding stands
own_stands u v m h = by (nat_eq v u) (stands v m) h
  where
    by : (p q : Bool) → q ≡ true → (p || q) ≡ true
    by true q e = refl
    by false q e = e

holds_wider : (u : ℕ) (m k : List ℕ) → holds k (point m) ≡ true → holds k (point (u ∷ m)) ≡ true
unfolding holds
holds_wider u m [] h = refl
holds_wider u m (v ∷ k) h = ap₂ (λ p q. p && q) (own_stands u v m (and_left _ _ h)) (holds_wider u m k (and_right _ _ h))

own_point : (m : List ℕ) → holds m (point m) ≡ true
unfolding holds stands
own_point [] = refl
own_point (v ∷ m) = let e : nat_eq v v ≡ true = grind (arith, nat_tests) in ap₂ (λ p q. (p || stands v m) && q) e (holds_wider v m m (own_point m))

later_off : (m k : List ℕ) → Climbing m → Climbing k → mono_cmp m k ≡ Less → holds k (point m) ≡ false
later_off m k r s e = by (holds k (point m)) refl
  where
    by : (t : Bool) → holds k (point m) ≡ t → t ≡ false
    by false h = refl
    by true h =
        let w = within m k r s h in
        let l = cmp_length m k e in
        absurd (never_self m (subst (λ (x : List ℕ). mono_cmp m x ≡ Less) (w.1 (omega arith)) e))

-- a monomial holds at its own point
pub holds-point : (m : List ℕ) → holds m (λ v. stands v m) ≡ true
holds-point m = own_point m

-- one that comes later does not
pub holds-earlier_point : (m k : List ℕ) → IsVarSet m → IsVarSet k → mono_cmp m k ≡ Less → holds k (λ v. stands v m) ≡ false
holds-earlier_point m k s t e = later_off m k (set_climbing m s) (set_climbing k t) e
