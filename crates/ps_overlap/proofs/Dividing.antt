-- Monomials divided by a variable that they have, and that their order stays.
use Rattle.std.proofs.Common.{◌≡◌, ◌≢◌, ℕ, ◌+◌, refl, ap, ap₂, sym, ◌∙◌, subst, arith, ◌<◌, Bool, true, false, not, ◌&&◌, ◌||◌, cond, nat_eq, List, [], ◌∷◌, length, filter, nat_cmp, Ordering, Less, Equal, Greater, ◌⊎◌, inl, inr}
use Rattle.std.specs.Cmp.Lexicographic.{slice_cmp}
use Rattle.std.specs.Ordering.{ordering_then}
use Rattle.std.proofs.lemmas.Bool.Decides.{nat_tests}
use Rattle.std.proofs.lemmas.Bool.{cases_eq}
use Rattle.ps_mono.specs.Sets.{mono_cmp, stands, holds, IsVarSet, Above, Climbing, Below}
use Rattle.ps_mono.specs.Lists.{nat_eq_same, nat_eq_other, nat_eq_true, same_set}
use Rattle.ps_mono.proofs.Laws.{set_climbing, set_all_below, climbing_set, holds_without}
use Rattle.ps_overlap.specs.Overlapping.{divided}

clash : {b : Bool} → b ≡ true → b ≡ false → ⊥
clash e f = cc

-- ---- the variable in front, and another in front
pub divided_same : (v : ℕ) (m : List ℕ) → divided v (v ∷ m) ≡ divided v m
unfolding divided
divided_same v m = ap (λ b. cond (not b) (v ∷ filter (λ u. not (nat_eq u v)) m) (filter (λ u. not (nat_eq u v)) m)) (nat_eq_same v)

pub divided_other : (v u : ℕ) (m : List ℕ) → u ≢ v → divided v (u ∷ m) ≡ u ∷ divided v m
unfolding divided
divided_other v u m d = ap (λ b. cond (not b) (u ∷ filter (λ w. not (nat_eq w v)) m) (filter (λ w. not (nat_eq w v)) m)) (nat_eq_other u v d)

divided_none : (v : ℕ) → divided v [] ≡ []
unfolding divided
divided_none v = refl

-- below all of m there is nothing to divide by
divided_above : (v : ℕ) (m : List ℕ) → Above v m → divided v m ≡ m
divided_above v [] a = divided_none v
divided_above v (u ∷ m) a = let l : v < u = a.0 in let d : u ≢ v = omega arith in divided_other v u m d ∙ ap (λ (r : List ℕ). u ∷ r) (divided_above v m a.1)

-- ---- its members
pub stands_divided : (w v : ℕ) (m : List ℕ) → stands w (divided v m) ≡ (stands w m && not (nat_eq w v))
unfolding stands
stands_divided w v [] = ap (stands w) (divided_none v)
stands_divided w v (u ∷ m) = by (cases_eq u v) (stands_divided w v m)
  where
    gone : (p q r : Bool) → r ≡ (q && not p) → r ≡ ((p || q) && not p)
    gone true q r e = e ∙ none q
      where
        none : (b : Bool) → (b && false) ≡ false
        none true = refl
        none false = refl
    gone false q r e = e

    kept : (p q s r : Bool) → (p ≡ true → s ≡ false) → r ≡ (q && not s) → (p || r) ≡ ((p || q) && not s)
    kept true q s r h e = sym (ap not (h refl))
    kept false q s r h e = e

    by : ((u ≡ v) ⊎ (u ≢ v)) → stands w (divided v m) ≡ (stands w m && not (nat_eq w v)) → stands w (divided v (u ∷ m)) ≡ ((nat_eq w u || stands w m) && not (nat_eq w v))
    by (inl e) ih =
        ap (λ (x : ℕ). stands w (divided v (x ∷ m))) e ∙ ap (stands w) (divided_same v m)
        ∙ gone (nat_eq w v) (stands w m) (stands w (divided v m)) ih ∙ ap (λ (x : ℕ). (nat_eq w x || stands w m) && not (nat_eq w v)) (sym e)
    by (inr d) ih =
        ap (stands w) (divided_other v u m d)
        ∙ kept (nat_eq w u) (stands w m) (nat_eq w v) (stands w (divided v m)) (λ h. nat_eq_other w v (λ k. d (sym (nat_eq_true w u h) ∙ k))) ih

-- ---- it is a set again
above_divided : (u v : ℕ) (m : List ℕ) → Above u m → Above u (divided v m)
above_divided u v [] a = subst (Above u) (sym (divided_none v)) tt
above_divided u v (w ∷ m) a = by (cases_eq w v) (above_divided u v m a.1)
  where
    by : ((w ≡ v) ⊎ (w ≢ v)) → Above u (divided v m) → Above u (divided v (w ∷ m))
    by (inl e) ih = subst (Above u) (sym (ap (λ (x : ℕ). divided v (x ∷ m)) e ∙ divided_same v m)) ih
    by (inr d) ih = subst (Above u) (sym (divided_other v w m d)) (a.0, ih)

climbing_divided : (v : ℕ) (m : List ℕ) → Climbing m → Climbing (divided v m)
climbing_divided v [] c = subst Climbing (sym (divided_none v)) tt
climbing_divided v (w ∷ m) c = by (cases_eq w v) (climbing_divided v m c.1)
  where
    by : ((w ≡ v) ⊎ (w ≢ v)) → Climbing (divided v m) → Climbing (divided v (w ∷ m))
    by (inl e) ih = subst Climbing (sym (ap (λ (x : ℕ). divided v (x ∷ m)) e ∙ divided_same v m)) ih
    by (inr d) ih = subst Climbing (sym (divided_other v w m d)) (above_divided w v m c.0, ih)

below_divided : (n v : ℕ) (m : List ℕ) → Below n m → Below n (divided v m)
below_divided n v [] b = subst (Below n) (sym (divided_none v)) tt
below_divided n v (w ∷ m) b = by (cases_eq w v) (below_divided n v m b.1)
  where
    by : ((w ≡ v) ⊎ (w ≢ v)) → Below n (divided v m) → Below n (divided v (w ∷ m))
    by (inl e) ih = subst (Below n) (sym (ap (λ (x : ℕ). divided v (x ∷ m)) e ∙ divided_same v m)) ih
    by (inr d) ih = subst (Below n) (sym (divided_other v w m d)) (b.0, ih)

pub divided_set : (v : ℕ) (m : List ℕ) → IsVarSet m → IsVarSet (divided v m)
divided_set v m s = climbing_set (divided v m) (climbing_divided v m (set_climbing m s)) (below_divided 512 v m (set_all_below m s))

-- a set with these members is it
pub divided_is : (v : ℕ) (m u : List ℕ) → IsVarSet m → IsVarSet u → ((w : ℕ) → stands w u ≡ (stands w m && not (nat_eq w v))) → u ≡ divided v m
divided_is v m u s t h = same_set u (divided v m) t (divided_set v m s) (λ w. h w ∙ sym (stands_divided w v m))

pub holds_divided : (v : ℕ) (m : List ℕ) (a : ℕ → Bool) → stands v m ≡ true → holds m a ≡ (a v && holds (divided v m) a)
holds_divided v m a s = holds_without m (divided v m) v (λ w. stands_divided w v m) s a

-- ---- degrees
stands_later : (v u : ℕ) (m : List ℕ) → stands v (u ∷ m) ≡ true → u ≢ v → stands v m ≡ true
unfolding stands
stands_later v u m h d = ap (λ b. b || stands v m) (sym (nat_eq_other v u (λ e. d (sym e)))) ∙ h

above_less : (u v : ℕ) (m : List ℕ) → Above u m → stands v m ≡ true → u < v
unfolding stands
above_less u v [] a h = absurd (off h)
  where
    off : false ≡ true → ⊥
    off e = cc
above_less u v (w ∷ m) a h = by (nat_eq v w) refl h (above_less u v m a.1)
  where
    by : (t : Bool) → nat_eq v w ≡ t → (t || stands v m) ≡ true → (stands v m ≡ true → u < v) → u < v
    by true e k ih = let d : v ≡ w = nat_eq_true v w e in let l : u < w = a.0 in omega arith
    by false e k ih = ih k

pub length_divided : (v : ℕ) (m : List ℕ) → Climbing m → stands v m ≡ true → length (divided v m) + 1 ≡ length m
unfolding stands
length_divided v [] c h = absurd (off h)
  where
    off : false ≡ true → ⊥
    off e = cc
length_divided v (u ∷ m) c h = by (cases_eq u v) (length_divided v m c.1)
  where
    by : ((u ≡ v) ⊎ (u ≢ v)) → (stands v m ≡ true → length (divided v m) + 1 ≡ length m) → length (divided v (u ∷ m)) + 1 ≡ length (u ∷ m)
    by (inl e) ih =
        let a : Above v m = subst (λ (x : ℕ). Above x m) e c.0 in
        let d : length (divided v (u ∷ m)) ≡ length m = ap (λ (x : ℕ). length (divided v (x ∷ m))) e ∙ ap length (divided_same v m ∙ divided_above v m a) in
        omega arith
    by (inr d) ih =
        let k = ih (stands_later v u m h d) in
        let e : length (divided v (u ∷ m)) ≡ length (u ∷ divided v m) = ap length (divided_other v u m d) in
        omega arith

-- ---- the order
then_less : (o p : Ordering) → ordering_then o p ≡ Less → (o ≡ Less) ⊎ ((o ≡ Equal) × (p ≡ Less))
then_less Less p e = inl refl
then_less Equal p e = inr (refl, e)
then_less Greater p e = cc

less_first : (o p : Ordering) → o ≡ Less → ordering_then o p ≡ Less
less_first o p e = ap (λ (x : Ordering). ordering_then x p) e

less_second : (o p : Ordering) → o ≡ Equal → p ≡ Less → ordering_then o p ≡ Less
less_second o p e f = ap₂ ordering_then e f

cmp_less : (x y : ℕ) → x < y → nat_cmp x y ≡ Less
cmp_less x y h = grind (arith, nat_tests)

less_cmp : (x y : ℕ) → nat_cmp x y ≡ Less → x < y
less_cmp x y h = grind (arith, nat_tests)

cmp_equal : (x y : ℕ) → x ≡ y → nat_cmp x y ≡ Equal
cmp_equal x y h = grind (arith, nat_tests)

equal_cmp : (x y : ℕ) → nat_cmp x y ≡ Equal → x ≡ y
equal_cmp x y h = grind (arith, nat_tests)

-- two lists in front of which x is less than y
front_less : (x : ℕ) (m k : List ℕ) → length (x ∷ m) ≡ length k → ((y : ℕ) → stands y k ≡ true → x < y) → slice_cmp nat_cmp (x ∷ m) k ≡ Less
unfolding stands
front_less x m [] e h = absurd (omega arith)
front_less x m (y ∷ k) e h = less_first (nat_cmp x y) (slice_cmp nat_cmp m k) (cmp_less x y (h y (ap (λ b. b || stands y k) (nat_eq_same y))))

slice_divided : (v : ℕ) (m k : List ℕ) → Climbing m → Climbing k → length m ≡ length k → stands v m ≡ true → stands v k ≡ true → slice_cmp nat_cmp m k ≡ Less → slice_cmp nat_cmp (divided v m) (divided v k) ≡ Less
unfolding stands
slice_divided v [] k c d l s t e = absurd (off s)
  where
    off : false ≡ true → ⊥
    off h = cc
slice_divided v (x ∷ m) [] c d l s t e = absurd (off t)
  where
    off : false ≡ true → ⊥
    off h = cc
slice_divided v (x ∷ m) (y ∷ k) c d l s t e = by (cases_eq x v) (cases_eq y v) (then_less (nat_cmp x y) (slice_cmp nat_cmp m k) e) (λ p q r. slice_divided v m k c.1 d.1 (omega arith) p q r)
  where
    by : ((x ≡ v) ⊎ (x ≢ v)) → ((y ≡ v) ⊎ (y ≢ v)) → ((nat_cmp x y ≡ Less) ⊎ ((nat_cmp x y ≡ Equal) × (slice_cmp nat_cmp m k ≡ Less)))
        → (stands v m ≡ true → stands v k ≡ true → slice_cmp nat_cmp m k ≡ Less → slice_cmp nat_cmp (divided v m) (divided v k) ≡ Less) → slice_cmp nat_cmp (divided v (x ∷ m)) (divided v (y ∷ k)) ≡ Less
    by (inl p) (inl q) (inl o) ih = let g = less_cmp x y o in absurd (omega arith)
    by (inl p) (inl q) (inr o) ih =
        let a : Above v m = subst (λ (z : ℕ). Above z m) p c.0 in
        let b : Above v k = subst (λ (z : ℕ). Above z k) q d.0 in
        ap₂ (λ (f g : List ℕ). slice_cmp nat_cmp f g) (ap (λ (z : ℕ). divided v (z ∷ m)) p ∙ divided_same v m ∙ divided_above v m a) (ap (λ (z : ℕ). divided v (z ∷ k)) q ∙ divided_same v k ∙ divided_above v k b) ∙ o.1
    by (inl p) (inr q) (inl o) ih = let g = less_cmp x y o in let h = above_less y v k d.0 (stands_later v y k t q) in absurd (omega arith)
    by (inl p) (inr q) (inr o) ih = absurd (q (sym (equal_cmp x y o.0) ∙ p))
    by (inr p) (inl q) o ih =
        let b : Above v k = subst (λ (z : ℕ). Above z k) q d.0 in
        let sm : stands v m ≡ true = stands_later v x m s p in
        let g : x < v = above_less x v m c.0 sm in
        let len : length (x ∷ divided v m) ≡ length k = (let h = length_divided v m c.1 sm in omega arith) in
        ap₂ (λ (f g : List ℕ). slice_cmp nat_cmp f g) (divided_other v x m p) (ap (λ (z : ℕ). divided v (z ∷ k)) q ∙ divided_same v k ∙ divided_above v k b)
        ∙ front_less x (divided v m) k len (λ z h. let w = above_less v z k b h in omega arith)
    by (inr p) (inr q) (inl o) ih = ap₂ (λ (f g : List ℕ). slice_cmp nat_cmp f g) (divided_other v x m p) (divided_other v y k q) ∙ less_first (nat_cmp x y) (slice_cmp nat_cmp (divided v m) (divided v k)) o
    by (inr p) (inr q) (inr o) ih =
        ap₂ (λ (f g : List ℕ). slice_cmp nat_cmp f g) (divided_other v x m p) (divided_other v y k q)
        ∙ less_second (nat_cmp x y) (slice_cmp nat_cmp (divided v m) (divided v k)) o.0 (ih (stands_later v x m s p) (stands_later v y k t q) o.1)

-- monomials that have v keep their order where they are divided by it
pub divided_less : (v : ℕ) (m k : List ℕ) → IsVarSet m → IsVarSet k → stands v m ≡ true → stands v k ≡ true → mono_cmp m k ≡ Less → mono_cmp (divided v m) (divided v k) ≡ Less
divided_less v m k s t p q e = by (then_less (nat_cmp (length m) (length k)) (slice_cmp nat_cmp m k) e)
  where
    by : ((nat_cmp (length m) (length k) ≡ Less) ⊎ ((nat_cmp (length m) (length k) ≡ Equal) × (slice_cmp nat_cmp m k ≡ Less))) → mono_cmp (divided v m) (divided v k) ≡ Less
    by (inl o) =
        let h = length_divided v m (set_climbing m s) p in
        let g = length_divided v k (set_climbing k t) q in
        let l = less_cmp (length m) (length k) o in
        less_first (nat_cmp (length (divided v m)) (length (divided v k))) (slice_cmp nat_cmp (divided v m) (divided v k)) (cmp_less (length (divided v m)) (length (divided v k)) (omega arith))
    by (inr o) =
        let h = length_divided v m (set_climbing m s) p in
        let g = length_divided v k (set_climbing k t) q in
        let l = equal_cmp (length m) (length k) o.0 in
        less_second (nat_cmp (length (divided v m)) (length (divided v k))) (slice_cmp nat_cmp (divided v m) (divided v k)) (cmp_equal (length (divided v m)) (length (divided v k)) (omega arith))
        (slice_divided v m k (set_climbing m s) (set_climbing k t) l p q o.1)
