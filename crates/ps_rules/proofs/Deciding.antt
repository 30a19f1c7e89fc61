-- What is remembered of a variable decides which steps take it away.
use Rattle.std.proofs.Common.{◌≡◌, ◌≢◌, ℕ, zero, suc, ◌+◌, ◌-◌, refl, ap, ap₂, sym, ◌∙◌, subst, arith, ◌<◌, ◌≤◌, Bool, true, false, cond, not, nat_eq, nat_lt, ◌&&◌, ◌||◌, List, [], ◌∷◌, ◌++◌, length, take, get_or, ◌⊎◌, inl, inr}
use Rattle.std.specs.Cmp.Lexicographic.{pointwise}
use Rattle.std.proofs.lemmas.Bool.{cases_lt}
use Rattle.std.proofs.lemmas.Bool.Decides.{nat_tests}
use Rattle.std.proofs.lemmas.List.{take_more, take_all}
use Rattle.ps_mono.specs.Sets.{stands, mono_cmp, IsVarSet, Climbing, Above}
use Rattle.ps_mono.specs.Lists.{nat_eq_true, nat_eq_same}
use Rattle.ps_mono.proofs.Laws.{set_climbing}
use Rattle.ps_mono.proofs.Orders.{never_self}
use Rattle.ps_phase.specs.declared.terms.Term.{Term}
use Rattle.ps_phase.specs.Phases.{phase_occurs, coefficient, TermBefore, IsPhasePoly}
use Rattle.ps_phase.proofs.Values.{mono_eq}
use Rattle.ps_sum.specs.declared.sums.PathSum.{PathSum}
use Rattle.ps_rules.specs.declared.steps.Step.TheVariants.{Elim, Hh, Omega}
use Rattle.ps_rules.specs.declared.sights.Kind.{Kind}
use Rattle.ps_rules.specs.declared.sights.Kind.TheVariants.{Free, Halves, Quarter, Other}
use Rattle.ps_rules.specs.Terms.{EachWith, IsHalf, both}
use Rattle.ps_rules.specs.Rules.{ElimApplies, HhApplies, OmegaApplies}
use Rattle.ps_rules.specs.Sights.{IsQuarter, IsFine, in_pair, in_wide, IsFree, IsHalves, IsQuartered, IsSpoilt, SeenAs, IsPartner, NoneAt, FirstAt}
use Rattle.ps_rules.proofs.Firsts.{both_first, both_second, alone_stands, each_coefficient, elim_not_hh, elim_not_omega, hh_not_omega}
use Rattle.ps_rules.proofs.Keeps.{each_weak}
use Rattle.ps_rules.proofs.Seeing.{off, each_none}

-- ---- a set of two
both_sorted : (a b v u : ℕ) → a < b → v ≢ u → ((v ≡ a) ⊎ (v ≡ b)) → ((u ≡ a) ⊎ (u ≡ b)) → a ∷ b ∷ [] ≡ both v u
unfolding both
both_sorted a b v u h d (inl p) (inl q) = absurd (d (p ∙ sym q))
both_sorted a b v u h d (inl p) (inr q) =
    let e : nat_lt v u ≡ true = grind (arith, nat_tests) in
    ap₂ (λ (x y : ℕ). x ∷ y ∷ []) (sym p) (sym q) ∙ ap (λ (t : Bool). cond t (v ∷ u ∷ []) (u ∷ v ∷ [])) (sym e)
both_sorted a b v u h d (inr p) (inl q) =
    let e : nat_lt v u ≡ false = grind (arith, nat_tests) in
    ap₂ (λ (x y : ℕ). x ∷ y ∷ []) (sym q) (sym p) ∙ ap (λ (t : Bool). cond t (v ∷ u ∷ []) (u ∷ v ∷ [])) (sym e)
both_sorted a b v u h d (inr p) (inr q) = absurd (d (p ∙ sym q))

stands_two : (v a b : ℕ) → stands v (a ∷ b ∷ []) ≡ true → (v ≡ a) ⊎ (v ≡ b)
unfolding stands
stands_two v a b s = by (nat_eq v a) refl (nat_eq v b) refl s
  where
    by : (p : Bool) → nat_eq v a ≡ p → (q : Bool) → nat_eq v b ≡ q → (p || (q || false)) ≡ true → (v ≡ a) ⊎ (v ≡ b)
    by true e q f k = inl (nat_eq_true v a e)
    by false e true f k = inr (nat_eq_true v b f)
    by false e false f k = absurd (off k refl)

pub two_set : (m : List ℕ) (v u : ℕ) → IsVarSet m → length m ≡ 2 → v ≢ u → stands v m ≡ true → stands u m ≡ true → m ≡ both v u
two_set [] v u p l d s t = absurd (omega arith)
two_set (a ∷ []) v u p l d s t = absurd (omega arith)
two_set (a ∷ b ∷ []) v u p l d s t = both_sorted a b v u (set_climbing (a ∷ b ∷ []) p).0.0 d (stands_two v a b s) (stands_two u a b t)
two_set (a ∷ b ∷ c ∷ m) v u p l d s t = absurd (omega arith)

both_length : (v u : ℕ) → length (both v u) ≡ 2
unfolding both
both_length v u = by (nat_lt v u)
  where
    by : (t : Bool) → length (cond t (v ∷ u ∷ []) (u ∷ v ∷ [])) ≡ 2
    by true = refl
    by false = refl

-- ---- partners
all_three : (p q r : Bool) → ((p && q) && r) ≡ true → (p ≡ true) × (q ≡ true) × (r ≡ true)
all_three true true r e = (refl, refl, e)
all_three true false r e = absurd (off e refl)
all_three false q r e = absurd (off e refl)

first_or : (p q : Bool) → (p || q) ≡ true → p ≡ false → q ≡ true
first_or true q e f = absurd (off refl f)
first_or false q e f = e

pub pair_coefficient : (v u : ℕ) (ts : List Term) → IsPhasePoly ts → EachWith v IsHalf ts → v ≢ u → in_pair v u ts ≡ true → coefficient (both v u) ts ≡ 2147483648
unfolding in_pair coefficient
pair_coefficient v u [] p h d e = absurd (off e refl)
pair_coefficient v u (t ∷ ts) p h d e = by (pointwise nat_eq (both v u) t.mono) refl (pair_coefficient v u ts p.2 h.1 d)
  where
    test : Bool
    test = (stands v t.mono && nat_eq (length t.mono) 2) && stands u t.mono

    here : (b : Bool) → test ≡ b → pointwise nat_eq (both v u) t.mono ≡ false → b ≡ false
    here true k f =
        let a = all_three _ _ _ k in
        absurd (off ((mono_eq (both v u) t.mono).1 (sym (two_set t.mono v u p.0.set (nat_eq_true (length t.mono) 2 a.1) d a.0 a.2))) f)
    here false k f = refl

    by : (b : Bool) → pointwise nat_eq (both v u) t.mono ≡ b → (in_pair v u ts ≡ true → coefficient (both v u) ts ≡ 2147483648) → cond b t.phase (coefficient (both v u) ts) ≡ 2147483648
    by true k r = h.0 (ap (stands v) (sym ((mono_eq (both v u) t.mono).0 k)) ∙ both_first v u)
    by false k r = r (first_or test (in_pair v u ts) e (here test refl k))

pub coefficient_pair : (v u : ℕ) (ts : List Term) → coefficient (both v u) ts ≢ 0 → in_pair v u ts ≡ true
unfolding in_pair coefficient
coefficient_pair v u [] n = absurd (n refl)
coefficient_pair v u (t ∷ ts) n = by (pointwise nat_eq (both v u) t.mono) refl n (coefficient_pair v u ts)
  where
    three : (p q r b : Bool) → p ≡ true → q ≡ true → r ≡ true → (((p && q) && r) || b) ≡ true
    three p q r b e f g = ap (λ x. ((x && q) && r) || b) e ∙ ap (λ x. (x && r) || b) f ∙ ap (λ x. x || b) g

    later : (p : Bool) {q : Bool} → q ≡ true → (p || q) ≡ true
    later true e = refl
    later false e = e

    by : (b : Bool) → pointwise nat_eq (both v u) t.mono ≡ b → cond b t.phase (coefficient (both v u) ts) ≢ 0 → (coefficient (both v u) ts ≢ 0 → in_pair v u ts ≡ true) → (((stands v t.mono && nat_eq (length t.mono) 2) && stands u t.mono) || in_pair v u ts) ≡ true
    by true k m r =
        let e : both v u ≡ t.mono = (mono_eq (both v u) t.mono).0 k in
        three _ _ _ (in_pair v u ts) (ap (stands v) (sym e) ∙ both_first v u) (ap (λ (x : List ℕ). nat_eq (length x) 2) (sym e) ∙ ap (λ (x : ℕ). nat_eq x 2) (both_length v u)) (ap (stands u) (sym e) ∙ both_second v u)
    by false k m r = later _ (r m)

pub wide_lone : (v u : ℕ) (ts : List Term) → IsPhasePoly ts → v ≢ u → in_wide v u ts ≡ false → EachWith v (λ t. stands u t.mono ≡ true → t.mono ≡ both v u) ts
unfolding in_wide
wide_lone v u [] p d e = tt
wide_lone v u (t ∷ ts) p d e = (λ s k. by s k (nat_eq (length t.mono) 2) refl, wide_lone v u ts p.2 d (second _ _ e))
  where
    first : (p q : Bool) → (p || q) ≡ false → p ≡ false
    first true q e = e
    first false q e = refl

    second : (p q : Bool) → (p || q) ≡ false → q ≡ false
    second true q e = absurd (off refl e)
    second false q e = e

    by : stands v t.mono ≡ true → stands u t.mono ≡ true → (b : Bool) → nat_eq (length t.mono) 2 ≡ b → t.mono ≡ both v u
    by s k true l = two_set t.mono v u p.0.set (nat_eq_true (length t.mono) 2 l) d s k
    by s k false l = absurd (off (ap₂ (λ (x y : Bool). (x && y) && stands u t.mono) s (ap not l) ∙ k) (first _ _ e))

pub lone_wide : (v u : ℕ) (ts : List Term) → EachWith v (λ t. stands u t.mono ≡ true → t.mono ≡ both v u) ts → in_wide v u ts ≡ false
unfolding in_wide
lone_wide v u [] h = refl
lone_wide v u (t ∷ ts) h = ap₂ (λ (x y : Bool). x || y) (by (stands v t.mono) refl (stands u t.mono) refl) (lone_wide v u ts h.1)
  where
    none : (p : Bool) → ((p && false) && true) ≡ false
    none true = refl
    none false = refl

    end : (p q : Bool) → ((p && q) && false) ≡ false
    end true true = refl
    end true false = refl
    end false q = refl

    by : (p : Bool) → stands v t.mono ≡ p → (q : Bool) → stands u t.mono ≡ q → ((p && not (nat_eq (length t.mono) 2)) && q) ≡ false
    by true s true k = ap (λ (x : List ℕ). (true && not (nat_eq (length x) 2)) && true) (h.0 s k) ∙ ap (λ (x : ℕ). (true && not (nat_eq x 2)) && true) (both_length v u)
    by true s false k = end true _
    by false s q k = refl

-- ---- each sight
quarter_some : (c : ℕ) → IsQuarter c → c ≢ 0
quarter_some c (inl e) = λ z. omega arith
quarter_some c (inr e) = λ z. omega arith

-- the terms behind m are none of m
rest_halves : (v : ℕ) (m : List ℕ) (ts : List Term) → TermBefore m ts → EachWith v (λ t. t.mono ≢ m → IsHalf t) ts → EachWith v IsHalf ts
rest_halves v m [] b h = tt
rest_halves v m (t ∷ ts) b h = (λ s. h.0 s (λ e. never_self m (ap (mono_cmp m) (sym e) ∙ b.0)), rest_halves v m ts b.1 h.1)

omega_fine : (v : ℕ) (ts : List Term) → IsPhasePoly ts → EachWith v (λ t. t.mono ≢ v ∷ [] → IsHalf t) ts → IsQuarter (coefficient (v ∷ []) ts) → EachWith v (λ t. IsFine v t) ts
unfolding coefficient
omega_fine v [] p h q = tt
omega_fine v (t ∷ ts) p h q = by (pointwise nat_eq (v ∷ []) t.mono) refl q (omega_fine v ts p.2 h.1)
  where
    by : (b : Bool) → pointwise nat_eq (v ∷ []) t.mono ≡ b → IsQuarter (cond b t.phase (coefficient (v ∷ []) ts)) → (IsQuarter (coefficient (v ∷ []) ts) → EachWith v (λ t. IsFine v t) ts) → EachWith v (λ t. IsFine v t) (t ∷ ts)
    by true k c r =
        let e : v ∷ [] ≡ t.mono = (mono_eq (v ∷ []) t.mono).0 k in
        (λ s. inr (sym e, c), each_weak v IsHalf (λ t. IsFine v t) ts (λ t r. inl r) (rest_halves v (v ∷ []) ts (subst (λ (m : List ℕ). TermBefore m ts) (sym e) p.1) h.1))
    by false k c r = (λ s. inl (h.0 s (λ e. off ((mono_eq (v ∷ []) t.mono).1 (sym e)) k)), r c)

pub spoilt_none : (S : PathSum) (y : ℕ) → IsSpoilt (S.n + y) S.outs S.phase → NoneAt S y
spoilt_none S y h (Elim z) e a = let b = subst (ElimApplies S) e a in h b.inner.silent (each_none (S.n + y) (λ t. IsFine (S.n + y) t) S.phase b.absent)
spoilt_none S y h (Hh z u) e a = let b = subst (λ x. HhApplies S x u) e a in h b.inner.silent (each_weak (S.n + y) IsHalf (λ t. IsFine (S.n + y) t) S.phase (λ t r. inl r) b.halves)
spoilt_none S y h (Omega z) e a = let b = subst (OmegaApplies S) e a in h b.inner.silent (omega_fine (S.n + y) S.phase S.formed.0 b.halves b.quarter)

pub free_first : (S : PathSum) (y : ℕ) (pairs wide : List ℕ) → y < S.m → IsFree (S.n + y) S.outs S.phase pairs wide → FirstAt S y (Elim y)
free_first S y pairs wide l h = record { place = refl; applies = record { inner = record { inside = l; silent = h.silent }; absent = h.absent }; second_least = λ u k. absurd (omega arith) }

pub quartered_first : (S : PathSum) (y : ℕ) → y < S.m → IsQuartered (S.n + y) S.outs S.phase → FirstAt S y (Omega y)
quartered_first S y l h = record { place = refl; applies = record { inner = record { inside = l; silent = h.silent }; quarter = h.quarter; halves = h.halves }; second_least = λ u k. absurd (omega arith) }

pair_occurs : (v u : ℕ) (ts : List Term) → in_pair v u ts ≡ true → phase_occurs u ts ≡ true
unfolding in_pair phase_occurs
pair_occurs v u [] e = e
pair_occurs v u (t ∷ ts) e = by (stands v t.mono && nat_eq (length t.mono) 2) (stands u t.mono) e (pair_occurs v u ts)
  where
    by : (p q : Bool) → ((p && q) || in_pair v u ts) ≡ true → (in_pair v u ts ≡ true → phase_occurs u ts ≡ true) → (q || phase_occurs u ts) ≡ true
    by true true k r = refl
    by true false k r = r k
    by false true k r = refl
    by false false k r = r k

pub partner_applies : (S : PathSum) (y u : ℕ) (pairs wide : List ℕ) → y < S.m → IsHalves (S.n + y) S.outs S.phase pairs wide → stands u pairs ≡ true → IsPartner S.n y wide u → HhApplies S y (u - S.n)
partner_applies S y u pairs wide l h s p =
    let e : S.n + (u - S.n) ≡ u = (let k = p.path in omega arith) in
    let i : in_pair (S.n + y) u S.phase ≡ true = sym (h.partners.pairs_are u) ∙ s in
    let d : S.n + y ≢ u = λ k. p.apart (sym k) in
    record {
      inner = record { inside = l; silent = h.silent };
      second = below (S.n + S.m) (cases_lt u (S.n + S.m)) (pair_occurs (S.n + y) u S.phase i);
      apart = λ k. p.apart (sym e ∙ ap (λ x. S.n + x) k);
      halves = h.halves;
      product = subst (λ x. coefficient (both (S.n + y) x) S.phase ≡ 2147483648) (sym e) (pair_coefficient (S.n + y) u S.phase S.formed.0 h.halves d i);
      lone = subst (λ x. EachWith (S.n + y) (λ t. stands x t.mono ≡ true → t.mono ≡ both (S.n + y) x) S.phase) (sym e) (wide_lone (S.n + y) u S.phase S.formed.0 d (sym (h.partners.wide_are u) ∙ p.lone));
    }
  where
    below : (b : ℕ) → ((u < S.n + S.m) ⊎ (S.n + S.m ≤ u)) → phase_occurs u S.phase ≡ true → u - S.n < S.m
    below b (inl k) o = let q = p.path in omega arith
    below b (inr k) o = absurd (off o (S.phase_below u k))

pub applies_partner : (S : PathSum) (y z : ℕ) (pairs wide : List ℕ) → IsHalves (S.n + y) S.outs S.phase pairs wide → HhApplies S y z → (stands (S.n + z) pairs ≡ true) × IsPartner S.n y wide (S.n + z)
applies_partner S y z pairs wide h a = (
  h.partners.pairs_are (S.n + z) ∙ coefficient_pair (S.n + y) (S.n + z) S.phase (λ e. let k = a.product in omega arith),
  record {
    path = omega arith;
    apart = λ e. a.apart (omega arith);
    lone = h.partners.wide_are (S.n + z) ∙ lone_wide (S.n + y) (S.n + z) S.phase a.lone;
  },
)

-- ---- the least partner
-- no partner is among the first i of the pairs
abbrev pub Skipped : ℕ → ℕ → List ℕ → List ℕ → ℕ → Type 0
Skipped n y pairs wide i = (u : ℕ) → stands u (take i pairs) ≡ true → IsPartner n y wide u → ⊥

pub skipped_start : (n y : ℕ) (pairs wide : List ℕ) → Skipped n y pairs wide 0
unfolding stands
skipped_start n y pairs wide u s p = off s refl

pub stands_push : (u : ℕ) (m : List ℕ) (w : ℕ) → stands u (m ++ w ∷ []) ≡ true → (stands u m ≡ true) ⊎ (u ≡ w)
unfolding stands
stands_push u [] w s = by (nat_eq u w) refl s
  where
    by : (b : Bool) → nat_eq u w ≡ b → (b || false) ≡ true → (false ≡ true) ⊎ (u ≡ w)
    by true e k = inr (nat_eq_true u w e)
    by false e k = inl k
stands_push u (x ∷ m) w s = by (nat_eq u x) s (stands_push u m w)
  where
    by : (b : Bool) → (b || stands u (m ++ w ∷ [])) ≡ true → (stands u (m ++ w ∷ []) ≡ true → (stands u m ≡ true) ⊎ (u ≡ w)) → ((b || stands u m) ≡ true) ⊎ (u ≡ w)
    by true k r = inl refl
    by false k r = r k

pub skipped_more : (n y : ℕ) (pairs wide : List ℕ) (i w : ℕ) → i < length pairs → w ≡ get_or pairs i 0 → (IsPartner n y wide w → ⊥) → Skipped n y pairs wide i → Skipped n y pairs wide (i + 1)
skipped_more n y pairs wide i w l e k h u s p = by (stands_push u (take i pairs) w (ap (stands u) (sym (take_more pairs i 0 l ∙ ap (λ (x : ℕ). take i pairs ++ x ∷ []) (sym e))) ∙ s))
  where
    by : ((stands u (take i pairs) ≡ true) ⊎ (u ≡ w)) → ⊥
    by (inl t) = h u t p
    by (inr t) = k (subst (IsPartner n y wide) t p)

above_stands : (w u : ℕ) (m : List ℕ) → Above w m → u ≤ w → stands u m ≡ false
unfolding stands
above_stands w u [] a h = refl
above_stands w u (x ∷ m) a h = let e : nat_eq u x ≡ false = (let k = a.0 in grind (arith, nat_tests)) in ap₂ (λ (p q : Bool). p || q) e (above_stands w u m a.1 h)

pub get_above : (x : ℕ) (m : List ℕ) (i : ℕ) → Above x m → i < length m → x < get_or m i 0
get_above x [] i a h = absurd (omega arith)
get_above x (w ∷ m) zero a h = a.0
get_above x (w ∷ m) (suc i) a h = get_above x m i a.1 (omega arith)

-- what is below the one at place i stands before it
pub lesser_before : (m : List ℕ) (i u : ℕ) → Climbing m → i < length m → u < get_or m i 0 → stands u m ≡ true → stands u (take i m) ≡ true
unfolding stands
lesser_before [] i u c h l s = absurd (off s refl)
lesser_before (x ∷ m) zero u c h l s =
    let e : nat_eq u x ≡ false = grind (arith, nat_tests) in
    absurd (off s (ap₂ (λ (p q : Bool). p || q) e (above_stands x u m c.0 (omega arith))))
lesser_before (x ∷ m) (suc i) u c h l s = by (nat_eq u x) s (λ t. lesser_before m i u c.1 (omega arith) l t)
  where
    by : (b : Bool) → (b || stands u m) ≡ true → (stands u m ≡ true → stands u (take i m) ≡ true) → (b || stands u (take i m)) ≡ true
    by true k r = refl
    by false k r = r k

pub place_stands : (m : List ℕ) (i w : ℕ) → i < length m → w ≡ get_or m i 0 → stands w m ≡ true
unfolding stands
place_stands [] i w h e = absurd (omega arith)
place_stands (x ∷ m) zero w h e = ap (λ b. b || stands w m) (ap (λ (y : ℕ). nat_eq w y) (sym e) ∙ nat_eq_same w)
place_stands (x ∷ m) (suc i) w h e = later (nat_eq w x) (place_stands m i w (omega arith) e)
  where
    later : (p : Bool) {q : Bool} → q ≡ true → (p || q) ≡ true
    later true e = refl
    later false e = e

pub partner_first : (S : PathSum) (y w i : ℕ) (pairs wide : List ℕ) → y < S.m → IsHalves (S.n + y) S.outs S.phase pairs wide → IsVarSet pairs → i < length pairs → w ≡ get_or pairs i 0
    → Skipped S.n y pairs wide i → IsPartner S.n y wide w → FirstAt S y (Hh y (w - S.n))
partner_first S y w i pairs wide l h v li e k p = record {
  place = refl;
  applies = partner_applies S y w pairs wide l h (place_stands pairs i w li e) p;
  second_least = λ z lz a.
      let b = applies_partner S y z pairs wide h a in
      let q = p.path in
      let d : S.n + z < get_or pairs i 0 = omega arith in
      k (S.n + z) (lesser_before pairs i (S.n + z) (set_climbing pairs v) li d b.0) b.1;
}

pub halves_none : (S : PathSum) (y i : ℕ) (pairs wide : List ℕ) → IsHalves (S.n + y) S.outs S.phase pairs wide → length pairs ≤ i → Skipped S.n y pairs wide i → NoneAt S y
halves_none S y i pairs wide h li k (Elim z) f a = let b = subst (ElimApplies S) f a in off h.present b.absent
halves_none S y i pairs wide h li k (Hh z u) f a =
    let b = applies_partner S y u pairs wide h (subst (λ x. HhApplies S x u) f a) in
    k (S.n + u) (ap (stands (S.n + u)) (take_all i pairs li) ∙ b.0) b.1
halves_none S y i pairs wide h li k (Omega z) f a =
    let b = subst (OmegaApplies S) f a in
    not_half _ b.quarter (each_coefficient (S.n + y) IsHalf ((S.n + y) ∷ []) S.phase (alone_stands (S.n + y)) h.halves (quarter_some _ b.quarter))
  where
    not_half : (c : ℕ) → IsQuarter c → c ≢ 2147483648
    not_half c (inl e) = λ z. omega arith
    not_half c (inr e) = λ z. omega arith

-- ---- which kind a step wants
no_quarter : (S : PathSum) (y : ℕ) (pairs wide : List ℕ) → IsHalves (S.n + y) S.outs S.phase pairs wide → OmegaApplies S y → ⊥
no_quarter S y pairs wide h a = not_half _ a.quarter (each_coefficient (S.n + y) IsHalf ((S.n + y) ∷ []) S.phase (alone_stands (S.n + y)) h.halves (quarter_some _ a.quarter))
  where
    not_half : (c : ℕ) → IsQuarter c → c ≢ 2147483648
    not_half c (inl e) = λ z. omega arith
    not_half c (inr e) = λ z. omega arith

pub elim_kind : (S : PathSum) (y : ℕ) (k : Kind) (pairs wide : List ℕ) → y < S.m → SeenAs k (S.n + y) S.outs S.phase pairs wide → ElimApplies S y → k ≡ Free
elim_kind S y Free pairs wide l h a = refl
elim_kind S y Halves pairs wide l h a = absurd (off h.present a.absent)
elim_kind S y Quarter pairs wide l h a = absurd (elim_not_omega S y a (quartered_first S y l h).applies)
elim_kind S y Other pairs wide l h a = absurd (spoilt_none S y h (Elim y) refl a)

pub omega_kind : (S : PathSum) (y : ℕ) (k : Kind) (pairs wide : List ℕ) → y < S.m → SeenAs k (S.n + y) S.outs S.phase pairs wide → OmegaApplies S y → k ≡ Quarter
omega_kind S y Free pairs wide l h a = absurd (elim_not_omega S y (free_first S y pairs wide l h).applies a)
omega_kind S y Halves pairs wide l h a = absurd (no_quarter S y pairs wide h a)
omega_kind S y Quarter pairs wide l h a = refl
omega_kind S y Other pairs wide l h a = absurd (spoilt_none S y h (Omega y) refl a)

pub hh_kind : (S : PathSum) (y z : ℕ) (k : Kind) (pairs wide : List ℕ) → y < S.m → SeenAs k (S.n + y) S.outs S.phase pairs wide → HhApplies S y z → k ≡ Halves
hh_kind S y z Free pairs wide l h a = absurd (elim_not_hh S y z (free_first S y pairs wide l h).applies a)
hh_kind S y z Halves pairs wide l h a = refl
hh_kind S y z Quarter pairs wide l h a = absurd (hh_not_omega S y z a (quartered_first S y l h).applies)
hh_kind S y z Other pairs wide l h a = absurd (spoilt_none S y h (Hh y z) refl a)

-- an answer that is false
pub refused : (P : Type 0) → (P → ⊥) → (false ≡ true → P) × (P → false ≡ true)
refused P n = (λ e. absurd (off e refl), λ p. absurd (n p))

pub hh_answer : (S : PathSum) (y z : ℕ) (r : Bool) (pairs wide : List ℕ) → y < S.m → IsHalves (S.n + y) S.outs S.phase pairs wide → ((r ≡ true → (stands (S.n + z) pairs ≡ true) × IsPartner S.n y wide (S.n + z)) × ((stands (S.n + z) pairs ≡ true) × IsPartner S.n y wide (S.n + z) → r ≡ true))
    → (r ≡ true → HhApplies S y z) × (HhApplies S y z → r ≡ true)
hh_answer S y z r pairs wide l h d =
    let back : S.n + z - S.n ≡ z = omega arith in
    (λ e. let b = d.0 e in subst (λ x. HhApplies S y x) back (partner_applies S y (S.n + z) pairs wide l h b.0 b.1), λ a. d.1 (applies_partner S y z pairs wide h a))
