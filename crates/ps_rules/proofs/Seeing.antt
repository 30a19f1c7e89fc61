-- One term more in what is remembered of a variable.
use Rattle.std.proofs.Common.{◌≡◌, ◌≢◌, ℕ, refl, ap, ap₂, sym, ◌∙◌, subst, arith, Bool, true, false, cond, not, nat_eq, ◌&&◌, ◌||◌, List, [], ◌∷◌, ◌++◌, length, get_or, length-append, inl, inr, Less}
use Rattle.std.proofs.lemmas.Bool.Decides.{nat_tests}
use Rattle.ps_mono.specs.Sets.{stands}
use Rattle.ps_mono.specs.Lists.{nat_eq_true}
use Rattle.ps_phase.specs.declared.terms.Term.{Term}
use Rattle.ps_phase.specs.Phases.{phase_occurs, coefficient, TermBefore, IsTerm, IsPhasePoly}
use Rattle.ps_phase.proofs.Values.{coefficient_at, mono_eq}
use Rattle.ps_mono.proofs.Orders.{never_self}
use Rattle.ps_mono.specs.Sets.{mono_cmp}
use Rattle.std.specs.Cmp.Lexicographic.{pointwise}
use Rattle.ps_rules.proofs.Keeps.{each_weak}
use Rattle.ps_sum.specs.Outs.{outs_occur}
use Rattle.ps_rules.specs.Terms.{EachWith, IsHalf}
use Rattle.ps_rules.specs.Sights.{IsQuarter, IsFine, in_pair, in_wide, Partners, IsFree, IsHalves, IsQuartered, AllHalves, IsSpoilt}

pub off : {b : Bool} → b ≡ true → b ≡ false → ⊥
off e f = cc

-- ---- a list with one term more
pub each_push : (v : ℕ) (R : Term → Type 0) (ts : List Term) (t : Term) → EachWith v R ts → (stands v t.mono ≡ true → R t) → EachWith v R (ts ++ t ∷ [])
each_push v R [] t h r = (r, tt)
each_push v R (x ∷ ts) t h r = (h.0, each_push v R ts t h.1 r)

pub each_front : (v : ℕ) (R : Term → Type 0) (ts us : List Term) → EachWith v R (ts ++ us) → EachWith v R ts
each_front v R [] us h = tt
each_front v R (x ∷ ts) us h = (h.0, each_front v R ts us h.1)

pub each_last : (v : ℕ) (R : Term → Type 0) (ts : List Term) (t : Term) → EachWith v R (ts ++ t ∷ []) → stands v t.mono ≡ true → R t
each_last v R [] t h = h.0
each_last v R (x ∷ ts) t h = each_last v R ts t h.1

pub each_none : (v : ℕ) (R : Term → Type 0) (ts : List Term) → phase_occurs v ts ≡ false → EachWith v R ts
unfolding phase_occurs
each_none v R [] n = tt
each_none v R (t ∷ ts) n = (λ s. absurd (off s (first (stands v t.mono) _ n)), each_none v R ts (second (stands v t.mono) _ n))
  where
    first : (p q : Bool) → (p || q) ≡ false → p ≡ false
    first true q e = e
    first false q e = refl

    second : (p q : Bool) → (p || q) ≡ false → q ≡ false
    second true q e = absurd (off refl e)
    second false q e = e

occurs_push : (v : ℕ) (ts : List Term) (t : Term) → stands v t.mono ≡ true → phase_occurs v (ts ++ t ∷ []) ≡ true
unfolding phase_occurs
occurs_push v [] t s = ap (λ b. b || false) s
occurs_push v (x ∷ ts) t s = later (stands v x.mono) (occurs_push v ts t s)
  where
    later : (p : Bool) {q : Bool} → q ≡ true → (p || q) ≡ true
    later true e = refl
    later false e = e

or_move : (p q r : Bool) → (p || (q || r)) ≡ ((p || q) || r)
or_move true q r = refl
or_move false q r = refl

or_none : (b : Bool) → (b || false) ≡ b
or_none true = refl
or_none false = refl

pub in_pair_push : (v u : ℕ) (ts : List Term) (t : Term) → in_pair v u (ts ++ t ∷ []) ≡ (in_pair v u ts || ((stands v t.mono && nat_eq (length t.mono) 2) && stands u t.mono))
unfolding in_pair
in_pair_push v u [] t = or_none _
in_pair_push v u (x ∷ ts) t = ap (λ b. ((stands v x.mono && nat_eq (length x.mono) 2) && stands u x.mono) || b) (in_pair_push v u ts t) ∙ or_move _ (in_pair v u ts) _

pub in_wide_push : (v u : ℕ) (ts : List Term) (t : Term) → in_wide v u (ts ++ t ∷ []) ≡ (in_wide v u ts || ((stands v t.mono && not (nat_eq (length t.mono) 2)) && stands u t.mono))
unfolding in_wide
in_wide_push v u [] t = or_none _
in_wide_push v u (x ∷ ts) t = ap (λ b. ((stands v x.mono && not (nat_eq (length x.mono) 2)) && stands u x.mono) || b) (in_wide_push v u ts t) ∙ or_move _ (in_wide v u ts) _

pub last_term : (ts : List Term) (t : Term) → IsPhasePoly (ts ++ t ∷ []) → IsTerm t
last_term [] t p = p.0
last_term (x ∷ ts) t p = last_term ts t p.2

get_last : (ts : List Term) (t d : Term) → get_or (ts ++ t ∷ []) (length ts) d ≡ t
get_last [] t d = refl
get_last (x ∷ ts) t d = get_last ts t d

last_coefficient : (m : List ℕ) (ts : List Term) (t : Term) → IsPhasePoly (ts ++ t ∷ []) → t.mono ≡ m → t.phase ≡ coefficient m (ts ++ t ∷ [])
last_coefficient m ts t p e = coefficient_at m (ts ++ t ∷ []) (length ts) t p (omega (arith, length-append ts (t ∷ []))) (sym (get_last ts t t)) e

-- a coefficient that is there stays
pub kept_coefficient : (m : List ℕ) (ts us : List Term) → coefficient m ts ≢ 0 → coefficient m (ts ++ us) ≡ coefficient m ts
unfolding coefficient
kept_coefficient m [] us n = absurd (n refl)
kept_coefficient m (t ∷ ts) us n = by (pointwise nat_eq m t.mono) n (kept_coefficient m ts us)
  where
    by : (b : Bool) → cond b t.phase (coefficient m ts) ≢ 0 → (coefficient m ts ≢ 0 → coefficient m (ts ++ us) ≡ coefficient m ts) → cond b t.phase (coefficient m (ts ++ us)) ≡ cond b t.phase (coefficient m ts)
    by true k r = refl
    by false k r = r k

-- no term before has the last one's monomial
none_before : (ts : List Term) (t : Term) → IsPhasePoly (ts ++ t ∷ []) → coefficient t.mono ts ≡ 0
unfolding coefficient
none_before [] t p = refl
none_before (x ∷ ts) t p = by (pointwise nat_eq t.mono x.mono) refl (none_before ts t p.2)
  where
    before : (ts : List Term) → TermBefore x.mono (ts ++ t ∷ []) → mono_cmp x.mono t.mono ≡ Less
    before [] b = b.0
    before (y ∷ ts) b = before ts b.1

    by : (b : Bool) → pointwise nat_eq t.mono x.mono ≡ b → coefficient t.mono ts ≡ 0 → cond b x.phase (coefficient t.mono ts) ≡ 0
    by true e r = absurd (never_self x.mono (ap (mono_cmp x.mono) (sym ((mono_eq t.mono x.mono).0 e)) ∙ before ts p.1))
    by false e r = r

alone : (v : ℕ) (m : List ℕ) → length m ≡ 1 → stands v m ≡ true → m ≡ v ∷ []
unfolding stands
alone v [] l s = absurd (omega arith)
alone v (a ∷ []) l s = by (nat_eq v a) refl s
  where
    by : (b : Bool) → nat_eq v a ≡ b → (b || false) ≡ true → a ∷ [] ≡ v ∷ []
    by true e k = ap (λ (x : ℕ). x ∷ []) (sym (nat_eq_true v a e))
    by false e k = absurd (off k refl)
alone v (a ∷ b ∷ m) l s = absurd (omega arith)

-- ---- the first sight
pub unseen_free : (v : ℕ) (outs : List (List (List ℕ))) (pairs wide : List ℕ) → outs_occur v outs ≡ false → pairs ≡ [] → wide ≡ [] → IsFree v outs [] pairs wide
unfolding phase_occurs in_pair in_wide stands
unseen_free v outs pairs wide n ep ew = record { silent = n; absent = refl; partners = record { pairs_are = λ u. ap (stands u) ep; wide_are = λ u. ap (stands u) ew } }

pub spoken_spoilt : (v : ℕ) (outs : List (List (List ℕ))) (ts : List Term) → outs_occur v outs ≡ true → IsSpoilt v outs ts
spoken_spoilt v outs ts s n f = off s n

-- ---- one term more
pub free_halves : (v : ℕ) (outs : List (List (List ℕ))) (ts : List Term) (pairs wide : List ℕ) → IsFree v outs ts pairs wide → AllHalves v outs ts pairs wide
free_halves v outs ts pairs wide f = record { silent = f.silent; halves = each_none v IsHalf ts f.absent; partners = f.partners }

pub halves_halves : (v : ℕ) (outs : List (List (List ℕ))) (ts : List Term) (pairs wide : List ℕ) → IsHalves v outs ts pairs wide → AllHalves v outs ts pairs wide
halves_halves v outs ts pairs wide f = record { silent = f.silent; halves = f.halves; partners = f.partners }

pub spoilt_more : (v : ℕ) (outs : List (List (List ℕ))) (ts us : List Term) → IsSpoilt v outs ts → IsSpoilt v outs (ts ++ us)
spoilt_more v outs ts us h n f = h n (each_front v (λ t. IsFine v t) ts us f)

pub quartered_half : (v : ℕ) (outs : List (List (List ℕ))) (ts : List Term) (t : Term) → t.phase ≡ 2147483648 → IsQuartered v outs ts → IsQuartered v outs (ts ++ t ∷ [])
quartered_half v outs ts t e q = record {
  silent = q.silent;
  quarter = subst IsQuarter (sym (kept_coefficient (v ∷ []) ts (t ∷ []) (some _ q.quarter))) q.quarter;
  halves = each_push v (λ t. t.mono ≢ v ∷ [] → IsHalf t) ts t q.halves (λ s n. e);
}
  where
    some : (c : ℕ) → IsQuarter c → c ≢ 0
    some c (inl e) = λ z. omega arith
    some c (inr e) = λ z. omega arith

pub quartered_other : (v : ℕ) (outs : List (List (List ℕ))) (ts : List Term) (t : Term) → IsPhasePoly (ts ++ t ∷ []) → stands v t.mono ≡ true → t.phase ≢ 2147483648 → IsQuartered v outs ts → IsSpoilt v outs (ts ++ t ∷ [])
quartered_other v outs ts t p s e q n f = by (each_last v (λ t. IsFine v t) ts t f s)
  where
    some : (c : ℕ) → IsQuarter c → c ≢ 0
    some c (inl e) = λ z. omega arith
    some c (inr e) = λ z. omega arith

    by : IsFine v t → ⊥
    by (inl h) = e h
    by (inr h) = some _ q.quarter (ap (λ m. coefficient m ts) (sym h.0) ∙ none_before ts t p)

pub halves_quarter : (v : ℕ) (outs : List (List (List ℕ))) (ts : List Term) (t : Term) (pairs wide : List ℕ) → IsPhasePoly (ts ++ t ∷ []) → stands v t.mono ≡ true → length t.mono ≡ 1 → IsQuarter t.phase → AllHalves v outs ts pairs wide → IsQuartered v outs (ts ++ t ∷ [])
halves_quarter v outs ts t pairs wide p s l k h =
    let a : t.mono ≡ v ∷ [] = alone v t.mono l s in
    record {
      silent = h.silent;
      quarter = subst IsQuarter (last_coefficient (v ∷ []) ts t p a) k;
      halves = each_push v (λ t. t.mono ≢ v ∷ [] → IsHalf t) ts t (each_weak v IsHalf (λ t. t.mono ≢ v ∷ [] → IsHalf t) ts (λ t r n. r) h.halves) (λ s n. absurd (n a));
    }

pub halves_other : (v : ℕ) (outs : List (List (List ℕ))) (ts : List Term) (t : Term) → stands v t.mono ≡ true → t.phase ≢ 2147483648 → (length t.mono ≡ 1 → IsQuarter t.phase → ⊥) → IsSpoilt v outs (ts ++ t ∷ [])
halves_other v outs ts t s e k n f = by (each_last v (λ t. IsFine v t) ts t f s)
  where
    by : IsFine v t → ⊥
    by (inl h) = e h
    by (inr h) = k (ap (λ (m : List ℕ). length m) h.0) h.1

-- the partners in a term more
more_pairs : (a b c d : Bool) → a ≡ true → b ≡ true → (c || d) ≡ (c || ((a && b) && d))
more_pairs a b c d e f = ap₂ (λ (x y : Bool). c || ((x && y) && d)) (sym e) (sym f)

more_wide : (a b c d : Bool) → b ≡ true → c ≡ (c || ((a && not b) && d))
more_wide true b true d f = refl
more_wide true true false d f = refl
more_wide true false false d f = absurd (off f refl)
more_wide false b true d f = refl
more_wide false b false d f = refl

pub partners_pair : (v : ℕ) (ts : List Term) (t : Term) (pairs wide pairs' wide' : List ℕ) → stands v t.mono ≡ true → length t.mono ≡ 2 → ((u : ℕ) → stands u pairs' ≡ (stands u pairs || stands u t.mono)) → wide' ≡ wide → Partners v ts pairs wide → Partners v (ts ++ t ∷ []) pairs' wide'
partners_pair v ts t pairs wide pairs' wide' s l ep ew p =
    let two : nat_eq (length t.mono) 2 ≡ true = grind (arith, nat_tests) in
    record {
      pairs_are = λ u. ep u ∙ ap (λ b. b || stands u t.mono) (p.pairs_are u) ∙ more_pairs (stands v t.mono) (nat_eq (length t.mono) 2) (in_pair v u ts) (stands u t.mono) s two ∙ sym (in_pair_push v u ts t);
      wide_are = λ u. ap (stands u) ew ∙ p.wide_are u ∙ more_wide (stands v t.mono) (nat_eq (length t.mono) 2) (in_wide v u ts) (stands u t.mono) two ∙ sym (in_wide_push v u ts t);
    }

more_wide_not : (a b c d : Bool) → a ≡ true → b ≡ false → (c || d) ≡ (c || ((a && not b) && d))
more_wide_not a b c d e f = ap₂ (λ (x y : Bool). c || ((x && not y) && d)) (sym e) (sym f)

more_pairs_not : (a b c d : Bool) → b ≡ false → c ≡ (c || ((a && b) && d))
more_pairs_not a b true d f = refl
more_pairs_not true true false d f = absurd (off refl f)
more_pairs_not true false false d f = refl
more_pairs_not false b false d f = refl

pub partners_wide : (v : ℕ) (ts : List Term) (t : Term) (pairs wide pairs' wide' : List ℕ) → stands v t.mono ≡ true → length t.mono ≢ 2 → pairs' ≡ pairs → ((u : ℕ) → stands u wide' ≡ (stands u wide || stands u t.mono)) → Partners v ts pairs wide → Partners v (ts ++ t ∷ []) pairs' wide'
partners_wide v ts t pairs wide pairs' wide' s l ep ew p =
    let two : nat_eq (length t.mono) 2 ≡ false = grind (arith, nat_tests) in
    record {
      pairs_are = λ u. ap (stands u) ep ∙ p.pairs_are u ∙ more_pairs_not (stands v t.mono) (nat_eq (length t.mono) 2) (in_pair v u ts) (stands u t.mono) two ∙ sym (in_pair_push v u ts t);
      wide_are = λ u. ew u ∙ ap (λ b. b || stands u t.mono) (p.wide_are u) ∙ more_wide_not (stands v t.mono) (nat_eq (length t.mono) 2) (in_wide v u ts) (stands u t.mono) s two ∙ sym (in_wide_push v u ts t);
    }

pub halves_more : (v : ℕ) (outs : List (List (List ℕ))) (ts : List Term) (t : Term) (pairs wide pairs' wide' : List ℕ) → stands v t.mono ≡ true → t.phase ≡ 2147483648 → Partners v (ts ++ t ∷ []) pairs' wide' → AllHalves v outs ts pairs wide → IsHalves v outs (ts ++ t ∷ []) pairs' wide'
halves_more v outs ts t pairs wide pairs' wide' s e p h = record {
  silent = h.silent;
  present = occurs_push v ts t s;
  halves = each_push v IsHalf ts t h.halves (λ k. e);
  partners = p;
}
