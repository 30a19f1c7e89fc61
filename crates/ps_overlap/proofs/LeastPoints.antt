-- The points at which a closed sum shows that it is not 1.
use Rattle.std.proofs.Common.{SFits, to_z, of_z, w32, ◌≤ℤ◌, ◌≡◌, ◌≢◌, ℕ, zero, suc, ◌+◌, ◌-◌, ◌%◌, refl, ap, sym, ◌∙◌, subst, arith, ◌<◌, ◌≤◌, Bool, true, false, nat_lt, List, [], ◌∷◌, ◌++◌, length, get_or, Ordering, Less, Equal, Greater, ◌⊎◌, inl, inr}
use Rattle.std.proofs.Math.IntN.{ℤ, pos, negsuc, ◌-ℤ◌}
use Rattle.std.proofs.lemmas.Int.{ints, to_z-of_z}
use Rattle.std.proofs.Math.ListN.{get_or-append}
use Rattle.std.proofs.lemmas.Bool.Decides.{nat_tests}
use Rattle.ps_ring.specs.Truths.{Truths, bit, same_bits}
use Rattle.ps_ring.specs.Numbers.{one, when}
use Rattle.ps_ring.proofs.Totals.{total_ext, total_zero}
use Rattle.ps_ring.specs.Sums.{insert_at, signed_count}
use Rattle.ps_mono.specs.Sets.{mono_cmp, stands, Below}
use Rattle.ps_mono.proofs.Orders.{mono_equal, mono_flip, mono_trans, never_self}
use Rattle.ps_bool.specs.Polys.{bool_value, Before}
use Rattle.ps_bool.proofs.Unique.{bool_value-agree, bool_value-least}
use Rattle.ps_phase.specs.declared.terms.Term.{Term}
use Rattle.ps_phase.specs.Phases.{phase_value, phase_occurs, TermBefore, IsPhasePoly}
use Rattle.ps_phase.specs.Adding.{terms_with, terms_without}
use Rattle.ps_phase.proofs.Scaling.{selected_form}
use Rattle.ps_phase.proofs.Unique.{value_at_least}
use Rattle.ps_phase.proofs.Values.{phase_agree}
use Rattle.ps_prim.specs.Closed.{VanishesAt, VanishReading}
use Rattle.ps_prim.specs.Overlaps.{IsOne, IsTurn}
use Rattle.ps_prim.proofs.ClosedSums.{vanish_read, vanishing_is_zero, zero_is_not_one, one_is_plain}
use Rattle.ps_prim.proofs.Phases.{zero_is_no_turn}
use Rattle.ps_sum.specs.declared.sums.PathSum.{PathSum}
use Rattle.ps_sum.specs.Outs.{values}
use Rattle.ps_sum.specs.Sums.{path_values}
use Rattle.ps_sum.proofs.Uniqueness.{taken_length, bit_taken}
use Rattle.ps_overlap.specs.Overlapping.{EachTerm, SomeTerm, divided, path_terms, Vanishes, point, IsLeastPoint, IsLeastMono, IsFirstPoint}
use Rattle.ps_overlap.specs.Terms.{LeastQuotient}
use Rattle.ps_overlap.proofs.Quotients.{quotients, AllHave, all_have, quotients_poly, quotients_below, phase_was, rest_free, value_free}

clash : {b : Bool} → b ≡ true → b ≡ false → ⊥
clash e f = cc

-- ---- the least of a list
meet : (f : Term → List ℕ) (ts : List Term) (b c : List ℕ) → SomeTerm (λ t. f t ≡ b) ts → EachTerm (λ t. mono_cmp (f t) c ≢ Less) ts → mono_cmp b c ≢ Less
meet f [] b c s e = absurd s
meet f (t ∷ ts) b c (inl s) e = λ l. e.0 (ap (λ (m : List ℕ). mono_cmp m c) s ∙ l)
meet f (t ∷ ts) b c (inr s) e = meet f ts b c s e.1

pub least_one : (f : Term → List ℕ) (ts : List Term) (b c : List ℕ) → SomeTerm (λ t. f t ≡ b) ts → EachTerm (λ t. mono_cmp (f t) b ≢ Less) ts → SomeTerm (λ t. f t ≡ c) ts → EachTerm (λ t. mono_cmp (f t) c ≢ Less) ts → b ≡ c
least_one f ts b c sb eb sc ec = by (mono_cmp b c) refl
  where
    by : (o : Ordering) → mono_cmp b c ≡ o → b ≡ c
    by Less e = absurd (meet f ts b c sb ec e)
    by Equal e = mono_equal b c e
    by Greater e = absurd (meet f ts c b sc eb (mono_flip b c e))

pub least_point_only : (S : PathSum) (y : ℕ) (b c : List ℕ) → IsLeastPoint S y b → IsLeastPoint S y c → b ≡ c
least_point_only S y b c p q = least_one (λ t. divided (S.n + y) t.mono) (path_terms S y) b c p.one_of p.least q.one_of q.least

least_mono_only : (ts : List Term) (b c : List ℕ) → IsLeastMono ts b → IsLeastMono ts c → b ≡ c
least_mono_only ts b c p q = least_one (λ t. t.mono) ts b c p.one_of p.least q.one_of q.least

zero_or : (k : ℤ) → (k ≡ pos 0) ⊎ (k ≢ pos 0)
zero_or (pos zero) = inl refl
zero_or (pos (suc n)) = inr (λ e. cc)
zero_or (negsuc n) = inr (λ e. cc)

pub first_point_only : (S : PathSum) (b c : List ℕ) → IsFirstPoint S b → IsFirstPoint S c → b ≡ c
first_point_only S b c p q = by (zero_or S.k)
  where
    by : ((S.k ≡ pos 0) ⊎ (S.k ≢ pos 0)) → b ≡ c
    by (inl e) = least_mono_only S.phase b c (p.unscaled e) (q.unscaled e)
    by (inr n) = p.scaled n ∙ sym (q.scaled n)

-- what comes later is no less
pub not_less : (m k : List ℕ) → mono_cmp m k ≡ Less → mono_cmp k m ≢ Less
not_less m k e f = never_self m (mono_trans m k m e f)

pub later_not_less : (m : List ℕ) (ts : List Term) → TermBefore m ts → EachTerm (λ t. mono_cmp t.mono m ≢ Less) ts
later_not_less m [] b = tt
later_not_less m (t ∷ ts) b = (not_less m t.mono b.0, later_not_less m ts b.1)

pub first_mono_least : (t : Term) (ts : List Term) → IsPhasePoly (t ∷ ts) → IsLeastMono (t ∷ ts) t.mono
first_mono_least t ts p = record { one_of = inl refl; least = (never_self t.mono, later_not_less t.mono ts p.1) }

later_quotients : (v : ℕ) (m : List ℕ) (ts : List Term) → Before m (quotients v ts) → EachTerm (λ t. mono_cmp (divided v t.mono) m ≢ Less) ts
later_quotients v m [] b = tt
later_quotients v m (t ∷ ts) b = (not_less m (divided v t.mono) b.0, later_quotients v m ts b.1)

-- the first of the terms with v, divided by it, is the least of these
pub first_quotient_least : (v : ℕ) (t : Term) (ts : List Term) → IsPhasePoly (t ∷ ts) → AllHave v (t ∷ ts) → LeastQuotient v (t ∷ ts) (divided v t.mono)
first_quotient_least v t ts p a = record { one_of = inl refl; least = (never_self (divided v t.mono), later_quotients v (divided v t.mono) ts (quotients_poly v (t ∷ ts) p a).in_order.0) }

-- ---- a point as an assignment
pub point_length : (n : ℕ) (bits : List ℕ) → length (point n bits) ≡ n
point_length n bits = taken_length 0 n (λ v. stands v bits)

pub point_bit : (n u : ℕ) (bits : List ℕ) (ys : Truths) → u < n → bit (point n bits ++ ys) u ≡ stands u bits
point_bit n u bits ys h =
    get_or-append (point n bits) ys false u (omega (arith, point_length n bits)) ∙ bit_taken 0 n u (λ v. stands v bits) h ∙ ap (λ w. stands w bits) (omega arith)

-- ---- at its point y's terms are half a turn where y is 1
first_is : (v : ℕ) (t : Term) (ts : List Term) (bits : List ℕ) → IsPhasePoly (t ∷ ts) → AllHave v (t ∷ ts) → LeastQuotient v (t ∷ ts) bits → divided v t.mono ≡ bits
first_is v t ts bits p a q =
    let f = first_quotient_least v t ts p a in
    least_one (λ t. divided v t.mono) (t ∷ ts) (divided v t.mono) bits f.one_of f.least q.one_of q.least

odd_there : (n v : ℕ) (ts : List Term) (bits : List ℕ) (ys : Truths) → IsPhasePoly ts → AllHave v ts → EachTerm (λ t. Below n (divided v t.mono)) ts → LeastQuotient v ts bits → bool_value (quotients v ts) (bit (point n bits ++ ys)) ≡ true
odd_there n v [] bits ys p a b q = absurd q.one_of
odd_there n v (t ∷ ts) bits ys p a b q =
    bool_value-agree (quotients v (t ∷ ts)) (bit (point n bits ++ ys)) (λ u. stands u bits) (λ u o. point_bit n u bits ys (quotients_below n v u (t ∷ ts) b o))
    ∙ ap (λ (m : List ℕ). bool_value (quotients v (t ∷ ts)) (λ u. stands u m)) (sym (first_is v t ts bits p a q))
    ∙ bool_value-least (divided v t.mono) (quotients v ts) (quotients_poly v (t ∷ ts) p a)

quotient_of : (S : PathSum) (y : ℕ) (bits : List ℕ) → IsLeastPoint S y bits → LeastQuotient (S.n + y) (path_terms S y) bits
quotient_of S y bits p = record { one_of = p.one_of; least = p.least }

vanish_reading : (S : PathSum) (y : ℕ) (bits : List ℕ) → S.outs ≡ [] → Vanishes S y → IsLeastPoint S y bits
    → VanishReading S.n (S.m - 1) y (phase_value S.phase) (phase_value (terms_without (S.n + y) S.phase)) (values S.outs) (bool_value (quotients (S.n + y) (path_terms S y))) (point S.n bits)
unfolding values
vanish_reading S y bits o v p = record {
  at = (let h : y < S.m = v.inside in omega arith);
  rest_free = rest_free (S.n + y) S.phase;
  value_free = value_free S.n (S.n + y) (path_terms S y) (omega arith) v.at_inputs;
  outs_free = λ a b h. ap (λ (fs : List (List (List ℕ))). values fs a) o ∙ sym (ap (λ (fs : List (List (List ℕ))). values fs b) o);
  phase_was = phase_was (S.n + y) S.phase v.halves;
  holds = λ ys l. odd_there S.n (S.n + y) (path_terms S y) bits (insert_at y false ys) (selected_form true (S.n + y) S.phase S.formed.0) (all_have (S.n + y) S.phase) v.at_inputs (quotient_of S y bits p);
}

vanishes_at : (S : PathSum) (y : ℕ) (bits : List ℕ) → S.outs ≡ [] → Vanishes S y → IsLeastPoint S y bits → VanishesAt (path_values S) (point S.n bits) (S.m - 1) y
vanishes_at S y bits o v p =
    let r = vanish_read S.n (S.m - 1) y S.k (phase_value S.phase) (phase_value (terms_without (S.n + y) S.phase)) (values S.outs) (bool_value (quotients (S.n + y) (path_terms S y))) (point S.n bits) (point_length S.n bits) (vanish_reading S y bits o v p) in
    record { m_is = (let h : y < S.m = v.inside in omega arith); at = r.at; flips = r.flips; idle = r.idle }

-- a sum with an output is 0 at no output
spoken_zero : (S : PathSum) (x : Truths) (f : List (List ℕ)) (fs : List (List (List ℕ))) → S.outs ≡ f ∷ fs → (j : ℤ) → signed_count (path_values S) x [] j ≡ pos 0
unfolding signed_count values same_bits when
spoken_zero S x f fs e j = total_ext S.m _ (λ y. pos 0) (λ y l. ap (λ (o : List (List (List ℕ))). when (same_bits (values o (bit (x ++ y))) []) (one (j -ℤ pos (phase_value S.phase (bit (x ++ y)))))) e) ∙ total_zero S.m

-- so a fact on its number there is to be shown of closed sums alone
by_outs : (S : PathSum) (P : Type 0) → (S.outs ≡ [] → P) → ((f : List (List ℕ)) (fs : List (List (List ℕ))) → S.outs ≡ f ∷ fs → P) → P
by_outs S P closed spoken = by S.outs refl
  where
    by : (o : List (List (List ℕ))) → S.outs ≡ o → P
    by [] e = closed e
    by (f ∷ fs) e = spoken f fs e

-- where a variable vanishes, the sum is 0 at its point
pub vanishing_zero : (S : PathSum) (y : ℕ) (bits : List ℕ) → Vanishes S y → IsLeastPoint S y bits → (j : ℤ) → signed_count (path_values S) (point S.n bits) [] j ≡ pos 0
vanishing_zero S y bits v p j =
    by_outs S (signed_count (path_values S) (point S.n bits) [] j ≡ pos 0) (λ o. vanishing_is_zero (path_values S) (point S.n bits) (S.m - 1) y (vanishes_at S y bits o v p) [] j) (λ f fs e. spoken_zero S (point S.n bits) f fs e j)

-- and so not 1
pub vanishing_not_one : (S : PathSum) (y : ℕ) (bits : List ℕ) → Vanishes S y → IsLeastPoint S y bits → ¬ (IsOne (path_values S) (point S.n bits))
vanishing_not_one S y bits v p = zero_is_not_one (path_values S) (point S.n bits) (vanishing_zero S y bits v p)

-- and no phase
pub vanishing_no_turn : (S : PathSum) (y : ℕ) (bits : List ℕ) (p : ℕ) → Vanishes S y → IsLeastPoint S y bits → ¬ (IsTurn (path_values S) (point S.n bits) p)
vanishing_no_turn S y bits p v l = zero_is_no_turn (path_values S) (point S.n bits) p (vanishing_zero S y bits v l)

-- ---- the first point
pub below_all : (n u : ℕ) (b : Bool) → (n ≤ u → b ≡ false) → b ≡ true → u < n
below_all n u b h e = by (nat_lt u n) refl
  where
    by : (t : Bool) → nat_lt u n ≡ t → u < n
    by true l = grind (arith, nat_tests)
    by false l = absurd (clash e (h (grind (arith, nat_tests))))

pub turn_there : (n : ℕ) (ts : List Term) (bits : List ℕ) → IsPhasePoly ts → ((v : ℕ) → n + 0 ≤ v → phase_occurs v ts ≡ false) → IsLeastMono ts bits → phase_value ts (bit (point n bits ++ [])) % 4294967296 ≡ 0 → ⊥
turn_there n [] bits p b q e = absurd q.one_of
turn_there n (t ∷ ts) bits p b q e =
    let f = first_mono_least t ts p in
    let d : t.mono ≡ bits = least_one (λ t. t.mono) (t ∷ ts) t.mono bits f.one_of f.least q.one_of q.least in
    let w : phase_value (t ∷ ts) (bit (point n bits ++ [])) ≡ t.phase =
    phase_agree (t ∷ ts) (bit (point n bits ++ [])) (λ u. stands u bits) (λ u o. point_bit n u bits [] (below_all n u (phase_occurs u (t ∷ ts)) (λ l. b u (omega arith)) o))
    ∙ ap (λ (m : List ℕ). phase_value (t ∷ ts) (λ u. stands u m)) (sym d) ∙ value_at_least t ts p in
    let nz : t.phase ≢ 0 = p.0.turns in
    let sm : t.phase < 4294967296 = p.0.small in
    nz (omega arith)

-- without path variables the sum is not 1 there
closed_not_one : (S : PathSum) (bits : List ℕ) → S.outs ≡ [] → S.m ≡ 0 → IsFirstPoint S bits → ¬ (IsOne (path_values S) (point S.n bits))
unfolding values
closed_not_one S bits o m p h =
    let r = one_is_plain (path_values S) (point S.n bits) m (ap (λ (fs : List (List (List ℕ))). values fs (bit (point S.n bits ++ []))) o) h in
    turn_there S.n S.phase bits S.formed.0 (λ v l. S.phase_below v (let e : S.m ≡ 0 = m in omega arith)) (p.unscaled r.0) r.1

pub first_point_not_one : (S : PathSum) (bits : List ℕ) → S.m ≡ 0 → IsFirstPoint S bits → ¬ (IsOne (path_values S) (point S.n bits))
first_point_not_one S bits m p =
    by_outs S (¬ (IsOne (path_values S) (point S.n bits))) (λ o. closed_not_one S bits o m p) (λ f fs e. zero_is_not_one (path_values S) (point S.n bits) (spoken_zero S (point S.n bits) f fs e))

-- what the code of `first_point` answers
pub unscaled_point : (S : PathSum) (ts : List Term) (t : Term) (bits : List ℕ) → S.k ≡ pos 0 → ts ≡ S.phase → IsPhasePoly S.phase → (S.phase ≡ [] → ⊥) → t ≡ get_or ts 0 t → bits ≡ t.mono → IsFirstPoint S bits
unscaled_point S ts t bits k et p n e b = record { scaled = λ d. absurd (d k); unscaled = λ z. least S.phase p n (e ∙ ap (λ (x : List Term). get_or x 0 t) et) }
  where
    least : (ps : List Term) → IsPhasePoly ps → (ps ≡ [] → ⊥) → t ≡ get_or ps 0 t → IsLeastMono ps bits
    least [] p n e = absurd (n refl)
    least (u ∷ ps) p n e = subst (IsLeastMono (u ∷ ps)) (ap (λ (x : Term). x.mono) (sym e) ∙ sym b) (first_mono_least u ps p)

pub scaled_point : (S : PathSum) (bits : List ℕ) → S.k ≢ pos 0 → bits ≡ [] → IsFirstPoint S bits
scaled_point S bits k b = record { scaled = λ d. b; unscaled = λ z. absurd (k z) }

-- the test of the scale
scale_fits : (k : ℤ) → (negsuc 1999999999 ≤ℤ k) × (k ≤ℤ pos 2000000000) → SFits w32 k
scale_fits k b = omega (arith, ints)

pub scale_zero : (S : PathSum) → of_z w32 S.k ≡ 0 → S.k ≡ pos 0
scale_zero S e = sym (to_z-of_z w32 S.k (scale_fits S.k S.scaled)) ∙ ap (to_z w32) e

pub scale_other : (S : PathSum) → (of_z w32 S.k ≡ 0 → ⊥) → S.k ≢ pos 0
scale_other S n e = n (ap (of_z w32) e)

-- what the code of `least_point` answers
pub quotient_point : (S : PathSum) (y : ℕ) (ts : List Term) (left bits : List ℕ) → ts ≡ S.phase → bits ≡ left → LeastQuotient (S.n + y) (terms_with (S.n + y) ts) left → IsLeastPoint S y bits
quotient_point S y ts left bits et eb q =
    let r = subst (λ (x : List Term). LeastQuotient (S.n + y) (terms_with (S.n + y) x) bits) et (subst (LeastQuotient (S.n + y) (terms_with (S.n + y) ts)) (sym eb) q) in
    record { one_of = r.one_of; least = r.least }
