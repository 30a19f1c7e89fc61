-- The sums of single gates.
use Rattle.std.proofs.Common.{◌≡◌, ◌≢◌, ℕ, zero, suc, ◌+◌, ◌-◌, ◌*◌, ◌%◌, refl, ap, ap₂, sym, subst, ◌∙◌, arith, ◌<◌, ◌≤◌, Bool, true, false, not, cond, ◌&&◌, ◌||◌, List, [], ◌∷◌, ◌++◌, length, set, get_or}
use Rattle.std.proofs.lemmas.List.{length-set, set-get_or}
use Rattle.std.proofs.Math.IntN.{ℤ, pos}
use Rattle.ps_mono.specs.Sets.{holds, stands}
use Rattle.ps_mono.specs.Truth.{differ, times}
use Rattle.ps_mono.proofs.Laws.{holds_union}
use Rattle.ps_ring.specs.Truths.{Truths, bit}
use Rattle.ps_ring.specs.Joins.{PlainSum, TurnedSum}
use Rattle.ps_ring.specs.Readings.{Assignment, taken, read_sum, PlainReading, TurnedReading}
use Rattle.ps_ring.proofs.ReadJoins.{plain_read, turned_read}
use Rattle.ps_prim.specs.declared.prims.Primitive.{Primitive as Prim}
use Rattle.ps_prim.specs.declared.prims.Primitive.TheVariants.{U, Cx}
use Rattle.ps_prim.specs.Amplitudes.{flipped, exchanged}
use Rattle.ps_prim.specs.Maps.{IsWithin}
use Rattle.ps_prim.specs.Sums.{LeafSum, Denotes}
use Rattle.ps_prim.proofs.Leaves.{leaf_denotes}
use Rattle.ps_prim.proofs.PlainSums.{identity_denotes}
use Rattle.ps_bool.specs.Polys.{bool_value, occurs, IsPoly}
use Rattle.ps_bool.proofs.Laws.{bool_value-var}
use Rattle.ps_phase.specs.declared.terms.Term.{Term}
use Rattle.ps_phase.specs.Phases.{phase_value, phase_occurs, IsPhasePoly}
use Rattle.ps_phase.proofs.Adding.{no_or}
use Rattle.ps_sum.specs.Forms.{AllPolys}
use Rattle.ps_sum.specs.Outs.{values, outs_occur}
use Rattle.ps_sum.specs.Sums.{path_values}
use Rattle.ps_sum.specs.declared.sums.PathSum.{PathSum}
use Rattle.ps_sum.proofs.Uniqueness.{bit_taken}
use Rattle.ps_sum.proofs.Closings.{length_values}
use Rattle.ps_join.specs.Inputs.{inputs_from, IsRotation}
use Rattle.ps_join.specs.Joining.{IsLeafOf, IsIdentityOf}
use Rattle.ps_join.proofs.Outputs.{var_poly, var_free, other_stands, inputs_length, inputs_values, inputs_free, inputs_polys, inputs_get, set_values, set_free, set_polys}

-- ---- outputs that are inputs, but for one
pub inputs_wide : (n : ℕ) (outs : List (List (List ℕ))) → outs ≡ inputs_from 0 n → length outs ≡ n
inputs_wide n outs e = ap length e ∙ inputs_length 0 n

pub inputs_below : (n m v : ℕ) (outs : List (List (List ℕ))) → outs ≡ inputs_from 0 n → n + m ≤ v → outs_occur v outs ≡ false
inputs_below n m v outs e h = ap (outs_occur v) e ∙ inputs_free 0 n v (omega arith)

pub inputs_formed : (n : ℕ) (outs : List (List (List ℕ))) → outs ≡ inputs_from 0 n → n ≤ 64 → AllPolys outs
inputs_formed n outs e h = subst AllPolys (sym e) (inputs_polys 0 n (omega arith))

pub changed_wide : (n i : ℕ) (outs : List (List (List ℕ))) (f : List (List ℕ)) → outs ≡ inputs_from 0 n → length (set outs i f) ≡ n
changed_wide n i outs f e = length-set outs i f ∙ inputs_wide n outs e

pub changed_formed : (n i : ℕ) (outs : List (List (List ℕ))) (f : List (List ℕ)) → outs ≡ inputs_from 0 n → n ≤ 64 → IsPoly f → AllPolys (set outs i f)
changed_formed n i outs f e h p = set_polys outs i f (inputs_formed n outs e h) p

inputs_taken : (n : ℕ) (outs : List (List (List ℕ))) (a : Assignment) → outs ≡ inputs_from 0 n → values outs a ≡ taken 0 n a
inputs_taken n outs a e = ap (λ o. values o a) e ∙ inputs_values 0 n a

changed_taken : (n i : ℕ) (outs : List (List (List ℕ))) (f : List (List ℕ)) (a : Assignment) → outs ≡ inputs_from 0 n → values (set outs i f) a ≡ set (taken 0 n a) i (bool_value f a)
changed_taken n i outs f a e = set_values outs i f a ∙ ap (λ (w : Truths). set w i (bool_value f a)) (inputs_taken n outs a e)

pub at_taken : (n q : ℕ) (a : Assignment) → q < n → bit (taken 0 n a) q ≡ a q
at_taken n q a h = bit_taken 0 n q a h ∙ ap a (omega arith)

-- ---- sums without path variables
plain_sum : (n : ℕ) (f : Truths → Truths) (F : Truths → ℕ) (S : PathSum) → S.m ≡ 0 → S.k ≡ pos 0 → PlainReading n f F (phase_value S.phase) (values S.outs) → PlainSum n f F (path_values S)
plain_sum n f F S m k r =
    subst (λ (j : ℕ). PlainSum n f F (read_sum j S.k (phase_value S.phase) (values S.outs))) (sym m)
    (subst (λ (q : ℤ). PlainSum n f F (read_sum 0 q (phase_value S.phase) (values S.outs))) (sym k) (plain_read n f F (phase_value S.phase) (values S.outs) r))

no_phase : (p : List Term) (a : Assignment) → p ≡ [] → phase_value p a % 4294967296 ≡ 0 % 4294967296
unfolding phase_value
no_phase p a e = ap (λ (r : List Term). phase_value r a % 4294967296) e

pub empty_below : (p : List Term) (v : ℕ) → p ≡ [] → phase_occurs v p ≡ false
unfolding phase_occurs
empty_below p v e = ap (phase_occurs v) e

pub empty_formed : (p : List Term) → p ≡ [] → IsPhasePoly p
empty_formed p e = subst IsPhasePoly (sym e) tt

-- none
pub identity_sum : (n : ℕ) (outs : List (List (List ℕ))) (p : List Term) (S : PathSum) → outs ≡ inputs_from 0 n → p ≡ [] → S.n ≡ n → S.m ≡ 0 → S.k ≡ pos 0 → S.phase ≡ p → S.outs ≡ outs → IsIdentityOf n S
identity_sum n outs p S e z en em ek ep eo = record {
  n_is = en;
  values_are = plain_sum n (λ x. x) (λ x. 0) S em ek (record { phase_is = λ a. no_phase S.phase a (ep ∙ z); outs_is = λ a. inputs_taken n S.outs a (eo ∙ e) });
}

-- the controlled not
not_is : (b : Bool) → not b ≡ differ b true
unfolding differ
not_is true = refl
not_is false = refl

differ_none : (b : Bool) → differ b false ≡ b
unfolding differ
differ_none true = refl
differ_none false = refl

flipped_is : (b : Bool) (t : ℕ) (z : Truths) → flipped b t z ≡ set z t (differ (bit z t) b)
unfolding flipped
flipped_is true t z = ap (set z t) (not_is (bit z t))
flipped_is false t z = sym (ap (set z t) (differ_none (bit z t)) ∙ set-get_or z t false)

pub exchanged_is : (c t : ℕ) (z : Truths) → exchanged c t z ≡ set z t (differ (bit z t) (bit z c))
unfolding exchanged
exchanged_is c t z = flipped_is (bit z c) t z

input_is : (n q : ℕ) (outs : List (List (List ℕ))) (f : List (List ℕ)) → outs ≡ inputs_from 0 n → q < n → f ≡ get_or outs q f → f ≡ (q ∷ []) ∷ []
input_is n q outs f e h r =
    let z : 0 + q ≡ q = omega arith in
    r ∙ ap (λ (o : List (List (List ℕ))). get_or o q f) e ∙ inputs_get 0 n q f h ∙ ap (λ (k : ℕ). (k ∷ []) ∷ []) z

input_value : (q : ℕ) (f : List (List ℕ)) (a : Assignment) → f ≡ (q ∷ []) ∷ [] → bool_value f a ≡ a q
input_value q f a e = ap (λ (r : List (List ℕ)). bool_value r a) e ∙ bool_value-var q a

pub exchange_sum : (n c t : ℕ) (outs : List (List (List ℕ))) (x y s : List (List ℕ)) (p : List Term) (S : PathSum) → IsWithin n (Cx c t) → outs ≡ inputs_from 0 n → x ≡ get_or outs t x → y ≡ get_or outs c y
    → ((a : Assignment) → bool_value s a ≡ differ (bool_value x a) (bool_value y a)) → p ≡ []
    → S.n ≡ n → S.m ≡ 0 → S.k ≡ pos 0 → S.phase ≡ p → S.outs ≡ set outs t s → IsLeafOf n (Cx c t) S
exchange_sum n c t outs x y s p S w e ex ey es z en em ek ep eo = record {
  n_is = en;
  values_are = plain_sum n (exchanged c t) (λ x. 0) S em ek (record {
    phase_is = λ a. no_phase S.phase a (ep ∙ z);
    outs_is = λ a.
        ap (λ o. values o a) eo ∙ changed_taken n t outs s a e
        ∙ ap (set (taken 0 n a) t) (es a
        ∙ ap₂ differ (input_value t x a (input_is n t outs x e w.1 ex) ∙ sym (at_taken n t a w.1)) (input_value c y a (input_is n c outs y e w.0 ey) ∙ sym (at_taken n c a w.0)))
        ∙ sym (exchanged_is c t (taken 0 n a));
  });
}

from_both : (p q r : Bool) → (r ≡ true → (p || q) ≡ true) → p ≡ false → q ≡ false → r ≡ false
from_both p q true h a b = sym (h refl) ∙ no_or p q a b
from_both p q false h a b = refl

pub exchange_below : (n c t v : ℕ) (outs : List (List (List ℕ))) (x y s : List (List ℕ)) → IsWithin n (Cx c t) → outs ≡ inputs_from 0 n → x ≡ get_or outs t x → y ≡ get_or outs c y
    → (occurs v s ≡ true → (occurs v x || occurs v y) ≡ true) → n + 0 ≤ v → outs_occur v (set outs t s) ≡ false
exchange_below n c t v outs x y s w e ex ey es h =
    let a : v ≢ t = omega (arith, w.1) in
    let b : v ≢ c = omega (arith, w.0) in
    set_free outs t s v (inputs_below n 0 v outs e h)
    (from_both (occurs v x) (occurs v y) (occurs v s) es (ap (occurs v) (input_is n t outs x e w.1 ex) ∙ var_free t v a) (ap (occurs v) (input_is n c outs y e w.0 ey) ∙ var_free c v b))

-- U at theta 0
turn_value : (b : Bool) (w l s by : ℕ) → w ≡ (2 * s) % 4294967296 → l ≡ (2 * by) % 4294967296 → (times (b && true) ((w + l) % 4294967296) + 0) % 4294967296 ≡ cond b (2 * s + 2 * by) 0 % 4294967296
unfolding times
turn_value true w l s by e f = omega arith
turn_value false w l s by e f = refl

pub turn_sum : (n phi lambda q w l by : ℕ) (m : List ℕ) (outs : List (List (List ℕ))) (ts p : List Term) (S : PathSum) → q < n → outs ≡ inputs_from 0 n → m ≡ q ∷ [] → w ≡ (2 * phi) % 4294967296 → l ≡ (2 * lambda) % 4294967296 → by ≡ (w + l) % 4294967296
    → ts ≡ record { mono = m; phase = by } ∷ [] → ((a : Assignment) → phase_value p a % 4294967296 ≡ phase_value ts a % 4294967296)
    → S.n ≡ n → S.m ≡ 0 → S.k ≡ pos 0 → S.phase ≡ p → S.outs ≡ outs → IsLeafOf n (U 0 phi lambda q) S
unfolding phase_value holds
turn_sum n phi lambda q w l by m outs ts p S h e em ew el eb et ep en ez ek es eo = record {
  n_is = en;
  values_are = plain_sum n (λ x. x) (λ x. cond (bit x q) (2 * phi + 2 * lambda) 0) S ez ek (record {
    phase_is = λ a.
        ap (λ r. phase_value r a % 4294967296) es ∙ ep a
        ∙ ap (λ r. phase_value r a % 4294967296) (et ∙ ap₂ (λ (k : List ℕ) (u : ℕ). record { mono = k; phase = u } ∷ []) em eb)
        ∙ turn_value (a q) w l phi lambda ew el
        ∙ ap (λ b. cond b (2 * phi + 2 * lambda) 0 % 4294967296) (sym (at_taken n q a h));
    outs_is = λ a. inputs_taken n S.outs a (eo ∙ e);
  });
}

never : (r s : Bool) → (r ≡ true → s ≡ true) → s ≡ false → r ≡ false
never true s h e = sym (h refl) ∙ e
never false s h e = refl

pub turn_below : (n q v by : ℕ) (m : List ℕ) (ts p : List Term) → q < n → m ≡ q ∷ [] → ts ≡ record { mono = m; phase = by } ∷ [] → (phase_occurs v p ≡ true → phase_occurs v ts ≡ true) → n + 0 ≤ v → phase_occurs v p ≡ false
unfolding phase_occurs
turn_below n q v by m ts p h em et f l =
    let d : v ≢ q = omega arith in
    never (phase_occurs v p) (phase_occurs v ts) f (ap (phase_occurs v) et ∙ no_or _ _ (ap (stands v) em ∙ other_stands q v d) refl)

-- U at another theta
rotated : (theta phi lambda w0 w1 w2 w3 h : ℕ) (x y z : Bool) → (w0 + theta) % 4294967296 ≡ 0 → w1 % 4294967296 ≡ (2 * lambda + 3221225472) % 4294967296 → w2 % 4294967296 ≡ (2 * theta) % 4294967296 → w3 % 4294967296 ≡ (2 * phi + 1073741824) % 4294967296 → h ≡ 2147483648
    → (times true w0 + (times x w1 + (times y w2 + (times z w3 + (times (x && y) h + (times (y && z) h + 0))))) + theta) % 4294967296
    ≡ (cond x (2 * lambda + 3221225472) 0 + cond (x && y) 2147483648 0 + cond y (2 * theta) 0 + cond (y && z) 2147483648 0 + cond z (2 * phi + 1073741824) 0) % 4294967296
unfolding times
rotated theta phi lambda w0 w1 w2 w3 h true true true a b c d e = omega arith
rotated theta phi lambda w0 w1 w2 w3 h true true false a b c d e = omega arith
rotated theta phi lambda w0 w1 w2 w3 h true false true a b c d e = omega arith
rotated theta phi lambda w0 w1 w2 w3 h true false false a b c d e = omega arith
rotated theta phi lambda w0 w1 w2 w3 h false true true a b c d e = omega arith
rotated theta phi lambda w0 w1 w2 w3 h false true false a b c d e = omega arith
rotated theta phi lambda w0 w1 w2 w3 h false false true a b c d e = omega arith
rotated theta phi lambda w0 w1 w2 w3 h false false false a b c d e = omega arith

-- its six terms
pub record Rotating (theta phi lambda q n : ℕ) (ts : List Term) : Type 0 where
  pub m0 : List ℕ
  pub m1 : List ℕ
  pub m2 : List ℕ
  pub m3 : List ℕ
  pub m4 : List ℕ
  pub m5 : List ℕ
  pub w0 : ℕ
  pub w1 : ℕ
  pub w2 : ℕ
  pub w3 : ℕ
  pub h : ℕ
  pub terms : ts ≡ record { mono = m0; phase = w0 } ∷ record { mono = m1; phase = w1 } ∷ record { mono = m2; phase = w2 } ∷ record { mono = m3; phase = w3 } ∷ record { mono = m4; phase = h } ∷ record { mono = m5; phase = h } ∷ []
  pub none : m0 ≡ []
  pub input : m1 ≡ q ∷ []
  pub first : m2 ≡ n ∷ []
  pub second : m3 ≡ (n + 1) ∷ []
  pub early : (v : ℕ) → stands v m4 ≡ (stands v m1 || stands v m2)
  pub late : (v : ℕ) → stands v m5 ≡ (stands v m2 || stands v m3)
  pub start_is : (w0 + theta) % 4294967296 ≡ 0
  pub input_is : w1 % 4294967296 ≡ (2 * lambda + 3221225472) % 4294967296
  pub first_is : w2 % 4294967296 ≡ (2 * theta) % 4294967296
  pub second_is : w3 % 4294967296 ≡ (2 * phi + 1073741824) % 4294967296
  pub half_is : h ≡ 2147483648

one_holds : (m : List ℕ) (v : ℕ) (a : Assignment) → m ≡ v ∷ [] → holds m a ≡ a v
unfolding holds
one_holds m v a e = ap (λ (k : List ℕ). holds k a) e ∙ and_true (a v)
  where
    and_true : (b : Bool) → (b && true) ≡ b
    and_true true = refl
    and_true false = refl

pub rotating_value : (theta phi lambda q n : ℕ) (ts p : List Term) → Rotating theta phi lambda q n ts → ((a : Assignment) → phase_value p a % 4294967296 ≡ phase_value ts a % 4294967296) → IsRotation theta phi lambda q n p
unfolding phase_value holds
rotating_value theta phi lambda q n ts p r e a =
    let x : holds r.m1 a ≡ a q = one_holds r.m1 q a r.input in
    let y : holds r.m2 a ≡ a n = one_holds r.m2 n a r.first in
    let s : n + 1 ≡ suc n = omega arith in
    let z : holds r.m3 a ≡ a (suc n) = one_holds r.m3 (n + 1) a r.second ∙ ap a s in
    let none : holds r.m0 a ≡ true = ap (λ (k : List ℕ). holds k a) r.none in
    let early : holds r.m4 a ≡ (a q && a n) = holds_union r.m1 r.m2 r.m4 r.early a ∙ ap₂ (λ (b c : Bool). b && c) x y in
    let late : holds r.m5 a ≡ (a n && a (suc n)) = holds_union r.m2 r.m3 r.m5 r.late a ∙ ap₂ (λ (b c : Bool). b && c) y z in
    let V : (b c d f g k : Bool) → ℕ = λ b c d f g k. times b r.w0 + (times c r.w1 + (times d r.w2 + (times f r.w3 + (times g r.h + (times k r.h + 0))))) in
    let same : V (holds r.m0 a) (holds r.m1 a) (holds r.m2 a) (holds r.m3 a) (holds r.m4 a) (holds r.m5 a) ≡ V true (a q) (a n) (a (suc n)) (a q && a n) (a n && a (suc n)) =
    rw (none, x, y, z, early, late) refl in
    shifted (phase_value p a) (phase_value ts a) theta (e a)
    ∙ ap (λ v. (v + theta) % 4294967296) (ap (λ (k : List Term). phase_value k a) r.terms ∙ same)
    ∙ rotated theta phi lambda r.w0 r.w1 r.w2 r.w3 r.h (a q) (a n) (a (suc n)) r.start_is r.input_is r.first_is r.second_is r.half_is
  where
    shifted : (u v t : ℕ) → u % 4294967296 ≡ v % 4294967296 → (u + t) % 4294967296 ≡ (v + t) % 4294967296
    shifted u v t h = omega arith

pub rotating_below : (theta phi lambda q n v : ℕ) (ts p : List Term) → Rotating theta phi lambda q n ts → (phase_occurs v p ≡ true → phase_occurs v ts ≡ true) → q < n → n + 2 ≤ v → phase_occurs v p ≡ false
unfolding phase_occurs stands
rotating_below theta phi lambda q n v ts p r f h l =
    let a : v ≢ q = omega arith in
    let b : v ≢ n = omega arith in
    let c : v ≢ n + 1 = omega arith in
    let x : stands v r.m1 ≡ false = ap (stands v) r.input ∙ other_stands q v a in
    let y : stands v r.m2 ≡ false = ap (stands v) r.first ∙ other_stands n v b in
    let z : stands v r.m3 ≡ false = ap (stands v) r.second ∙ other_stands (n + 1) v c in
    never (phase_occurs v p) (phase_occurs v ts) f (ap (phase_occurs v) r.terms
    ∙ no_or _ _ (ap (stands v) r.none) (no_or _ _ x (no_or _ _ y (no_or _ _ z (no_or _ _ (r.early v ∙ no_or _ _ x y) (no_or _ _ (r.late v ∙ no_or _ _ y z) refl))))))

turned_sum : (n theta phi lambda q : ℕ) (S : PathSum) → q < n → S.m ≡ 2 → S.k ≡ pos 2 → TurnedReading n theta phi lambda q (phase_value S.phase) (values S.outs) → TurnedSum n theta phi lambda q (path_values S)
turned_sum n theta phi lambda q S h m k r =
    subst (λ (j : ℕ). TurnedSum n theta phi lambda q (read_sum j S.k (phase_value S.phase) (values S.outs))) (sym m)
    (subst (λ (u : ℤ). TurnedSum n theta phi lambda q (read_sum 2 u (phase_value S.phase) (values S.outs))) (sym k) (turned_read n theta phi lambda q (phase_value S.phase) (values S.outs) h r))

turned_leaf : (n theta phi lambda q : ℕ) (S : PathSum) → theta ≢ 0 → TurnedSum n theta phi lambda q (path_values S) → LeafSum n (U theta phi lambda q) (path_values S)
turned_leaf n zero phi lambda q S t s = absurd (t refl)
turned_leaf n (suc theta) phi lambda q S t s = s

pub rotation_sum : (n theta phi lambda q : ℕ) (outs : List (List (List ℕ))) (y : List (List ℕ)) (p : List Term) (S : PathSum) → q < n → theta ≢ 0 → outs ≡ inputs_from 0 n → y ≡ ((n + 1) ∷ []) ∷ [] → IsRotation theta phi lambda q n p
    → S.n ≡ n → S.m ≡ 2 → S.k ≡ pos 2 → S.phase ≡ p → S.outs ≡ set outs q y → IsLeafOf n (U theta phi lambda q) S
rotation_sum n theta phi lambda q outs y p S h t e ey r en em ek ep eo = record {
  n_is = en;
  values_are = turned_leaf n theta phi lambda q S t (turned_sum n theta phi lambda q S h em ek (record {
    phase_is = λ a. ap (λ (k : List Term). (phase_value k a + theta) % 4294967296) ep ∙ r a;
    outs_is = λ a.
        let s : n + 1 ≡ suc n = omega arith in
        ap (λ o. values o a) eo ∙ changed_taken n q outs y a e ∙ ap (set (taken 0 n a) q) (input_value (n + 1) y a ey ∙ ap a s);
  }));
}

pub rotation_below : (n q v : ℕ) (outs : List (List (List ℕ))) (y : List (List ℕ)) → outs ≡ inputs_from 0 n → y ≡ ((n + 1) ∷ []) ∷ [] → n + 2 ≤ v → outs_occur v (set outs q y) ≡ false
rotation_below n q v outs y e ey h =
    let d : v ≢ n + 1 = omega arith in
    set_free outs q y v (inputs_below n 2 v outs e h) (ap (occurs v) ey ∙ var_free (n + 1) v d)

pub second_form : (n : ℕ) (y : List (List ℕ)) → n ≤ 64 → y ≡ ((n + 1) ∷ []) ∷ [] → IsPoly y
second_form n y h e = subst IsPoly (sym e) (var_poly (n + 1) (omega arith))

-- ---- any gate
pub as_leaf : (n : ℕ) (g g' : Prim) (S : PathSum) → g ≡ g' → IsLeafOf n g' S → IsLeafOf n g S
as_leaf n g g' S e l = subst (λ (r : Prim). IsLeafOf n r S) (sym e) l

pub denotes_leaf : (n : ℕ) (g : Prim) (S : PathSum) → IsWithin n g → IsLeafOf n g S → Denotes n (path_values S) (g ∷ [])
denotes_leaf n g S w l = leaf_denotes n g (path_values S) w l.values_are

pub denotes_identity : (n : ℕ) (S : PathSum) → IsIdentityOf n S → Denotes n (path_values S) []
denotes_identity n S l = identity_denotes n (path_values S) l.values_are

pub less_theta : (w half theta : ℕ) → w ≡ (4294967296 - half) % 4294967296 → half ≡ theta → half < 4294967296 → (w + theta) % 4294967296 ≡ 0
less_theta w half theta e f h = omega arith

pub six_terms : (ts : List Term) (t0 t1 t2 t3 t4 t5 u0 u1 u2 u3 u4 u5 : Term) → ts ≡ t0 ∷ t1 ∷ t2 ∷ t3 ∷ t4 ∷ t5 ∷ [] → t0 ≡ u0 → t1 ≡ u1 → t2 ≡ u2 → t3 ≡ u3 → t4 ≡ u4 → t5 ≡ u5 → ts ≡ u0 ∷ u1 ∷ u2 ∷ u3 ∷ u4 ∷ u5 ∷ []
six_terms ts t0 t1 t2 t3 t4 t5 u0 u1 u2 u3 u4 u5 e a b c d f g = cc

pub plus_of : (w l k c d : ℕ) → w ≡ (l + k) % 4294967296 → l ≡ c % 4294967296 → k ≡ d → w % 4294967296 ≡ (c + d) % 4294967296
plus_of w l k c d e f g = omega arith

pub reduced_of : (w c : ℕ) → w ≡ c % 4294967296 → w % 4294967296 ≡ c % 4294967296
reduced_of w c e = omega arith

pub prim_turn : (g : Prim) (theta units phi lambda q : ℕ) → g ≡ U theta phi lambda q → units ≡ theta → units ≡ 0 → g ≡ U 0 phi lambda q
prim_turn g theta units phi lambda q e f z = e ∙ ap (λ t. U t phi lambda q) (sym f ∙ z)

-- ---- how many outputs there are
zeros : (n : ℕ) → Truths
zeros zero = []
zeros (suc n) = false ∷ zeros n

zeros_wide : (n : ℕ) → length (zeros n) ≡ n
unfolding zeros
zeros_wide zero = refl
zeros_wide (suc n) = ap suc (zeros_wide n)

pub denotes_wide : (n : ℕ) (S : PathSum) (A : List Prim) → Denotes n (path_values S) A → length S.outs ≡ n
denotes_wide n S A d = sym (length_values S.outs (bit (zeros n ++ zeros S.m))) ∙ d.width (zeros n) (zeros S.m) (zeros_wide n) (zeros_wide S.m)
