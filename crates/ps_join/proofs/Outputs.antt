-- Lists of outputs: inputs by themselves, and one output put in place of another.
use Rattle.std.proofs.Common.{◌≡◌, ◌≢◌, ℕ, zero, suc, ◌+◌, refl, ap, ap₂, sym, subst, ◌∙◌, arith, ◌<◌, ◌≤◌, Bool, true, false, ◌||◌, List, [], ◌∷◌, ◌++◌, length, set, get_or}
use Rattle.ps_mono.specs.Sets.{stands, IsVarSet}
use Rattle.ps_mono.specs.Lists.{members_one, nat_eq_same, nat_eq_other}
use Rattle.ps_ring.specs.Truths.{Truths, bit}
use Rattle.ps_ring.specs.Readings.{Assignment, taken}
use Rattle.ps_bool.specs.Polys.{bool_value, occurs, IsPoly}
use Rattle.ps_bool.proofs.Laws.{bool_value-var}
use Rattle.ps_phase.proofs.Adding.{neither, no_or}
use Rattle.ps_sum.specs.Forms.{AllPolys}
use Rattle.ps_sum.specs.Outs.{values, outs_occur}
use Rattle.ps_join.specs.Inputs.{inputs_from}

-- ---- one variable
pub own_stands : (q : ℕ) → stands q (q ∷ []) ≡ true
unfolding stands
own_stands q = ap (λ b. b || false) (nat_eq_same q)

pub other_stands : (q v : ℕ) → v ≢ q → stands v (q ∷ []) ≡ false
unfolding stands
other_stands q v d = ap (λ b. b || false) (nat_eq_other v q d)

pub var_set : (q : ℕ) → q < 512 → IsVarSet (q ∷ [])
var_set q h = members_one (λ v. stands v (q ∷ [])) 0 512 q (omega arith) (omega arith) (own_stands q) (λ u d. other_stands q u d)

pub var_poly : (q : ℕ) → q < 512 → IsPoly ((q ∷ []) ∷ [])
var_poly q h = record { in_order = (tt, tt); sets = (var_set q h, tt) }

pub var_free : (q v : ℕ) → v ≢ q → occurs v ((q ∷ []) ∷ []) ≡ false
unfolding occurs
var_free q v d = ap (λ b. b || false) (other_stands q v d)

-- the polynomial that was pushed so
pub alone_poly : (q : ℕ) (start out : List (List ℕ)) (m : List ℕ) → q < 512 → start ≡ [] → m ≡ q ∷ [] → out ≡ start ++ m ∷ [] → IsPoly out
alone_poly q start out m h s e o = subst IsPoly (sym (o ∙ ap₂ (λ (f : List (List ℕ)) (k : List ℕ). f ++ k ∷ []) s e)) (var_poly q h)

-- ---- the inputs by themselves
pub inputs_more : (lo n : ℕ) → inputs_from lo (n + 1) ≡ inputs_from lo n ++ (((lo + n) ∷ []) ∷ []) ∷ []
unfolding inputs_from
inputs_more lo zero = let e : lo ≡ lo + zero = omega arith in ap (λ k. ((k ∷ []) ∷ []) ∷ []) e
inputs_more lo (suc n) =
    let e : suc n + 1 ≡ suc (n + 1) = omega arith in
    let f : suc lo + n ≡ lo + suc n = omega arith in
    ap (inputs_from lo) e ∙ ap (λ (r : List (List (List ℕ))). ((lo ∷ []) ∷ []) ∷ r) (inputs_more (suc lo) n ∙ ap (λ k. inputs_from (suc lo) n ++ ((k ∷ []) ∷ []) ∷ []) f)

pub inputs_push : (n : ℕ) (outs new : List (List (List ℕ))) (f : List (List ℕ)) → outs ≡ inputs_from 0 n → f ≡ (n ∷ []) ∷ [] → new ≡ outs ++ f ∷ [] → new ≡ inputs_from 0 (n + 1)
inputs_push n outs new f e g h =
    let z : n ≡ 0 + n = omega arith in
    h ∙ ap₂ (λ (o : List (List (List ℕ))) (p : List (List ℕ)). o ++ p ∷ []) e (g ∙ ap (λ (k : ℕ). (k ∷ []) ∷ []) z) ∙ sym (inputs_more 0 n)

pub inputs_length : (lo n : ℕ) → length (inputs_from lo n) ≡ n
unfolding inputs_from
inputs_length lo zero = refl
inputs_length lo (suc n) = ap suc (inputs_length (suc lo) n)

pub inputs_values : (lo n : ℕ) (a : Assignment) → values (inputs_from lo n) a ≡ taken lo n a
unfolding inputs_from values taken
inputs_values lo zero a = refl
inputs_values lo (suc n) a = ap₂ (λ (b : Bool) (r : Truths). b ∷ r) (bool_value-var lo a) (inputs_values (suc lo) n a)

pub inputs_free : (lo n v : ℕ) → lo + n ≤ v → outs_occur v (inputs_from lo n) ≡ false
unfolding inputs_from outs_occur
inputs_free lo zero v h = refl
inputs_free lo (suc n) v h = let d : v ≢ lo = omega arith in no_or _ _ (var_free lo v d) (inputs_free (suc lo) n v (omega arith))

pub inputs_polys : (lo n : ℕ) → lo + n ≤ 512 → AllPolys (inputs_from lo n)
unfolding inputs_from
inputs_polys lo zero h = tt
inputs_polys lo (suc n) h = (var_poly lo (omega arith), inputs_polys (suc lo) n (omega arith))

-- ---- an output in place of another
pub set_values : (fs : List (List (List ℕ))) (i : ℕ) (f : List (List ℕ)) (a : Assignment) → values (set fs i f) a ≡ set (values fs a) i (bool_value f a)
unfolding values
set_values [] i f a = refl
set_values (g ∷ fs) zero f a = refl
set_values (g ∷ fs) (suc i) f a = ap (λ (r : Truths). bool_value g a ∷ r) (set_values fs i f a)

pub set_free : (fs : List (List (List ℕ))) (i : ℕ) (f : List (List ℕ)) (v : ℕ) → outs_occur v fs ≡ false → occurs v f ≡ false → outs_occur v (set fs i f) ≡ false
unfolding outs_occur
set_free [] i f v h k = refl
set_free (g ∷ fs) zero f v h k = no_or _ _ k (neither _ _ h).1
set_free (g ∷ fs) (suc i) f v h k = let n = neither (occurs v g) (outs_occur v fs) h in no_or _ _ n.0 (set_free fs i f v n.1 k)

pub set_polys : (fs : List (List (List ℕ))) (i : ℕ) (f : List (List ℕ)) → AllPolys fs → IsPoly f → AllPolys (set fs i f)
set_polys [] i f h k = tt
set_polys (g ∷ fs) zero f h k = (k, h.1)
set_polys (g ∷ fs) (suc i) f h k = (h.0, set_polys fs i f h.1 k)

-- ---- an output of a list
pub get_value : (fs : List (List (List ℕ))) (i : ℕ) (d : List (List ℕ)) (a : Assignment) → i < length fs → bool_value (get_or fs i d) a ≡ bit (values fs a) i
unfolding values
get_value [] i d a h = absurd (omega arith)
get_value (g ∷ fs) zero d a h = refl
get_value (g ∷ fs) (suc i) d a h = get_value fs i d a (omega arith)

pub get_free : (fs : List (List (List ℕ))) (i : ℕ) (d : List (List ℕ)) (v : ℕ) → i < length fs → outs_occur v fs ≡ false → occurs v (get_or fs i d) ≡ false
unfolding outs_occur
get_free [] i d v h k = absurd (omega arith)
get_free (g ∷ fs) zero d v h k = (neither _ _ k).0
get_free (g ∷ fs) (suc i) d v h k = get_free fs i d v (omega arith) (neither (occurs v g) (outs_occur v fs) k).1

pub get_poly : (fs : List (List (List ℕ))) (i : ℕ) (d : List (List ℕ)) → i < length fs → AllPolys fs → IsPoly (get_or fs i d)
get_poly [] i d h k = absurd (omega arith)
get_poly (g ∷ fs) zero d h k = k.0
get_poly (g ∷ fs) (suc i) d h k = get_poly fs i d (omega arith) k.1

pub inputs_get : (lo n i : ℕ) (d : List (List ℕ)) → i < n → get_or (inputs_from lo n) i d ≡ ((lo + i) ∷ []) ∷ []
unfolding inputs_from
inputs_get lo zero i d h = absurd (omega arith)
inputs_get lo (suc n) zero d h = let e : lo ≡ lo + zero = omega arith in ap (λ k. (k ∷ []) ∷ []) e
inputs_get lo (suc n) (suc i) d h = let e : suc lo + i ≡ lo + suc i = omega arith in inputs_get (suc lo) n i d (omega arith) ∙ ap (λ k. (k ∷ []) ∷ []) e
