-- The sums of gates without path variables: their values, their form, and that there are such sums.
use Rattle.std.proofs.Common.{◌≡◌, ◌≢◌, ℕ, zero, suc, ◌+◌, ◌*◌, ◌%◌, refl, ap, ap₂, sym, ◌∙◌, arith, ◌<◌, ◌≤◌, Bool, true, false, cond, ◌&&◌, List, [], ◌∷◌, ◌++◌, length, get_or, set}
use Rattle.std.specs.Prelude.{pos}
use Rattle.std.proofs.lemmas.Int.{ints}
use Rattle.std.proofs.lemmas.List.{get_or-set_same, get_or-set_other}
use Rattle.ps_mono.specs.Sets.{holds}
use Rattle.ps_mono.specs.Truth.{times, differ}
use Rattle.ps_ring.specs.Truths.{Truths, bit}
use Rattle.ps_ring.specs.Joins.{PlainSum}
use Rattle.ps_ring.specs.Readings.{Assignment, taken}
use Rattle.ps_prim.specs.declared.prims.Primitive.{Primitive as Prim}
use Rattle.ps_prim.specs.declared.prims.Primitive.TheVariants.{U, Cx}
use Rattle.ps_prim.specs.Maps.{IsWithin}
use Rattle.ps_bool.specs.Polys.{bool_value, IsPoly}
use Rattle.ps_bool.specs.Merging.{merge}
use Rattle.ps_bool.proofs.Unique.{one_form}
use Rattle.ps_bool.proofs.Laws.{bool_value-var}
use Rattle.ps_bool.proofs.Merges.{merge_value, merge_poly}
use Rattle.ps_phase.specs.declared.terms.Term.{Term}
use Rattle.ps_phase.specs.Phases.{phase_value, phase_occurs, IsPhasePoly}
use Rattle.ps_phase.proofs.Adding.{no_or}
use Rattle.ps_phase.proofs.Unique.{same_terms}
use Rattle.ps_sum.specs.Sums.{path_values}
use Rattle.ps_sum.specs.declared.sums.PathSum.{PathSum}
use Rattle.ps_sum.proofs.Uniqueness.{taken_length, phase_read, bool_read}
use Rattle.ps_join.specs.Inputs.{inputs_from}
use Rattle.ps_join.specs.Joining.{IsLeafOf}
use Rattle.ps_join.proofs.Outputs.{get_value, get_free, get_poly, var_poly, var_free, var_set, other_stands, inputs_get, set_free}
use Rattle.ps_join.proofs.Pairs.{free_merge}
use Rattle.ps_join.proofs.LeafSums.{inputs_wide, inputs_below, inputs_formed, changed_wide, changed_formed, exchanged_is, at_taken, turn_sum, exchange_sum}

-- ---- at each assignment
pub plain_phase : (n : ℕ) (f : Truths → Truths) (P : Truths → ℕ) (S : PathSum) → S.n ≡ n → PlainSum n f P (path_values S) → (b : Assignment) → phase_value S.phase b % 4294967296 ≡ P (taken 0 n b) % 4294967296
unfolding taken
plain_phase n f P S e p b =
    ap (λ x. x % 4294967296) (phase_read n 0 S.phase (λ v l. S.phase_below v (omega (arith, e, l, p.m_is))) b)
    ∙ p.phase_is (taken 0 n b) (taken_length 0 n b)

pub plain_output : (n i : ℕ) (f : Truths → Truths) (P : Truths → ℕ) (S : PathSum) → S.n ≡ n → PlainSum n f P (path_values S) → i < length S.outs → (b : Assignment) → bool_value (get_or S.outs i []) b ≡ bit (f (taken 0 n b)) i
unfolding taken
plain_output n i f P S e p h b =
    bool_read n 0 (get_or S.outs i []) (λ v l. get_free S.outs i [] v h (S.outs_below v (omega (arith, e, l, p.m_is)))) b
    ∙ get_value S.outs i [] (bit (taken 0 n b ++ [])) h
    ∙ ap (λ (z : Truths). bit z i) (p.outs_is (taken 0 n b) (taken_length 0 n b))

-- ---- the phase of a turn
unfoldable pub one_turn : ℕ → ℕ → List Term
one_turn v zero = []
one_turn v (suc w) = record { mono = v ∷ []; phase = suc w } ∷ []

pub turn_form : (v w : ℕ) → v < 512 → w < 4294967296 → IsPhasePoly (one_turn v w)
unfolding one_turn
turn_form v zero h l = tt
turn_form v (suc w) h l = (record { set = var_set v h; turns = λ e. absurd (omega (arith, e)); small = l }, tt, tt)

no_times : (b : Bool) → 0 ≡ times b 0
unfolding times
no_times true = refl
no_times false = refl

one_times : (b : Bool) (w : ℕ) → times (b && true) w + 0 ≡ times b w
unfolding times
one_times true w = omega arith
one_times false w = refl

pub turn_worth : (v w : ℕ) (a : Assignment) → phase_value (one_turn v w) a ≡ times (a v) w
unfolding one_turn phase_value holds
turn_worth v zero a = no_times (a v)
turn_worth v (suc w) a = one_times (a v) (suc w)

pub turn_free : (v w u : ℕ) → u ≢ v → phase_occurs u (one_turn v w) ≡ false
unfolding one_turn phase_occurs
turn_free v zero u d = refl
turn_free v (suc w) u d = no_or _ _ (other_stands v u d) refl

pub turned : (x : Bool) (w phi lambda : ℕ) → w ≡ ((2 * phi) % 4294967296 + (2 * lambda) % 4294967296) % 4294967296 → cond x (2 * phi + 2 * lambda) 0 % 4294967296 ≡ times x w % 4294967296
unfolding times
turned true w phi lambda e = omega (arith, e)
turned false w phi lambda e = refl

-- ---- what the sum of a gate without path variables has
pub turn_phase : (n phi lambda q w : ℕ) (S : PathSum) → q < n → n ≤ 64 → IsLeafOf n (U 0 phi lambda q) S → w ≡ ((2 * phi) % 4294967296 + (2 * lambda) % 4294967296) % 4294967296 → S.phase ≡ one_turn q w
turn_phase n phi lambda q w S h l s e =
    let small : w < 4294967296 = omega (arith, e) in
    same_terms S.phase (one_turn q w) S.formed.0 (turn_form q w (omega (arith, h, l)) small) (λ b.
    plain_phase n _ _ S s.n_is s.values_are b
    ∙ ap (λ x. cond x (2 * phi + 2 * lambda) 0 % 4294967296) (at_taken n q b h)
    ∙ turned (b q) w phi lambda e
    ∙ ap (λ x. x % 4294967296) (sym (turn_worth q w b)))

pub turn_output : (n phi lambda q i : ℕ) (S : PathSum) → n ≤ 64 → IsLeafOf n (U 0 phi lambda q) S → length S.outs ≡ n → i < n → get_or S.outs i [] ≡ (i ∷ []) ∷ []
turn_output n phi lambda q i S l s w h =
    let inside : i < length S.outs = omega (arith, w, h) in
    one_form (get_or S.outs i []) ((i ∷ []) ∷ []) (get_poly S.outs i [] inside S.formed.1) (var_poly i (omega (arith, l, h))) (λ b. plain_output n i _ _ S s.n_is s.values_are inside b ∙ at_taken n i b h ∙ sym (bool_value-var i b))

pub exchange_phase : (n c t : ℕ) (S : PathSum) → IsLeafOf n (Cx c t) S → S.phase ≡ []
unfolding phase_value
exchange_phase n c t S s = same_terms S.phase [] S.formed.0 tt (λ b. plain_phase n _ _ S s.n_is s.values_are b)

pub exchange_other : (n c t i : ℕ) (S : PathSum) → n ≤ 64 → IsLeafOf n (Cx c t) S → length S.outs ≡ n → i < n → i ≢ t → get_or S.outs i [] ≡ (i ∷ []) ∷ []
exchange_other n c t i S l s w h d =
    let inside : i < length S.outs = omega (arith, w, h) in
    one_form (get_or S.outs i []) ((i ∷ []) ∷ []) (get_poly S.outs i [] inside S.formed.1) (var_poly i (omega (arith, l, h))) (λ b.
    plain_output n i _ _ S s.n_is s.values_are inside b
    ∙ ap (λ (z : Truths). bit z i) (exchanged_is c t (taken 0 n b))
    ∙ get_or-set_other (taken 0 n b) t i (differ (bit (taken 0 n b) t) (bit (taken 0 n b) c)) false d
    ∙ at_taken n i b h ∙ sym (bool_value-var i b))

pub exchange_value : (n c t : ℕ) (S : PathSum) → IsWithin n (Cx c t) → IsLeafOf n (Cx c t) S → length S.outs ≡ n → (b : Assignment) → bool_value (get_or S.outs t []) b ≡ differ (b t) (b c)
exchange_value n c t S h s w b =
    let inside : t < length S.outs = omega (arith, w, h.1) in
    plain_output n t _ _ S s.n_is s.values_are inside b
    ∙ ap (λ (z : Truths). bit z t) (exchanged_is c t (taken 0 n b))
    ∙ get_or-set_same (taken 0 n b) t (differ (bit (taken 0 n b) t) (bit (taken 0 n b) c)) false (omega (arith, taken_length 0 n b, h.1))
    ∙ ap₂ differ (at_taken n t b h.1) (at_taken n c b h.0)

-- ---- there are such sums
pub record LeafThere (n : ℕ) (g : Prim) : Type 0 where
  pub sum : PathSum
  pub is_leaf : IsLeafOf n g sum

turn_there : (n phi lambda q w : ℕ) → 1 ≤ n → n ≤ 64 → q < n → w ≡ ((2 * phi) % 4294967296 + (2 * lambda) % 4294967296) % 4294967296 → LeafThere n (U 0 phi lambda q)
unfolding phase_value holds
turn_there n phi lambda q w a z h e =
    let S : PathSum = record {
      n = n;
      m = 0;
      k = pos 0;
      phase = one_turn q w;
      outs = inputs_from 0 n;
      qubits = (a, z);
      named = omega (arith, z);
      scaled = (omega (arith, ints), omega (arith, ints));
      phase_below = λ v l. turn_free q w v (omega (arith, l, h));
      outs_below = λ v l. inputs_below n 0 v (inputs_from 0 n) refl l;
      width = λ o. inputs_wide n (inputs_from 0 n) refl;
      formed = (turn_form q w (omega (arith, h, z)) (omega (arith, e)), inputs_formed n (inputs_from 0 n) refl z);
    } in record {
      sum = S;
      is_leaf = turn_sum n phi lambda q _ _ w (q ∷ []) (inputs_from 0 n) (record { mono = q ∷ []; phase = w } ∷ []) (one_turn q w) S h refl refl refl refl e refl
          (λ b. ap (λ x. x % 4294967296) (turn_worth q w b ∙ sym (one_times (b q) w))) refl refl refl refl refl;
    }

exchange_there : (n c t : ℕ) → 1 ≤ n → n ≤ 64 → IsWithin n (Cx c t) → LeafThere n (Cx c t)
unfolding phase_occurs
exchange_there n c t a z h =
    let x : List (List ℕ) = (t ∷ []) ∷ [] in
    let y : List (List ℕ) = (c ∷ []) ∷ [] in
    let px : IsPoly x = var_poly t (omega (arith, h.1, z)) in
    let py : IsPoly y = var_poly c (omega (arith, h.0, z)) in
    let fs : List (List (List ℕ)) = inputs_from 0 n in
    let S : PathSum = record {
      n = n;
      m = 0;
      k = pos 0;
      phase = [];
      outs = set fs t (merge x y);
      qubits = (a, z);
      named = omega (arith, z);
      scaled = (omega (arith, ints), omega (arith, ints));
      phase_below = λ v l. refl;
      outs_below = λ v l. set_free fs t (merge x y) v (inputs_below n 0 v fs refl l) (free_merge v x y (var_free t v (omega (arith, l, h.1))) (var_free c v (omega (arith, l, h.0))));
      width = λ o. changed_wide n t fs (merge x y) refl;
      formed = (tt, changed_formed n t fs (merge x y) refl z (merge_poly x y px py));
    } in record {
      sum = S;
      is_leaf = exchange_sum n c t fs x y (merge x y) [] S h refl (sym (own t h.1)) (sym (own c h.0)) (λ b. merge_value x y b) refl refl refl refl refl refl;
    }
  where
    own : (i : ℕ) → i < n → get_or (inputs_from 0 n) i ((i ∷ []) ∷ []) ≡ (i ∷ []) ∷ []
    own i l = let s : 0 + i ≡ i = omega arith in inputs_get 0 n i ((i ∷ []) ∷ []) l ∙ ap (λ (k : ℕ). (k ∷ []) ∷ []) s

pub turn_leaf : (n phi lambda q : ℕ) → (1 ≤ n) × (n ≤ 64) → IsWithin n (U 0 phi lambda q) → LeafThere n (U 0 phi lambda q)
turn_leaf n phi lambda q a h = turn_there n phi lambda q _ a.0 a.1 h refl

pub exchange_leaf : (n c t : ℕ) → (1 ≤ n) × (n ≤ 64) → IsWithin n (Cx c t) → LeafThere n (Cx c t)
exchange_leaf n c t a h = exchange_there n c t a.0 a.1 h
