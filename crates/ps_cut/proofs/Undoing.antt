-- Each list of prims is undone by another, behind it and in front of it.
use Rattle.std.proofs.Common.{◌≡◌, ℕ, ◌+◌, ◌*◌, ◌^◌, ◌%◌, sym, ◌∙◌, arith, List, [], ◌∷◌, ◌++◌, length, append_assoc, subst}
use Rattle.std.proofs.Math.IntN.{ℤ, pos, ◌*ℤ◌}
use Rattle.std.proofs.lemmas.Int.{ints}
use Rattle.ps_ring.specs.Numbers.{IsNumber}
use Rattle.ps_prim.specs.declared.prims.Primitive.{Primitive as Prim}
use Rattle.ps_prim.specs.declared.prims.Primitive.TheVariants.{U, Cx}
use Rattle.ps_prim.specs.Amplitudes.{Truths, Column, act, run, start, amplitude, turns}
use Rattle.ps_prim.specs.Maps.{AllWithin, SameMap}
use Rattle.ps_prim.proofs.Columns.{start_number}
use Rattle.ps_cut.specs.Inverses.{opposite, inverse, undo}
use Rattle.ps_cut.specs.InverseLaws.{InverseWithin, InverseBehind, InverseBefore, UndoWithin, UndoBehind, UndoBefore}
use Rattle.ps_cut.proofs.Congruence.{map_reflexive, map_transitive, map_between}
use Rattle.ps_cut.proofs.Opposites.{AreOpposite, u_undone, cx_undone}

one_times : (k : ℤ) → pos 1 *ℤ k ≡ k
one_times k = omega (arith, ints)

-- two prims of which the second undoes the first on each column
both_undone : (n : ℕ) (g h : Prim) → ((v : Column) → ((z : Truths) → IsNumber (v z)) → (z : Truths) → length z ≡ n → (j : ℤ) → act h (act g v) z j ≡ pos (2 ^ turns (g ∷ h ∷ [])) *ℤ v z j) → SameMap n (g ∷ h ∷ []) []
unfolding amplitude run turns
both_undone n g h e x lx z lz j = one_times (act h (act g (start x)) z j) ∙ e (start x) (start_number x) z lz j

-- ---- one prim
pub opposite_turns : (a : ℕ) → (a + opposite a) % 4294967296 ≡ 0
unfolding opposite
opposite_turns a = omega arith

opposite_doubled : (a : ℕ) → (2 * a + 2 * opposite a) % 4294967296 ≡ 0
unfolding opposite
opposite_doubled a = omega arith

turned_round : (a b : ℕ) → (a + b) % 4294967296 ≡ 0 → (b + a) % 4294967296 ≡ 0
turned_round a b e = omega arith

opposite_angles : (theta phi lambda : ℕ) → AreOpposite theta phi lambda (opposite theta) (opposite lambda) (opposite phi)
opposite_angles theta phi lambda = record { theta_is = opposite_turns theta; phi_is = opposite_doubled lambda; lambda_is = opposite_doubled phi }

opposite_back : (theta phi lambda : ℕ) → AreOpposite (opposite theta) (opposite lambda) (opposite phi) theta phi lambda
opposite_back theta phi lambda = record {
  theta_is = turned_round theta (opposite theta) (opposite_turns theta);
  phi_is = turned_round (2 * phi) (2 * opposite phi) (opposite_doubled phi);
  lambda_is = turned_round (2 * lambda) (2 * opposite lambda) (opposite_doubled lambda);
}

pub inverse_within : InverseWithin
unfolding inverse
inverse_within n (U theta phi lambda q) h = h
inverse_within n (Cx c t) h = h

pub inverse_behind : InverseBehind
unfolding inverse turns
inverse_behind n (U theta phi lambda q) h = both_undone n _ _ (λ v hv z l j. u_undone _ _ _ _ _ _ q (opposite_angles theta phi lambda) v hv z (omega arith) j)
inverse_behind n (Cx c t) h = both_undone n _ _ (λ v hv z l j. cx_undone c t v z (omega (arith, h.1)) h.2 j ∙ sym (one_times _))

pub inverse_before : InverseBefore
unfolding inverse turns
inverse_before n (U theta phi lambda q) h = both_undone n _ _ (λ v hv z l j. u_undone _ _ _ _ _ _ q (opposite_back theta phi lambda) v hv z (omega arith) j)
inverse_before n (Cx c t) h = both_undone n _ _ (λ v hv z l j. cx_undone c t v z (omega (arith, h.1)) h.2 j ∙ sym (one_times _))

-- ---- lists
pub within_append : (n : ℕ) (A B : List Prim) → AllWithin n A → AllWithin n B → AllWithin n (A ++ B)
within_append n [] B h k = k
within_append n (g ∷ gs) B h k = (h.0, within_append n gs B h.1 k)

pub undo_within : UndoWithin
unfolding undo
undo_within n [] h = tt
undo_within n (g ∷ gs) h = within_append n (undo gs) (inverse g ∷ []) (undo_within n gs h.1) (inverse_within n g h.0, tt)

pub undo_behind : UndoBehind
unfolding undo
undo_behind n [] h = map_reflexive n []
undo_behind n (g ∷ gs) h =
    let inner : SameMap n (g ∷ ((gs ++ undo gs) ++ (inverse g ∷ []))) (g ∷ inverse g ∷ []) = map_between n (g ∷ []) (gs ++ undo gs) [] (inverse g ∷ []) (undo_behind n gs h.1) in
    subst (λ (A : List Prim). SameMap n (g ∷ A) []) (append_assoc gs (undo gs) (inverse g ∷ [])) (map_transitive n _ _ [] inner (inverse_behind n g h.0))

pub undo_before : UndoBefore
unfolding undo
undo_before n [] h = map_reflexive n []
undo_before n (g ∷ gs) h =
    let inner : SameMap n (undo gs ++ (inverse g ∷ g ∷ gs)) (undo gs ++ gs) = map_between n (undo gs) (inverse g ∷ g ∷ []) [] gs (inverse_before n g h.0) in
    subst (λ (A : List Prim). SameMap n A []) (sym (append_assoc (undo gs) (inverse g ∷ []) (g ∷ gs))) (map_transitive n _ _ [] inner (undo_before n gs h.1))
