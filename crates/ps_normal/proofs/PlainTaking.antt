-- One prim without path variables behind the others.
use Rattle.std.proofs.Common.{◌≡◌, ℕ, ◌+◌, ◌<◌, ◌≤◌, sym, ◌∙◌, subst, arith, Some, List, [], ◌∷◌, ◌++◌, length}
use Rattle.std.proofs.lemmas.Int.{ints}
use Rattle.std.specs.Prelude.{pos, negsuc, ◌≤ℤ◌}
use Rattle.ps_prim.specs.declared.prims.Primitive.{Primitive as Prim}
use Rattle.ps_prim.specs.declared.prims.Primitive.TheVariants.{U, Cx}
use Rattle.ps_prim.specs.Maps.{IsWithin}
use Rattle.ps_sum.specs.declared.sums.PathSum.{PathSum}
use Rattle.ps_sum.specs.declared.faults.Passed.{Passed}
use Rattle.ps_rules.specs.declared.steps.Move.{Move}
use Rattle.ps_rules.specs.declared.steps.Move.TheVariants.{Leaf, Join}
use Rattle.ps_rules.specs.Rules.{IsIrreducible}
use Rattle.ps_join.specs.Joining.{IsLeafOf, IsJoinOf, JoinFits}
use Rattle.ps_join.specs.OntoFaults.{IsOntoFault}
use Rattle.ps_join.specs.declared.onto_fault.OntoFault.{OntoFault}
use Rattle.ps_join.specs.declared.onto_fault.OntoFault.TheVariants as fault
use Rattle.ps_join.proofs.LeafSums.{denotes_leaf}
use Rattle.ps_join.proofs.PlainSums.{LeafThere, turn_leaf, exchange_leaf}
use Rattle.ps_reach.specs.declared.evidence.Evidence.{Evidence}
use Rattle.ps_reach.specs.Parts.{overrun_of}
use Rattle.ps_reach.specs.Reductions.{rest}
use Rattle.ps_reach.specs.Fillings.{kept, Leaves, leaf_reduces, join_over, next, overrun}
use Rattle.ps_normal.specs.declared.parts.Part.TheVariants as part
use Rattle.ps_normal.specs.Keeping.{IsPlainPrim}
use Rattle.ps_normal.specs.Pieces.{UsablePart, IsProgress, IsTaken}
use Rattle.ps_normal.specs.Takings.{UsableHeld}
use Rattle.ps_normal.proofs.Parting.{usable_leaf, usable_join, join_passed, onto_fault}
use Rattle.ps_normal.proofs.Plains.{plain_irreducible, plain_still}
use Rattle.ps_normal.proofs.Suspecting.{still_joins}

-- ---- what the sum before it has
pub held_within : (n i : ℕ) (g : Prim) (S : PathSum) → UsableHeld n i (Some S) → IsWithin n g → IsWithin S.n g
held_within n i g S u w = subst (λ x. IsWithin x g) (sym u.0.n_is) w

pub held_wide : (n i : ℕ) (S : PathSum) → UsableHeld n i (Some S) → length S.outs ≡ S.n
held_wide n i S u = u.0.wide ∙ sym u.0.n_is

pub held_scaled : (n i : ℕ) (S : PathSum) → i < 268435456 → UsableHeld n i (Some S) → (negsuc 1999999999 ≤ℤ S.k) × (S.k ≤ℤ pos 1999999998)
held_scaled n i S h u = (omega (arith, ints, h, u.0.scale.least), omega (arith, ints, u.0.scale.most, S.named))

-- ---- its leaf
leaf_of : (n : ℕ) (g : Prim) → IsPlainPrim g → (1 ≤ n) × (n ≤ 64) → IsWithin n g → LeafThere n g
leaf_of n (U theta phi lambda q) p a w = subst (λ x. LeafThere n (U x phi lambda q)) (sym p) (turn_leaf n phi lambda q a w)
leaf_of n (Cx c t) p a w = exchange_leaf n c t a w

own_leaf : (n : ℕ) (g : Prim) (S L : PathSum) → S.n ≡ n → IsLeafOf n g L → IsLeafOf S.n g L
own_leaf n g S L e l = subst (λ x. IsLeafOf x g L) (sym e) l

plain_leaves : (n i : ℕ) (g : Prim) (L : PathSum) (ms ms' : List Move) → IsPlainPrim g → IsLeafOf n g L → ms' ≡ ms ++ Leaf i ∷ [] → Leaves n i g ms (kept L ms')
plain_leaves n i g L ms ms' p l e = subst (λ x. Leaves n i g ms (kept L x)) (sym e) (leaf_reduces l (record { taken = rest; ended = plain_irreducible n g L p l }))

-- ---- behind the others
next_still : (n i : ℕ) (g : Prim) (S L T : PathSum) → IsPlainPrim g → IsWithin n g → UsableHeld n i (Some S) → IsLeafOf n g L → IsJoinOf S L T → IsIrreducible T
next_still n i g S L T p w u l j = plain_still n g S L T p w u.0.n_is u.0.wide l u.1 j

pub next_plain : (n i : ℕ) (A more : List Prim) (ms ms' ms2 : List Move) (g : Prim) (S T : PathSum) → IsPlainPrim g → (1 ≤ n) × (n ≤ 64) → IsWithin n g → UsableHeld n i (Some S) → ms' ≡ ms ++ Leaf i ∷ [] → ms2 ≡ ms' ++ Join ∷ []
    → ((L : PathSum) → IsLeafOf S.n g L → IsJoinOf S L T) → ((L : PathSum) → IsLeafOf S.n g L → JoinFits S L) → IsProgress n A (g ∷ more) (Some S) i ms → IsTaken n A more (i + 1) ms2 (part.Sum T)
next_plain n i A more ms ms' ms2 g S T p a w u e e2 joins fits k =
    let t : LeafThere n g = leaf_of n g p a w in
    let l : IsLeafOf S.n g t.sum = own_leaf n g S t.sum u.0.n_is t.is_leaf in
    let still : IsIrreducible T = next_still n i g S t.sum T p w u t.is_leaf (joins t.sum l) in
    λ o f. k o (next (plain_leaves n i g t.sum ms ms' p t.is_leaf e) (still_joins 0 i (i + 1) S t.sum T ms' ms2 still (fits t.sum l) (joins t.sum l) e2) f)

pub usable_plain : (n i : ℕ) (g : Prim) (S T : PathSum) → IsPlainPrim g → (1 ≤ n) × (n ≤ 64) → IsWithin n g → UsableHeld n i (Some S) → ((L : PathSum) → IsLeafOf S.n g L → IsJoinOf S L T) → UsablePart n (i + 1) (part.Sum T)
usable_plain n i g S T p a w u joins =
    let t : LeafThere n g = leaf_of n g p a w in
    let j : IsJoinOf S t.sum T = joins t.sum (own_leaf n g S t.sum u.0.n_is t.is_leaf) in
    (usable_join n i 1 S t.sum T j u.0 (usable_leaf n g t.sum t.is_leaf (denotes_leaf n g t.sum w t.is_leaf)), next_still n i g S t.sum T p w u t.is_leaf j)

-- ---- where a limit is passed
pub plain_over : (n i : ℕ) (A more : List Prim) (ms ms' : List Move) (g : Prim) (S L S' : PathSum) (passed : Passed) (fail : OntoFault) (e : Evidence) → IsPlainPrim g → UsableHeld n i (Some S) → IsLeafOf n g L → ms' ≡ ms ++ Leaf i ∷ []
    → fail ≡ fault.Passed passed S' → ((L : PathSum) → IsLeafOf S.n g L → IsOntoFault S L fail) → overrun_of e ≡ overrun passed 0 i (i + 1) S' (Some L) → IsProgress n A (g ∷ more) (Some S) i ms → IsTaken n A more (i + 1) ms' (part.Over e)
plain_over n i A more ms ms' g S L S' passed fail e p u l m is faults v k =
    let f = onto_fault S L S' passed fail is (faults L (own_leaf n g S L u.0.n_is l)) in
    k _ (join_over (plain_leaves n i g L ms ms' p l m) (join_passed 0 i (i + 1) S L S' passed ms' (overrun_of e) f.0 f.1 v))
