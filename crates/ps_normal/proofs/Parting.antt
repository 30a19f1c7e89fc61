-- What one more prim and a join come to.
use Rattle.std.proofs.Common.{◌≡◌, ℕ, ◌+◌, ◌*◌, ◌≤◌, ap, sym, ◌∙◌, subst, arith, Some, None, List, [], ◌∷◌, ◌++◌}
use Rattle.std.proofs.lemmas.Int.{ints}
use Rattle.std.specs.Prelude.{pos, negsuc, ◌+ℤ◌, ◌-ℤ◌, ◌≤ℤ◌}
use Rattle.ps_prim.specs.declared.prims.Primitive.{Primitive as Prim}
use Rattle.ps_prim.specs.Sums.{Denotes}
use Rattle.ps_prim.specs.Amplitudes.{turns}
use Rattle.ps_sum.specs.declared.sums.PathSum.{PathSum}
use Rattle.ps_sum.specs.declared.faults.Passed.{Passed}
use Rattle.ps_sum.specs.Sums.{path_values}
use Rattle.ps_rules.specs.declared.steps.Step.{Step}
use Rattle.ps_rules.specs.declared.steps.Move.{Move}
use Rattle.ps_rules.specs.declared.steps.Move.TheVariants.{Leaf, Join}
use Rattle.ps_join.specs.Joining.{IsLeafOf, IsJoinOf, JoinFits, JoinPasses}
use Rattle.ps_join.specs.OntoFaults.{IsOntoFault}
use Rattle.ps_join.specs.declared.onto_fault.OntoFault.{OntoFault}
use Rattle.ps_join.specs.declared.onto_fault.OntoFault.TheVariants as fault
use Rattle.ps_rules.specs.Rules.{IsIrreducible}
use Rattle.ps_reach.specs.Reductions.{Reduces}
use Rattle.ps_reach.specs.Overruns.{Overrun}
use Rattle.ps_reach.specs.Fillings.{kept, passed, Joins, passes, step_passes, reduces, Leaves, leaf_passes, leaf_reduces, overrun, rewrites, with_leaf, with_join}
use Rattle.ps_reach.proofs.Reducing.{reduces_n, reduces_width, reduces_scaled}
use Rattle.ps_reach.proofs.Denoting.{leaf_scaled, join_scaled, scaled_more, denotes_open, join_open, turns_few}
use Rattle.ps_normal.specs.declared.parts.Ended.{Ended}
use Rattle.ps_normal.specs.declared.parts.Ended.TheVariants as ended
use Rattle.ps_normal.specs.Ends.{IsEnded}
use Rattle.ps_normal.specs.declared.parts.Part.{Part}
use Rattle.ps_normal.specs.declared.parts.Part.TheVariants as part
use Rattle.ps_normal.specs.Pieces.{Usable}
use Rattle.ps_normal.specs.Keeping.{IsReducedPart, IsReducedLeaf}

pub ended_at : (S : PathSum) (ss qs : List Step) (e : Ended) → qs ≡ ss → IsEnded S ss e → IsEnded S qs e
ended_at S ss qs e v h = subst (λ q. IsEnded S q e) (sym v) h

-- ---- with the steps that were taken
pub reduced_part : (S T : PathSum) (ss : List Step) (e : Ended) → e ≡ ended.Normal T → IsEnded S ss e → IsReducedPart S ss (part.Sum T)
reduced_part S T ss e is r = subst (IsEnded S ss) is r

pub reduced_leaf : (n : ℕ) (g : Prim) (S : PathSum) (qs ss : List Step) (e : Ended) (p : Part) → qs ≡ ss → IsLeafOf n g S → IsEnded S ss e → ((S' : PathSum) → IsEnded S' qs e → IsReducedPart S' qs p) → IsReducedLeaf n g ss p
reduced_leaf n g S qs ss e p v l r f = (S, (l, subst (λ q. IsReducedPart S q p) v (f S (ended_at S ss qs e v r))))

-- ---- with the moves that were pushed
pub leaf_kept : (n i : ℕ) (g : Prim) (S T : PathSum) (ss : List Step) (ms ms' : List Move) (first : Move) (e : Ended) → first ≡ Leaf i → IsLeafOf n g S → e ≡ ended.Normal T → IsEnded S ss e
    → ms' ≡ ms ++ first ∷ rewrites ss → Leaves n i g ms (kept T ms')
leaf_kept n i g S T ss ms ms' first e f l is r m =
    let k : ms' ≡ with_leaf ms i ss = m ∙ ap (λ x. ms ++ x ∷ rewrites ss) f in
    subst (λ q. Leaves n i g ms (kept T q)) (sym k) (leaf_reduces l (subst (IsEnded S ss) is r))

pub leaf_passed : (n i middle to : ℕ) (g : Prim) (S T : PathSum) (p : Passed) (ss : List Step) (ms ms' : List Move) (first : Move) (e : Ended) (o : Overrun) → first ≡ Leaf i → middle ≡ i → to ≡ i + 1 → IsLeafOf n g S → e ≡ ended.Over p T → IsEnded S ss e
    → ms' ≡ ms ++ first ∷ rewrites ss → o ≡ overrun p i middle to T None → Leaves n i g ms (passed o ms')
leaf_passed n i middle to g S T p ss ms ms' first e o f em et l is r m v =
    let k : ms' ≡ with_leaf ms i ss = m ∙ ap (λ x. ms ++ x ∷ rewrites ss) f in
    let w : o ≡ overrun p i i (i + 1) T None = v ∙ ap (λ x. overrun p i x to T None) em ∙ ap (λ x. overrun p i i x T None) et in
    subst (λ q. Leaves n i g ms (passed q ms')) (sym w) (subst (λ q. Leaves n i g ms (passed (overrun p i i (i + 1) T None) q)) (sym k) (leaf_passes l (subst (IsEnded S ss) is r)))

pub join_kept : (from middle to : ℕ) (S1 S2 S T : PathSum) (ss : List Step) (ms ms' : List Move) (first : Move) (e : Ended) → first ≡ Join → JoinFits S1 S2 → IsJoinOf S1 S2 S → e ≡ ended.Normal T → IsEnded S ss e
    → ms' ≡ ms ++ first ∷ rewrites ss → Joins from middle to S1 S2 ms (kept T ms')
join_kept from middle to S1 S2 S T ss ms ms' first e f t j is r m =
    let k : ms' ≡ with_join ms ss = m ∙ ap (λ x. ms ++ x ∷ rewrites ss) f in
    subst (λ q. Joins from middle to S1 S2 ms (kept T q)) (sym k) (reduces t j (subst (IsEnded S ss) is r))

pub join_step_passed : (from middle to : ℕ) (S1 S2 S T : PathSum) (p : Passed) (ss : List Step) (ms ms' : List Move) (first : Move) (e : Ended) (o : Overrun) → first ≡ Join → JoinFits S1 S2 → IsJoinOf S1 S2 S → e ≡ ended.Over p T → IsEnded S ss e
    → ms' ≡ ms ++ first ∷ rewrites ss → o ≡ overrun p from middle to T None → Joins from middle to S1 S2 ms (passed o ms')
join_step_passed from middle to S1 S2 S T p ss ms ms' first e o f t j is r m v =
    let k : ms' ≡ with_join ms ss = m ∙ ap (λ x. ms ++ x ∷ rewrites ss) f in
    subst (λ q. Joins from middle to S1 S2 ms (passed q ms')) (sym v) (subst (λ q. Joins from middle to S1 S2 ms (passed (overrun p from middle to T None) q)) (sym k) (step_passes t j (subst (IsEnded S ss) is r)))

pub join_passed : (from middle to : ℕ) (S1 S2 S1' : PathSum) (p : Passed) (ms : List Move) (o : Overrun) → JoinPasses S1 S2 p → S1' ≡ S1 → o ≡ overrun p from middle to S1' (Some S2) → Joins from middle to S1 S2 ms (passed o ms)
join_passed from middle to S1 S2 S1' p ms o h s v =
    subst (λ q. Joins from middle to S1 S2 ms (passed q ms)) (sym (v ∙ ap (λ x. overrun p from middle to x (Some S2)) s)) (passes h)

pub onto_fault : (S1 S2 S1' : PathSum) (p : Passed) (e : OntoFault) → e ≡ fault.Passed p S1' → IsOntoFault S1 S2 e → JoinPasses S1 S2 p × (S1' ≡ S1)
onto_fault S1 S2 S1' p e is h = subst (IsOntoFault S1 S2) is h

pub shared_onto : (from middle to : ℕ) (S1 a S2 S1' x y : PathSum) (p : Passed) (e : OntoFault) (ms : List Move) (o : Overrun) → e ≡ fault.Passed p S1' → IsOntoFault S1 a e → a ≡ S2 → x ≡ S1' → y ≡ S2 → o ≡ overrun p from middle to x (Some y)
    → Joins from middle to S1 S2 ms (passed o ms)
shared_onto from middle to S1 a S2 S1' x y p e ms o is h ea ex ey v =
    let f = onto_fault S1 a S1' p e is h in
    join_passed from middle to S1 S2 x p ms o (subst (λ z. JoinPasses S1 z p) ea f.0) (ex ∙ f.1) (v ∙ ap (λ z. overrun p from middle to x (Some z)) ey)

-- ---- sums that can be used further
pub usable_reduced : (n count : ℕ) (S T : PathSum) (ss : List Step) → Reduces S ss T → Usable n count S → Usable n count T
usable_reduced n count S T ss r u = record { n_is = reduces_n r ∙ u.n_is; wide = reduces_width r ∙ u.wide; scale = reduces_scaled count r u.scale }

pub usable_ended : (n count : ℕ) (S T : PathSum) (ss : List Step) (e : Ended) → e ≡ ended.Normal T → Usable n count S → IsEnded S ss e → Usable n count T × IsIrreducible T
usable_ended n count S T ss e is u r = let w = subst (IsEnded S ss) is r in (usable_reduced n count S T ss w.taken u, w.ended)

pub usable_leaf : (n : ℕ) (g : Prim) (S : PathSum) → IsLeafOf n g S → Denotes n (path_values S) (g ∷ []) → Usable n 1 S
usable_leaf n g S l d = record { n_is = l.n_is; wide = denotes_open S d; scale = scaled_more (turns (g ∷ [])) 1 S (turns_few (g ∷ [])) (leaf_scaled n g S l) }

pub usable_join : (n a b : ℕ) (S1 S2 S : PathSum) → IsJoinOf S1 S2 S → Usable n a S1 → Usable n b S2 → Usable n (a + b) S
usable_join n a b S1 S2 S j u v = record { n_is = j.n_is ∙ u.n_is; wide = join_open j ∙ v.wide; scale = join_scaled a b S1 S2 S j u.scale v.scale }

pub usable_floor : (n count : ℕ) (S : PathSum) → count ≤ 536870912 → Usable n count S → negsuc 1999999999 ≤ℤ (S.k -ℤ pos (2 * S.m))
usable_floor n count S h u = omega (arith, ints, h, u.scale.least)

pub usable_scaled : (n a b : ℕ) (S1 S2 : PathSum) → a + b ≤ 536870912 → Usable n a S1 → Usable n b S2 → (negsuc 1999999999 ≤ℤ (S1.k +ℤ S2.k)) × ((S1.k +ℤ S2.k) ≤ℤ pos 2000000000)
usable_scaled n a b S1 S2 h u v =
    (omega (arith, ints, h, u.scale.least, v.scale.least), omega (arith, ints, h, u.scale.most, v.scale.most, S1.named, S2.named))
