use Rattle.std.proofs.Common.{◌++◌, ◌∷◌, [], ◌∙◌, ap, sym, zero-add}
use Rattle.std.specs.List.{range_with_len}
use Rattle.qasm_expand.proofs.Prims.{range_more}
use Rattle.qasm_expand.proofs.bodies.first_places.Goals as goal

pub loop-place-preserved : goal.loop-place-preserved
loop-place-preserved c =
    c.in_ok-push.ensures.items ∙ ap (λ xs. xs ++ c.loop-place.place ∷ []) c.loop-place.invariant ∙ ap (λ k. range_with_len 0 c.loop-place.place ++ k ∷ []) (sym (zero-add c.loop-place.place)) ∙ sym (range_more 0 c.loop-place.place)
