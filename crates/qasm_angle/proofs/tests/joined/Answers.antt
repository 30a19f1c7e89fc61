use Rattle.std.proofs.Common.{[], ◌∷◌, ◌++◌, sym, ◌∙◌, ap}
use Rattle.qasm_angle.specs.Trees.{leaf, two}
use Rattle.qasm_angle.proofs.tests.joined.Goals as goal

pub new-requires : goal.new-requires
new-requires c =
    let a = c.args in (
      two a.op c.requires.op (leaf a.left c.requires.left) (leaf a.right c.requires.right),
      sym (c.in_ok-push-3.ensures.items ∙ ap (λ s. s ++ (a.op ∷ [])) (c.in_ok-push-2.ensures.items ∙ ap (λ s. s ++ (a.right ∷ [])) (c.in_ok-push.ensures.items ∙ ap (λ s. s ++ (a.left ∷ [])) c.new-ops.ensures.items))),
    )
