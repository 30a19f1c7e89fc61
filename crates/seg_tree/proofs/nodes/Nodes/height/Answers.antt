use Rattle.std.proofs.Common.{ap, sym, ◌∙◌, subst}
use Rattle.std.specs.Prelude.{◌≡◌, ◌*◌, ◌^◌, ◌≤◌}
use Rattle.seg_tree.specs.Trees.{height}
use Rattle.seg_tree.specs.Measures.{leaves}
use Rattle.seg_tree.specs.Table.{tree}
use Rattle.seg_tree.proofs.Steep.{steep}
use Rattle.seg_tree.proofs.nodes.Nodes.height.Goals as goal

pub returns-clause-bound : goal.returns-clause-bound
returns-clause-bound c =
    let t = tree c.args.self.now c.args.node in
    let same : c.height_of.result ≡ height t = c.height_of.ensures.value ∙ ap height c.draft-draft.ensures.draft.0 in
    subst (λ n. 2 ^ n ≤ leaves t * leaves t) (sym same) (steep t c.draft-draft.ensures.whole.balanced)
