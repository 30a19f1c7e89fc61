use Rattle.std.proofs.Common.{Some, sym, ap, ◌∙◌}
use Rattle.seg_tree.specs.Table.{tree}
use Rattle.ps_versions.specs.Questions.{segments, is_ready}
use Rattle.ps_versions.specs.Walks.{visited, walked}
use Rattle.ps_versions.proofs.Counting.{walk_branch}
use Rattle.ps_versions.proofs.versions.Versions.+walk.Goals as goal

pub returns-in-Branch-clause-value : goal.returns-in-Branch-clause-value
returns-in-Branch-clause-value g t c =
    let ts = c.args.self.now.nodes in
    let ready = is_ready c.args.self.now.kept g.R.Kept.passed in
    let k = c.args.node in
    c.visit-in-Branch.ensures.value
    ∙ ap (λ w. visited ready w (tree ts k)) (c.walk-between.ensures.value ∙ ap (λ w. walked ready w (segments (tree ts c.in-Branch.right))) c.walk-before.ensures.value)
    ∙ sym (walk_branch ready c.args.walk (tree ts k) (Some k) (tree ts c.in-Branch.left) (tree ts c.in-Branch.right) c.in-Branch.ensures.0)

pub returns-in-Branch-clause-storable : goal.returns-in-Branch-clause-storable
returns-in-Branch-clause-storable g t c = λ h. c.visit-in-Branch.ensures.storable (c.walk-between.ensures.storable (c.walk-before.ensures.storable h))
