use Rattle.std.proofs.Common.{◌≡◌, Some, [], ◌∷◌, false, sym, ap, ◌∙◌}
use Rattle.seg_tree.specs.Table.{tree}
use Rattle.ps_versions.specs.Questions.{segments, is_ready, lacks}
use Rattle.ps_versions.specs.Choices.{lighter_of}
use Rattle.ps_versions.proofs.Pruning.{none_ready, none_lack_in}
use Rattle.ps_versions.proofs.Lighter.{lightest_in, lighten_branch, lighten_none}
use Rattle.ps_versions.proofs.versions.Versions.+lighten.Goals as goal

pub returns-then-not-lacks : goal.returns-then-not-lacks
returns-then-not-lacks g t c =
    let kept = c.args.self.now.kept in
    let passed = g.R.Kept.passed in
    let s = tree c.args.self.now.nodes c.args.node in
    lighten_none (g.W.Weights.weight c.args.weights.now) (is_ready kept passed) c.args.place.now c.args.best (segments s)
    (none_ready kept passed (segments s) (none_lack_in kept passed s (sym c.lacks.ensures.value ∙ c.if-not-lacks.true) (c.lacks.ensures.below c.if-not-lacks.true)))

pub returns-in-Branch : goal.returns-in-Branch
returns-in-Branch g t c =
    let ts = c.args.self.now.nodes in
    let weight = g.W.Weights.weight c.args.weights.now in
    let ready = is_ready c.args.self.now.kept g.R.Kept.passed in
    let place = c.args.place.now in
    let k = c.args.node in
    c.weigh-in-Branch.ensures
    ∙ ap (λ o. lighter_of weight o (lightest_in weight ready place (tree ts k ∷ []))) (c.lighten-second.ensures ∙ ap (λ o. lighter_of weight o (lightest_in weight ready place (segments (tree ts c.in-Branch.right)))) c.lighten-first.ensures)
    ∙ lighten_branch weight ready place (tree ts k) (Some k) (tree ts c.in-Branch.left) (tree ts c.in-Branch.right) c.args.best c.in-Branch.ensures.0
