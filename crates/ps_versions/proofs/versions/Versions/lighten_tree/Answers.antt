use Rattle.std.proofs.Common.{◌≡◌, ◌<◌, length, Some, false, ◌&&◌, sym, ap, ◌∙◌}
use Rattle.std.specs.Prelude.{is_none}
use Rattle.seg_tree.specs.Table.{tree, root_tree}
use Rattle.ps_versions.specs.Questions.{segments, is_ready, settled_in}
use Rattle.ps_versions.proofs.Pruning.{not_settled}
use Rattle.ps_versions.proofs.Lighter.{lighten_some}
use Rattle.ps_versions.proofs.versions.Versions.lighten_tree.Goals as goal

pub returns-else-is_settled-clause-none : goal.returns-else-is_settled-clause-none
returns-else-is_settled-clause-none g c =
    let kept = c.args.self.now.kept in
    let passed = g.R.Kept.passed in
    let ts = c.args.self.now.nodes in
    let t = tree ts c.in-Some.root in
    let open_ : settled_in kept passed (Some t) ≡ false = sym c.is_settled.ensures ∙ c.if-is_settled.false in
    ap is_none c.lighten.ensures
    ∙ lighten_some (g.W.Weights.weight c.args.weights.now) (is_ready kept passed) c.args.place.now c.args.best (segments t) (not_settled kept passed t c.height.ensures.whole.known open_)
    ∙ ap (λ b. is_none c.args.best && b) (sym (ap (λ r. settled_in kept passed (root_tree ts r)) c.in-Some.is ∙ open_))
