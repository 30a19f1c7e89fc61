use Rattle.std.proofs.Common.{sym, ap, ◌∙◌, ◌||◌}
use Rattle.std.specs.Prelude.{is_some}
use Rattle.std.specs.List.{list_any}
use Rattle.seg_tree.specs.Table.{tree}
use Rattle.ps_versions.specs.Questions.{has_passed, segments}
use Rattle.ps_versions.proofs.Pruning.{any_first}
use Rattle.ps_versions.proofs.versions.Versions.is_settled.Goals as goal

pub returns-else-has_sum : goal.returns-else-has_sum
returns-else-has_sum g c =
    let kept = c.args.self.now.kept in
    let passed = g.R.Kept.passed in
    let ts = segments (tree c.args.self.now.nodes c.args.root) in
    c.is_some.ensures
    ∙ ap is_some c.passed_in.ensures
    ∙ any_first kept passed ts
    ∙ sym (ap (λ b. b || list_any (has_passed kept passed) ts) (sym c.has_sum.ensures ∙ c.if-has_sum.false))
