use Rattle.std.proofs.Common.{sym, ◌∙◌}
use Rattle.seg_tree.specs.Table.{tree}
use Rattle.ps_versions.proofs.Pruning.{missing_full}
use Rattle.ps_versions.proofs.versions.Versions.+missing_at.Goals as goal

pub returns-then-not-lacks : goal.returns-then-not-lacks
returns-then-not-lacks g t c = missing_full c.args.self.now.kept g.R.Kept.passed (tree c.args.self.now.nodes c.args.node) (sym c.lacks.ensures.value ∙ c.if-not-lacks.true) (c.lacks.ensures.below c.if-not-lacks.true)
