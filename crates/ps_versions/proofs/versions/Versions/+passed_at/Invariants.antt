use Rattle.seg_tree.specs.Trees.{height}
use Rattle.seg_tree.specs.Table.{tree}
use Rattle.ps_versions.proofs.versions.Versions.+passed_at.Given as goal

abbrev pub decreases-passed_at : goal.decreases-passed_at
decreases-passed_at g l = height (tree l.self.now.nodes l.node)
