use Rattle.seg_tree.specs.Trees.{height}
use Rattle.seg_tree.specs.Table.{tree}
use Rattle.ps_versions.proofs.versions.Versions.+missing_at.Given as goal

abbrev pub decreases-missing_at : goal.decreases-missing_at
decreases-missing_at g l = height (tree l.self.now.nodes l.node)
