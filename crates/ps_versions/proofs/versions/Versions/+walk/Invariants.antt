use Rattle.seg_tree.specs.Trees.{height}
use Rattle.seg_tree.specs.Table.{tree}
use Rattle.ps_versions.proofs.versions.Versions.+walk.Given as goal

abbrev pub decreases-walk : goal.decreases-walk
decreases-walk g l = height (tree l.self.now.nodes l.node)
