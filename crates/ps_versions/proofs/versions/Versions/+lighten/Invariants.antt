use Rattle.seg_tree.specs.Trees.{height}
use Rattle.seg_tree.specs.Table.{tree}
use Rattle.ps_versions.proofs.versions.Versions.+lighten.Given as goal

abbrev pub decreases-lighten : goal.decreases-lighten
decreases-lighten g l = height (tree l.self.now.nodes l.node)
