use Rattle.seg_tree.specs.Trees.{height}
use Rattle.seg_tree.specs.Table.{tree}
use Rattle.seg_tree.proofs.nodes.Nodes.+leaf_from.Given as goal

abbrev pub decreases-leaf_from : goal.decreases-leaf_from
decreases-leaf_from l = height (tree l.self.now l.node)
