use Rattle.seg_tree.specs.Trees.{height}
use Rattle.seg_tree.specs.Table.{tree}
use Rattle.seg_tree.proofs.nodes.Nodes.+read.Given as goal

abbrev pub decreases-read : goal.decreases-read
decreases-read l = height (tree l.self.now l.node)
