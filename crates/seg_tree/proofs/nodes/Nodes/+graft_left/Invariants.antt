use Rattle.seg_tree.specs.Trees.{height}
use Rattle.seg_tree.specs.Drafts.{draft_tree}
use Rattle.seg_tree.proofs.nodes.Nodes.+graft_left.Given as goal

abbrev pub decreases-graft_left : goal.decreases-graft_left
decreases-graft_left l = height (draft_tree l.self.now l.right)
