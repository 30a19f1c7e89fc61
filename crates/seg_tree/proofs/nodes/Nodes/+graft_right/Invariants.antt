use Rattle.seg_tree.specs.Trees.{height}
use Rattle.seg_tree.specs.Drafts.{draft_tree}
use Rattle.seg_tree.proofs.nodes.Nodes.+graft_right.Given as goal

abbrev pub decreases-graft_right : goal.decreases-graft_right
decreases-graft_right l = height (draft_tree l.self.now l.left)
