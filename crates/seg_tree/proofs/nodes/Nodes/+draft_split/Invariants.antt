use Rattle.seg_tree.specs.Trees.{height}
use Rattle.seg_tree.specs.Drafts.{draft_tree}
use Rattle.seg_tree.proofs.nodes.Nodes.+draft_split.Given as goal

abbrev pub decreases-draft_split : goal.decreases-draft_split
decreases-draft_split l = height (draft_tree l.self.now l.draft)
