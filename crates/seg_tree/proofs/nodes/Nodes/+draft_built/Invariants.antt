use Rattle.std.proofs.Common.{length}
use Rattle.seg_tree.proofs.nodes.Nodes.+draft_built.Given as goal

abbrev pub decreases-draft_built : goal.decreases-draft_built
decreases-draft_built l = length l.items.now
