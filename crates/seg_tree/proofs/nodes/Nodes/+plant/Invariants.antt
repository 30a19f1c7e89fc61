use Rattle.seg_tree.specs.Drafts.{weight}
use Rattle.seg_tree.proofs.nodes.Nodes.+plant.Given as goal

abbrev pub decreases-plant : goal.decreases-plant
decreases-plant l = weight l.draft
