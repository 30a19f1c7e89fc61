use Rattle.std.proofs.Common.{ap}
use Rattle.seg_tree.specs.Table.{forest}
use Rattle.seg_tree.proofs.nodes.Nodes.new.Goals as goal

pub returns : goal.returns
unfolding forest
returns c = ap forest c.new.ensures.items
