use Rattle.std.proofs.Common.{length, ap, arith}
use Rattle.seg_tree.proofs.Forest.{length-forest}
use Rattle.seg_tree.proofs.nodes.Nodes.count.Goals as goal

pub returns : goal.returns
returns c = omega (arith, length-forest c.self.inside.slots.items, ap length c.self.view_is, c.self.inside.slots.ok.0)
