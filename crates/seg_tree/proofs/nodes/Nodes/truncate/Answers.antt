use Rattle.std.proofs.Common.{◌≤◌, length, take, ap, ◌∙◌, arith}
use Rattle.seg_tree.specs.Table.{forest}
use Rattle.seg_tree.proofs.Forest.{length-forest, forest-take, sound_take}
use Rattle.seg_tree.proofs.nodes.Nodes.truncate.Goals as goal

pub returns : goal.returns
returns c =
    let items = c.self.inside.slots.items in
    let within : c.args.count ≤ length items = omega (arith, length-forest items, ap length c.self.view_is) in
    ap forest c.truncate.ensures.items ∙ forest-take items c.args.count within ∙ ap (take c.args.count) c.self.view_is

pub invariant_of-self : goal.invariant_of-self
invariant_of-self c =
    let items = c.self.inside.slots.items in
    let within : c.args.count ≤ length items = omega (arith, length-forest items, ap length c.self.view_is) in
    rw c.truncate.ensures.items (sound_take items c.args.count within c.self.invariant)
