use Rattle.std.proofs.Common.{◌<◌, length, refl, ap, arith}
use Rattle.std.proofs.lemmas.Option.{slice_get_read}
use Rattle.seg_tree.proofs.Forest.{length-forest, described}
use Rattle.seg_tree.proofs.nodes.Nodes.slot.Goals as goal

pub index-requires : goal.index-requires
index-requires c = omega (arith, length-forest c.self.inside.slots.items, ap length c.self.view_is, c.self.inside.slots.ok.0)

pub returns : goal.returns
returns c =
    let items = c.self.inside.slots.items in
    let near : c.number.result < length items = omega (arith, length-forest items, ap length c.self.view_is) in
    let said = described items c.number.result c.index.result.now (slice_get_read items (length items) c.number.result c.index.result.now refl near c.index.ensures) c.self.invariant in
    rw (← c.self.view_is, ← c.number.ensures) said
