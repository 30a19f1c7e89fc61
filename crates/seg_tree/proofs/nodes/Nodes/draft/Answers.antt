use Rattle.std.proofs.Common.{◌<◌, length, ap, refl, subst, arith}
use Rattle.std.specs.Prelude.{◌≡◌, Some}
use Rattle.seg_tree.specs.Measures.{IsWhole}
use Rattle.seg_tree.specs.Trees.{name_of}
use Rattle.seg_tree.specs.Table.{tree}
use Rattle.seg_tree.proofs.Forest.{length-forest, name_of-tree}
use Rattle.seg_tree.proofs.Whole.{whole_tree}
use Rattle.seg_tree.specs.Older.{IsForest}
use Rattle.seg_tree.proofs.Grown.{is_forest}
use Rattle.seg_tree.proofs.nodes.Nodes.draft.Goals as goal

pub returns-clause-draft : goal.returns-clause-draft
returns-clause-draft c =
    let items = c.self.inside.slots.items in
    let near : c.args.node < length items = omega (arith, length-forest items, ap length c.self.view_is) in
    (refl, (c.requires, subst (λ ts. name_of (tree ts c.args.node) ≡ Some c.args.node) c.self.view_is (name_of-tree items c.args.node near c.self.invariant)))

pub returns-clause-whole : goal.returns-clause-whole
returns-clause-whole c =
    let items = c.self.inside.slots.items in
    subst (λ ts. IsWhole c.args.node (tree ts c.args.node)) c.self.view_is (whole_tree items c.self.invariant c.args.node (omega (arith, ap length c.self.view_is)))

pub returns-clause-forest : goal.returns-clause-forest
returns-clause-forest c = subst IsForest c.self.view_is (is_forest c.self.inside.slots.items c.self.invariant)
