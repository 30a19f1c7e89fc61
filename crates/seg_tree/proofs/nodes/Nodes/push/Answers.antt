use Rattle.std.proofs.Common.{[], ◌∷◌, ◌++◌, length, ap, sym, subst, ◌∙◌, arith}
use Rattle.seg_tree.specs.Table.{forest, planted, Stands}
use Rattle.seg_tree.proofs.Forest.{forest_push}
use Rattle.seg_tree.proofs.Growing.{sound_push}
use Rattle.seg_tree.proofs.nodes.Nodes.push.Goals as goal

pub invariant_of-self-2 : goal.invariant_of-self-2
invariant_of-self-2 c =
    let items = c.self.inside.slots.items in
    let stands : Stands (forest items) (length (forest items)) c.args.slot = subst (λ ts. Stands ts (length ts) c.args.slot) (sym c.self.view_is) c.requires in
    rw c.in_ok-push.ensures.items (sound_push items c.args.slot c.self.invariant stands)

pub returns-clause-front : goal.returns-clause-front
returns-clause-front c = record {
  more = planted c.args.self.now c.args.slot ∷ [];
  is = ap forest c.in_ok-push.ensures.items ∙ forest_push c.self.inside.slots.items c.args.slot ∙ ap (λ ts. ts ++ planted ts c.args.slot ∷ []) c.self.view_is;
}

pub returns-clause-tree : goal.returns-clause-tree
returns-clause-tree c =
    (ap forest c.in_ok-push.ensures.items ∙ forest_push c.self.inside.slots.items c.args.slot ∙ ap (λ ts. ts ++ planted ts c.args.slot ∷ []) c.self.view_is, omega (arith, c.at-node.ensures, c.count.ensures))
