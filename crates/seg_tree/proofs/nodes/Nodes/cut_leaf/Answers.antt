use Rattle.std.proofs.Common.{◌≡◌, refl, ℕ, List, take, drop, arith, length-take, length-drop}
use Rattle.std.proofs.lemmas.List.{take_rest}
use Rattle.seg_tree.specs.Trees.{run}
use Rattle.seg_tree.specs.Drafts.{draft_tree}
use Rattle.seg_tree.proofs.Cases.{split_leaf}
use Rattle.seg_tree.proofs.nodes.Nodes.cut_leaf.Goals as goal

pub returns : goal.returns
returns c =
    let items : List ℕ = run (draft_tree c.args.self.now c.args.draft.now) in
    let front : c.in_ok-front.front.items ≡ take c.args.at items = grind (arith, c.in_ok-front.ensures.ok, c.items-items.ensures) in
    let back : c.in_ok-back.back.items ≡ drop c.args.at items = grind (arith, c.in_ok-back.ensures.ok, c.items-items.ensures, take_rest items c.args.at) in
    rw (split_leaf (draft_tree c.args.self.now c.args.draft.now) c.args.at c.requires.flat c.requires.above c.requires.below, front, back) (
      (refl, (omega (arith, length-take c.args.at items, c.requires.above, c.requires.below), omega (arith, length-take c.args.at items, c.requires.short))),
      (refl, (omega (arith, length-drop c.args.at items, c.requires.below), omega (arith, length-drop c.args.at items, c.requires.short))),
    )
