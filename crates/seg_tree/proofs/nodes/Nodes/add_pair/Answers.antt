use Rattle.std.proofs.Common.{length, ap, sym, subst, arith}
use Rattle.seg_tree.specs.Trees.{run_maybe}
use Rattle.seg_tree.specs.Measures.{IsBalancedMaybe}
use Rattle.seg_tree.specs.Drafts.{maybe_tree}
use Rattle.seg_tree.specs.Growth.{PlantsMaybe}
use Rattle.seg_tree.proofs.Results.{maybe_kept, maybe_tree-kept, pair_planted}
use Rattle.seg_tree.proofs.nodes.Nodes.add_pair.Goals as goal

pub add-requires-2-clause-good : goal.add-requires-2-clause-good
add-requires-2-clause-good c = maybe_kept c.args.self.now c.add.new.self c.args.back c.in_ok-front.ensures.tree.kept c.requires.back_good

pub add-requires-2-clause-balanced : goal.add-requires-2-clause-balanced
add-requires-2-clause-balanced c = subst IsBalancedMaybe (sym (maybe_tree-kept c.args.self.now c.add.new.self c.args.back c.in_ok-front.ensures.tree.kept c.requires.back_good)) c.requires.back_balanced

pub add-requires-2-clause-short : goal.add-requires-2-clause-short
add-requires-2-clause-short c = omega (arith, c.requires.back_short, ap (λ t. length (run_maybe t)) (maybe_tree-kept c.args.self.now c.add.new.self c.args.back c.in_ok-front.ensures.tree.kept c.requires.back_good))

pub returns-in-Ok-clause-tree : goal.returns-in-Ok-clause-tree
returns-in-Ok-clause-tree c =
    let ts = c.args.self.now in
    let mid = c.add.new.self in
    let same = maybe_tree-kept ts mid c.args.back c.in_ok-front.ensures.tree.kept c.requires.back_good in
    let back : PlantsMaybe mid c.add-2.new.self (maybe_tree ts c.args.back) c.in-Ok.back = subst (λ t. PlantsMaybe mid c.add-2.new.self t c.in-Ok.back) same c.in-Ok.ensures.tree in
    pair_planted ts mid c.add-2.new.self _ _ c.in_ok-front.front c.in-Ok.back c.in_ok-front.ensures.tree back
