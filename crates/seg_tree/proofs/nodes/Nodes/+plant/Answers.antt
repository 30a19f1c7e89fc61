use Rattle.std.proofs.Common.{◌≡◌, ◌≤◌, None, ap, sym, subst, arith, length, length-append}
use Rattle.std.proofs.lemmas.Result.{IfOk-weaker}
use Rattle.seg_tree.specs.Trees.{branch, run}
use Rattle.seg_tree.specs.Measures.{IsBalanced}
use Rattle.seg_tree.specs.Drafts.{draft_tree, IsGood, weight}
use Rattle.seg_tree.specs.Growth.{Plants}
use Rattle.seg_tree.proofs.Growing.{Fits, good_kept, draft_tree-kept, stands_drafts, plants_drafts}
use Rattle.seg_tree.proofs.nodes.Nodes.+plant.Goals as goal

pub plant-requires-in-Branch : goal.plant-requires-in-Branch
plant-requires-in-Branch t c =
    let ts = c.args.self.now in
    let good = subst (IsGood ts) c.in-Branch.is c.requires.good in
    let balanced = subst (λ d. IsBalanced (draft_tree ts d)) c.in-Branch.is c.requires.balanced in
    let short = subst (λ d. length (run (draft_tree ts d)) ≤ 65536) c.in-Branch.is c.requires.short in
    let kept = c.in_ok-left-in-Branch.ensures.tree.kept in
    let same : draft_tree c.plant.new.self c.in-Branch.right.value ≡ draft_tree ts c.in-Branch.right.value = draft_tree-kept ts c.plant.new.self c.in-Branch.right.value kept good.1 in (
      grind (arith, ap weight c.in-Branch.is, ap weight c.into_inner-in-Branch.ensures),
      (
        rw c.into_inner-in-Branch.ensures (good_kept ts c.plant.new.self _ kept good.1),
        (
          rw (c.into_inner-in-Branch.ensures, same) balanced.1,
          rw (c.into_inner-in-Branch.ensures, same) (omega (arith, short, length-append (run (draft_tree ts c.in-Branch.left.value)) (run (draft_tree ts c.in-Branch.right.value)))),
        ),
      ),
    )

pub push-requires-in-Branch : goal.push-requires-in-Branch
push-requires-in-Branch t c =
    let ts = c.args.self.now in
    let good = subst (IsGood ts) c.in-Branch.is c.requires.good in
    let balanced = subst (λ d. IsBalanced (draft_tree ts d)) c.in-Branch.is c.requires.balanced in
    let short = subst (λ d. length (run (draft_tree ts d)) ≤ 65536) c.in-Branch.is c.requires.short in
    let x = rw c.into_inner.ensures at c.in_ok-left-in-Branch.ensures.tree in
    let y = rw c.into_inner-in-Branch.ensures at c.in_ok-right-in-Branch.ensures.tree in
    let l = draft_tree ts c.in-Branch.left.value in
    let r = draft_tree ts c.in-Branch.right.value in
    let fits : Fits l r c.in-Branch.len c.in-Branch.high = record {
      length_is = good.2;
      height_is = good.3;
      left_high = balanced.2;
      right_high = balanced.3;
      low = good.4;
      short = omega (arith, good.2, short, length-append (run l) (run r));
    } in
    stands_drafts _ _ _ c.in-Branch.left.value c.in-Branch.right.value _ _ x good.1 y c.in-Branch.len c.in-Branch.high fits

pub returns-in_ok-right-in-Branch-clause-tree : goal.returns-in_ok-right-in-Branch-clause-tree
returns-in_ok-right-in-Branch-clause-tree t c =
    let ts = c.args.self.now in
    let good = subst (IsGood ts) c.in-Branch.is c.requires.good in
    let x = rw c.into_inner.ensures at c.in_ok-left-in-Branch.ensures.tree in
    let y = rw c.into_inner-in-Branch.ensures at c.in_ok-right-in-Branch.ensures.tree in
    let whole : draft_tree ts c.args.draft ≡ branch None (draft_tree ts c.in-Branch.left.value) (draft_tree ts c.in-Branch.right.value) = ap (draft_tree ts) c.in-Branch.is in
    IfOk-weaker c.push-in-Branch.result _ _ (λ k e. subst (λ w. Plants ts c.push-in-Branch.new.self w k) (sym whole) (plants_drafts _ _ _ c.in-Branch.left.value c.in-Branch.right.value _ _ x good.1 y c.in-Branch.len c.in-Branch.high _ k e.0 e.1)) c.push-in-Branch.ensures.tree
