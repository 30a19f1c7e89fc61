use Rattle.std.proofs.Common.{◌≡◌, ◌+◌, length, ap, sym, ◌∙◌, subst, arith}
use Rattle.std.proofs.lemmas.Result.{IfOk-weaker}
use Rattle.seg_tree.specs.Trees.{run_maybe, concat}
use Rattle.seg_tree.specs.Measures.{IsBalancedMaybe, uses_maybe}
use Rattle.seg_tree.specs.Table.{root_tree}
use Rattle.seg_tree.specs.Drafts.{maybe_tree}
use Rattle.seg_tree.proofs.Cases.{run-concat, length-concat}
use Rattle.seg_tree.proofs.Uses.{uses-concat}
use Rattle.seg_tree.proofs.Fresh.{balanced-concat}
use Rattle.seg_tree.proofs.Whole.{root_balanced, root_below}
use Rattle.seg_tree.proofs.Results.{run_is, balanced_is, passes}
use Rattle.seg_tree.proofs.Texts.{is_join}
use Rattle.seg_tree.proofs.nodes.Nodes.concat.Goals as goal

pub add-requires-clause-balanced : goal.add-requires-clause-balanced
add-requires-clause-balanced c =
    let same : maybe_tree c.args.self.now c.in_ok-draft.draft ≡ concat (root_tree c.args.self.now c.args.left) (root_tree c.args.self.now c.args.right) = cc (c.in_ok-draft.ensures.0, c.draft_of-left.ensures.draft.0, c.draft_of-right.ensures.draft.0) in
    let balanced : IsBalancedMaybe (maybe_tree c.args.self.now c.in_ok-draft.draft) = subst IsBalancedMaybe (sym same) (balanced-concat (root_tree c.args.self.now c.args.left) (root_tree c.args.self.now c.args.right) (root_balanced c.args.self.now c.args.left c.draft_of-left.ensures.whole) (root_balanced c.args.self.now c.args.right c.draft_of-right.ensures.whole)) in
    balanced

pub add-requires-clause-short : goal.add-requires-clause-short
add-requires-clause-short c =
    let same : maybe_tree c.args.self.now c.in_ok-draft.draft ≡ concat (root_tree c.args.self.now c.args.left) (root_tree c.args.self.now c.args.right) = cc (c.in_ok-draft.ensures.0, c.draft_of-left.ensures.draft.0, c.draft_of-right.ensures.draft.0) in
    let ts = c.args.self.now in
    omega (arith, ap (λ t. length (run_maybe t)) same, length-concat (root_tree ts c.args.left) (root_tree ts c.args.right), c.requires.fits)

pub returns-clause-shape : goal.returns-clause-shape
returns-clause-shape c = IfOk-weaker c.add.result _ _ (λ r p. is_join) c.add.ensures.tree

pub returns-clause-run : goal.returns-clause-run
returns-clause-run c =
    let same : maybe_tree c.args.self.now c.in_ok-draft.draft ≡ concat (root_tree c.args.self.now c.args.left) (root_tree c.args.self.now c.args.right) = cc (c.in_ok-draft.ensures.0, c.draft_of-left.ensures.draft.0, c.draft_of-right.ensures.draft.0) in
    IfOk-weaker c.add.result _ _ (λ r p. run_is c.args.self.now c.add.new.self _ r p ∙ ap run_maybe same ∙ run-concat (root_tree c.args.self.now c.args.left) (root_tree c.args.self.now c.args.right)) c.add.ensures.tree

pub returns-clause-balanced : goal.returns-clause-balanced
returns-clause-balanced c =
    let same : maybe_tree c.args.self.now c.in_ok-draft.draft ≡ concat (root_tree c.args.self.now c.args.left) (root_tree c.args.self.now c.args.right) = cc (c.in_ok-draft.ensures.0, c.draft_of-left.ensures.draft.0, c.draft_of-right.ensures.draft.0) in
    let balanced : IsBalancedMaybe (maybe_tree c.args.self.now c.in_ok-draft.draft) = subst IsBalancedMaybe (sym same) (balanced-concat (root_tree c.args.self.now c.args.left) (root_tree c.args.self.now c.args.right) (root_balanced c.args.self.now c.args.left c.draft_of-left.ensures.whole) (root_balanced c.args.self.now c.args.right c.draft_of-right.ensures.whole)) in
    IfOk-weaker c.add.result _ _ (λ r p. balanced_is c.args.self.now c.add.new.self _ r p balanced) c.add.ensures.tree

pub returns-clause-nodes : goal.returns-clause-nodes
returns-clause-nodes c =
    let same : maybe_tree c.args.self.now c.in_ok-draft.draft ≡ concat (root_tree c.args.self.now c.args.left) (root_tree c.args.self.now c.args.right) = cc (c.in_ok-draft.ensures.0, c.draft_of-left.ensures.draft.0, c.draft_of-right.ensures.draft.0) in
    let ts = c.args.self.now in
    let l = root_tree ts c.args.left in
    let r = root_tree ts c.args.right in
    IfOk-weaker c.add.result _ _ (λ k p. passes ts c.add.new.self _ k p (λ i. uses_maybe i l + uses_maybe i r)
    (λ i. omega (arith, ap (uses_maybe i) same, uses-concat i l r))
    (λ i past. omega (arith, root_below ts c.args.left i c.draft_of-left.ensures.whole c.requires.left past, root_below ts c.args.right i c.draft_of-right.ensures.whole c.requires.right past))) c.add.ensures.tree
