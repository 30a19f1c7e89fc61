use Rattle.std.proofs.Common.{◌≡◌, max, length, ap, sym, ◌∙◌, subst, arith}
use Rattle.std.proofs.lemmas.Result.{IfOk-weaker}
use Rattle.seg_tree.specs.Trees.{run_maybe, build, splice}
use Rattle.seg_tree.specs.Measures.{IsBalancedMaybe, height_maybe, uses_maybe, fresh_maybe}
use Rattle.seg_tree.specs.Table.{root_tree}
use Rattle.seg_tree.specs.Drafts.{maybe_tree}
use Rattle.seg_tree.proofs.Splices.{run-splice, length-splice}
use Rattle.seg_tree.proofs.Uses.{uses-splice}
use Rattle.seg_tree.proofs.Fresh.{balanced-splice, fresh-splice}
use Rattle.seg_tree.proofs.Built.{balanced-build, fresh-build}
use Rattle.seg_tree.proofs.Whole.{root_balanced, root_known, root_below}
use Rattle.seg_tree.proofs.Results.{run_is, balanced_is, few_new, passes}
use Rattle.seg_tree.proofs.nodes.Nodes.splice.Goals as goal

pub add-requires-clause-balanced : goal.add-requires-clause-balanced
add-requires-clause-balanced c =
    let same : maybe_tree c.args.self.now c.in_ok-draft.draft ≡ splice (root_tree c.args.self.now c.args.root) c.args.from c.args.to c.args.items.now = cc (c.in_ok-draft.ensures.0, c.draft_of-whole.ensures.draft.0) in
    let balanced : IsBalancedMaybe (maybe_tree c.args.self.now c.in_ok-draft.draft) = subst IsBalancedMaybe (sym same) (balanced-splice (root_tree c.args.self.now c.args.root) c.args.from c.args.to c.args.items.now c.requires.order c.requires.within (root_balanced c.args.self.now c.args.root c.draft_of-whole.ensures.whole) (balanced-build c.args.items.now)) in
    balanced

pub add-requires-clause-short : goal.add-requires-clause-short
add-requires-clause-short c =
    let same : maybe_tree c.args.self.now c.in_ok-draft.draft ≡ splice (root_tree c.args.self.now c.args.root) c.args.from c.args.to c.args.items.now = cc (c.in_ok-draft.ensures.0, c.draft_of-whole.ensures.draft.0) in
    let t = root_tree c.args.self.now c.args.root in
    omega (arith, ap (λ t. length (run_maybe t)) same, length-splice t c.args.from c.args.to c.args.items.now c.requires.order c.requires.within, c.requires.fits)

pub returns-clause-run : goal.returns-clause-run
returns-clause-run c =
    let same : maybe_tree c.args.self.now c.in_ok-draft.draft ≡ splice (root_tree c.args.self.now c.args.root) c.args.from c.args.to c.args.items.now = cc (c.in_ok-draft.ensures.0, c.draft_of-whole.ensures.draft.0) in
    IfOk-weaker c.add.result _ _ (λ r p. run_is c.args.self.now c.add.new.self _ r p ∙ ap run_maybe same ∙ run-splice (root_tree c.args.self.now c.args.root) c.args.from c.args.to c.args.items.now c.requires.order c.requires.within) c.add.ensures.tree

pub returns-clause-balanced : goal.returns-clause-balanced
returns-clause-balanced c =
    let same : maybe_tree c.args.self.now c.in_ok-draft.draft ≡ splice (root_tree c.args.self.now c.args.root) c.args.from c.args.to c.args.items.now = cc (c.in_ok-draft.ensures.0, c.draft_of-whole.ensures.draft.0) in
    let balanced : IsBalancedMaybe (maybe_tree c.args.self.now c.in_ok-draft.draft) = subst IsBalancedMaybe (sym same) (balanced-splice (root_tree c.args.self.now c.args.root) c.args.from c.args.to c.args.items.now c.requires.order c.requires.within (root_balanced c.args.self.now c.args.root c.draft_of-whole.ensures.whole) (balanced-build c.args.items.now)) in
    IfOk-weaker c.add.result _ _ (λ r p. balanced_is c.args.self.now c.add.new.self _ r p balanced) c.add.ensures.tree

pub returns-clause-nodes : goal.returns-clause-nodes
returns-clause-nodes c =
    let same : maybe_tree c.args.self.now c.in_ok-draft.draft ≡ splice (root_tree c.args.self.now c.args.root) c.args.from c.args.to c.args.items.now = cc (c.in_ok-draft.ensures.0, c.draft_of-whole.ensures.draft.0) in
    let ts = c.args.self.now in
    let t = root_tree ts c.args.root in
    IfOk-weaker c.add.result _ _ (λ k p. passes ts c.add.new.self _ k p (λ i. uses_maybe i t)
    (λ i. omega (arith, ap (uses_maybe i) same, uses-splice i t c.args.from c.args.to c.args.items.now))
    (λ i past. root_below ts c.args.root i c.draft_of-whole.ensures.whole c.requires.there past)) c.add.ensures.tree

pub returns-clause-bound : goal.returns-clause-bound
returns-clause-bound c =
    let same : maybe_tree c.args.self.now c.in_ok-draft.draft ≡ splice (root_tree c.args.self.now c.args.root) c.args.from c.args.to c.args.items.now = cc (c.in_ok-draft.ensures.0, c.draft_of-whole.ensures.draft.0) in
    let ts = c.args.self.now in
    let t = root_tree ts c.args.root in
    let items = c.args.items.now in
    let most = fresh-splice t c.args.from c.args.to (max (height_maybe t) (height_maybe (build items))) items c.requires.order c.requires.within (root_balanced ts c.args.root c.draft_of-whole.ensures.whole) (balanced-build items) (omega arith) (omega arith) in
    IfOk-weaker c.add.result _ _ (λ r p. omega (arith, most, few_new ts c.add.new.self _ r p, ap fresh_maybe same, fresh-build items, root_known ts c.args.root c.draft_of-whole.ensures.whole)) c.add.ensures.tree
