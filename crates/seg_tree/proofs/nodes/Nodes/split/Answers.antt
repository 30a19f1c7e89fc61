use Rattle.std.proofs.Common.{◌≡◌, length, Some, ap, sym, ◌∙◌, subst, arith}
use Rattle.std.proofs.lemmas.Result.{IfOk-weaker}
use Rattle.seg_tree.specs.Trees.{run_maybe, split}
use Rattle.seg_tree.specs.Measures.{IsBalancedMaybe, uses, uses_maybe}
use Rattle.seg_tree.specs.Table.{tree}
use Rattle.seg_tree.specs.Drafts.{maybe_tree}
use Rattle.seg_tree.proofs.Splices.{run_front, run_back}
use Rattle.seg_tree.proofs.Runs.{front_length, back_length}
use Rattle.seg_tree.proofs.Uses.{uses-split}
use Rattle.seg_tree.proofs.Fresh.{balanced-split}
use Rattle.seg_tree.proofs.Results.{front_run, back_run, front_balanced, back_balanced, passes_pair}
use Rattle.seg_tree.proofs.nodes.Nodes.split.Goals as goal

pub add_pair-requires-clause-front_balanced : goal.add_pair-requires-clause-front_balanced
add_pair-requires-clause-front_balanced c =
    let t = tree c.args.self.now c.args.root in
    let same_front : maybe_tree c.args.self.now c.in_ok-front.front ≡ (split t c.args.at).0 = cc (c.in_ok-front.ensures.0.0, c.draft-draft.ensures.draft.0) in
    let cut = balanced-split t c.args.at c.draft-draft.ensures.whole.balanced c.requires.within in
    subst IsBalancedMaybe (sym same_front) cut.0

pub add_pair-requires-clause-front_short : goal.add_pair-requires-clause-front_short
add_pair-requires-clause-front_short c =
    let t = tree c.args.self.now c.args.root in
    let same_front : maybe_tree c.args.self.now c.in_ok-front.front ≡ (split t c.args.at).0 = cc (c.in_ok-front.ensures.0.0, c.draft-draft.ensures.draft.0) in
    omega (arith, ap (λ x. length (run_maybe x)) same_front, front_length t c.args.at c.requires.within, c.requires.within, c.draft-draft.ensures.whole.short)

pub add_pair-requires-clause-back_balanced : goal.add_pair-requires-clause-back_balanced
add_pair-requires-clause-back_balanced c =
    let t = tree c.args.self.now c.args.root in
    let same_back : maybe_tree c.args.self.now c.in_ok-front.back ≡ (split t c.args.at).1 = cc (c.in_ok-front.ensures.1.0, c.draft-draft.ensures.draft.0) in
    let cut = balanced-split t c.args.at c.draft-draft.ensures.whole.balanced c.requires.within in
    subst IsBalancedMaybe (sym same_back) cut.1

pub add_pair-requires-clause-back_short : goal.add_pair-requires-clause-back_short
add_pair-requires-clause-back_short c =
    let t = tree c.args.self.now c.args.root in
    let same_back : maybe_tree c.args.self.now c.in_ok-front.back ≡ (split t c.args.at).1 = cc (c.in_ok-front.ensures.1.0, c.draft-draft.ensures.draft.0) in
    omega (arith, ap (λ x. length (run_maybe x)) same_back, back_length t c.args.at c.requires.within, c.draft-draft.ensures.whole.short)

pub returns-clause-front : goal.returns-clause-front
returns-clause-front c =
    let t = tree c.args.self.now c.args.root in
    let same_front : maybe_tree c.args.self.now c.in_ok-front.front ≡ (split t c.args.at).0 = cc (c.in_ok-front.ensures.0.0, c.draft-draft.ensures.draft.0) in
    IfOk-weaker c.add_pair.result _ _ (λ r p. front_run c.args.self.now c.add_pair.new.self _ r p ∙ ap run_maybe same_front ∙ run_front (Some t) c.args.at c.requires.within) c.add_pair.ensures.tree

pub returns-clause-back : goal.returns-clause-back
returns-clause-back c =
    let t = tree c.args.self.now c.args.root in
    let same_back : maybe_tree c.args.self.now c.in_ok-front.back ≡ (split t c.args.at).1 = cc (c.in_ok-front.ensures.1.0, c.draft-draft.ensures.draft.0) in
    IfOk-weaker c.add_pair.result _ _ (λ r p. back_run c.args.self.now c.add_pair.new.self _ r p ∙ ap run_maybe same_back ∙ run_back (Some t) c.args.at c.requires.within) c.add_pair.ensures.tree

pub returns-clause-balanced : goal.returns-clause-balanced
returns-clause-balanced c =
    let t = tree c.args.self.now c.args.root in
    let same_front : maybe_tree c.args.self.now c.in_ok-front.front ≡ (split t c.args.at).0 = cc (c.in_ok-front.ensures.0.0, c.draft-draft.ensures.draft.0) in
    let same_back : maybe_tree c.args.self.now c.in_ok-front.back ≡ (split t c.args.at).1 = cc (c.in_ok-front.ensures.1.0, c.draft-draft.ensures.draft.0) in
    let cut = balanced-split t c.args.at c.draft-draft.ensures.whole.balanced c.requires.within in
    IfOk-weaker c.add_pair.result _ _ (λ r p. (front_balanced c.args.self.now c.add_pair.new.self _ r p (subst IsBalancedMaybe (sym same_front) cut.0), back_balanced c.args.self.now c.add_pair.new.self _ r p (subst IsBalancedMaybe (sym same_back) cut.1))) c.add_pair.ensures.tree

pub returns-clause-nodes : goal.returns-clause-nodes
returns-clause-nodes c =
    let t = tree c.args.self.now c.args.root in
    let same_front : maybe_tree c.args.self.now c.in_ok-front.front ≡ (split t c.args.at).0 = cc (c.in_ok-front.ensures.0.0, c.draft-draft.ensures.draft.0) in
    let same_back : maybe_tree c.args.self.now c.in_ok-front.back ≡ (split t c.args.at).1 = cc (c.in_ok-front.ensures.1.0, c.draft-draft.ensures.draft.0) in
    IfOk-weaker c.add_pair.result _ _ (λ r p. passes_pair c.args.self.now c.add_pair.new.self _ r p (λ k. uses k t)
    (λ k. omega (arith, ap (uses_maybe k) same_front, ap (uses_maybe k) same_back, uses-split k t c.args.at))
    (λ k past. c.draft-draft.ensures.whole.below k (omega (arith, c.requires.there)))) c.add_pair.ensures.tree
