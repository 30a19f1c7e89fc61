use Rattle.std.proofs.Common.{Some, None, ◌≡◌, false, true, sym, ap, ◌∙◌}
use Rattle.seg_tree.specs.Table.{tree}
use Rattle.seg_tree.specs.Trees.{name_of}
use Rattle.ps_versions.specs.Questions.{has_passed, first_of, first_named, segments, lacks}
use Rattle.ps_versions.proofs.Pruning.{first_passed_here, first_passed_branch, or_else}
use Rattle.ps_versions.proofs.versions.Versions.+passed_at.Goals as goal

pub returns-then-has_passed : goal.returns-then-has_passed
returns-then-has_passed g t c =
    let kept = c.args.self.now.kept in
    let passed = g.R.Kept.passed in
    let s = tree c.args.self.now.nodes c.args.node in
    sym (first_passed_here kept passed s (c.lacks.ensures.below c.if-not-lacks.true)
    ∙ ap (λ b. first_of b (name_of s) None) (sym c.has_passed.ensures ∙ c.if-has_passed.true)
    ∙ ap (λ n. first_of true n None) c.lacks.ensures.named)

pub returns-else-has_passed : goal.returns-else-has_passed
returns-else-has_passed g t c =
    let kept = c.args.self.now.kept in
    let passed = g.R.Kept.passed in
    let s = tree c.args.self.now.nodes c.args.node in
    sym (first_passed_here kept passed s (c.lacks.ensures.below c.if-not-lacks.true) ∙ ap (λ b. first_of b (name_of s) None) (sym c.has_passed.ensures ∙ c.if-has_passed.false))

pub returns-in-Some : goal.returns-in-Some
returns-in-Some g t c =
    let kept = c.args.self.now.kept in
    let passed = g.R.Kept.passed in
    let ts = c.args.self.now.nodes in
    let lacking : lacks kept (tree ts c.args.node) ≡ true = sym c.lacks.ensures.value ∙ c.if-not-lacks.false in
    sym (first_passed_branch kept passed (tree ts c.args.node) (Some c.args.node) (tree ts c.in-Branch.left) (tree ts c.in-Branch.right) c.in-Branch.ensures.0 lacking
    ∙ ap (λ o. or_else (has_passed kept passed) o (first_named (has_passed kept passed) (segments (tree ts c.in-Branch.right)))) (sym c.passed_at.ensures ∙ c.in-Some.is))

pub returns-in-None : goal.returns-in-None
returns-in-None g t c =
    let kept = c.args.self.now.kept in
    let passed = g.R.Kept.passed in
    let ts = c.args.self.now.nodes in
    let lacking : lacks kept (tree ts c.args.node) ≡ true = sym c.lacks.ensures.value ∙ c.if-not-lacks.false in
    c.passed_at-in-None.ensures
    ∙ sym (first_passed_branch kept passed (tree ts c.args.node) (Some c.args.node) (tree ts c.in-Branch.left) (tree ts c.in-Branch.right) c.in-Branch.ensures.0 lacking
    ∙ ap (λ o. or_else (has_passed kept passed) o (first_named (has_passed kept passed) (segments (tree ts c.in-Branch.right)))) (sym c.passed_at.ensures ∙ c.in-None.is))
