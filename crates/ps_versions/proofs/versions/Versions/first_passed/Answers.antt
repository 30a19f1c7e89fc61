use Rattle.std.proofs.Common.{◌≡◌, ℕ, Some, None, true, refl, sym, ap, ◌∙◌, subst}
use Rattle.std.specs.Prelude.{Option, IfSome}
use Rattle.seg_tree.specs.Table.{tree, root_tree}
use Rattle.ps_versions.specs.Questions.{has_passed, segments}
use Rattle.ps_versions.specs.Reached.{stands}
use Rattle.ps_versions.proofs.Pruning.{found_there, found_passed, found_stands}
use Rattle.ps_versions.proofs.versions.Versions.first_passed.Goals as goal

pub returns-in-Some-clause-there : goal.returns-in-Some-clause-there
returns-in-Some-clause-there g c = found_there c.args.self.now.kept g.R.Kept.passed (segments (tree c.args.self.now.nodes c.in-Some.root)) _ c.passed_in.result c.passed_in.ensures c.nodes.ensures.kept

pub returns-in-Some-clause-passed : goal.returns-in-Some-clause-passed
returns-in-Some-clause-passed g c = found_passed c.args.self.now.kept g.R.Kept.passed (segments (tree c.args.self.now.nodes c.in-Some.root)) c.passed_in.result c.passed_in.ensures

pub returns-in-Some-clause-segment : goal.returns-in-Some-clause-segment
returns-in-Some-clause-segment g c =
    let ts = c.args.self.now.nodes in
    subst (λ (r : Option ℕ). IfSome c.passed_in.result (λ k. stands k (root_tree ts r) ≡ true)) c.in-Some.ensures.value
    (found_stands (has_passed c.args.self.now.kept g.R.Kept.passed) None (Some (tree ts c.in-Some.root)) c.passed_in.result c.passed_in.ensures)
