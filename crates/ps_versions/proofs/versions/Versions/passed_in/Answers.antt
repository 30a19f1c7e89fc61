use Rattle.std.proofs.Common.{◌≡◌, sym, ap, ◌∙◌, subst, None}
use Rattle.seg_tree.specs.Table.{tree}
use Rattle.ps_versions.specs.Questions.{has_passed, first_named, segments}
use Rattle.ps_versions.proofs.Filling.{none_passed}
use Rattle.ps_versions.proofs.Pruning.{none_anywhere}
use Rattle.ps_versions.specs.Views.{kept_of}
use Rattle.ps_versions.proofs.versions.Versions.passed_in.Goals as goal

pub returns-then-self-eq0 : goal.returns-then-self-eq0
returns-then-self-eq0 g c =
    let passed = g.R.Kept.passed in
    subst (λ h. None ≡ first_named (has_passed h.kept passed) (segments (tree h.nodes c.args.node))) c.self.view_is
    (none_anywhere (kept_of c.self.inside.records.items) passed (λ k. none_passed passed (kept_of c.self.inside.records.items) k (sym c.self.invariant.counted ∙ c.if-self-eq0.true)) (segments (tree c.self.inside.nodes c.args.node)))
