use Rattle.std.proofs.Common.{◌≡◌, Some, sym, ap, subst, ◌∙◌, ℕ}
use Rattle.std.specs.Prelude.{Option, IfSome}
use Rattle.seg_tree.specs.Table.{tree, root_tree}
use Rattle.ps_versions.specs.Lookup.{version_at, root_of}
use Rattle.ps_versions.specs.Questions.{segments, segments_maybe, is_ready, first_named, behind, IsStorable, FindsStorable}
use Rattle.ps_versions.specs.Walks.{walked, outcome}
use Rattle.ps_versions.proofs.Counting.{gone}
use Rattle.ps_versions.proofs.Pruning.{found_stands}
use Rattle.ps_versions.proofs.Storing.{start_storable, found_storable}
use Rattle.ps_versions.proofs.versions.Versions.ready.Goals as goal

pub returns-in-Some-clause-value : goal.returns-in-Some-clause-value
returns-in-Some-clause-value g c =
    let ts = c.args.self.now.nodes in
    let ready = is_ready c.args.self.now.kept g.R.Kept.passed in
    let v = version_at c.args.self.now.circuits c.args.place.now.name c.args.place.now.version in
    let root : Some c.in-Some.root ≡ root_of v = c.in-Some.ensures.value in
    c.outcome.ensures
    ∙ ap outcome (c.walk.ensures.value ∙ ap (λ w. walked ready w (segments (tree ts c.in-Some.root))) c.start.ensures)
    ∙ gone ready c.args.after (segments (tree ts c.in-Some.root))
    ∙ ap (λ r. first_named ready (behind c.args.after (segments_maybe (root_tree ts r)))) root

pub returns-in-Some-clause-storable : goal.returns-in-Some-clause-storable
returns-in-Some-clause-storable g c =
    let h = c.args.self.now in
    let passed = g.R.Kept.passed in
    subst (λ (o : Option ℕ). IfSome o (IsStorable passed h)) (sym c.outcome.ensures)
    (found_storable passed h c.walk.result (c.walk.ensures.storable (subst (FindsStorable passed h) (sym c.start.ensures) (start_storable passed h c.args.after))))

pub returns-in-Some-clause-segment : goal.returns-in-Some-clause-segment
returns-in-Some-clause-segment g c =
    let ts = c.args.self.now.nodes in
    let v = version_at c.args.self.now.circuits c.args.place.now.name c.args.place.now.version in
    found_stands (is_ready c.args.self.now.kept g.R.Kept.passed) c.args.after (root_tree ts (root_of v)) c.outcome.result (returns-in-Some-clause-value g c)
