use Rattle.std.proofs.Common.{◌≡◌, ◌<◌, Some, map, length, refl, sym, ap, ◌∙◌, subst, arith}
use Rattle.std.proofs.lemmas.Bool.{false≢true}
use Rattle.std.proofs.lemmas.List.{length-map}
use Rattle.seg_tree.specs.Trees.{branch, run}
use Rattle.seg_tree.specs.Table.{tree}
use Rattle.ps_reach.specs.Runs.{prims_of}
use Rattle.ps_views.specs.Views.{items_in, run_of_leaf}
use Rattle.ps_book.specs.Runs.{HasRun}
use Rattle.ps_book.proofs.Segments.{has_here, has_few, has_left, has_right, has_side, right_side}
use Rattle.ps_book.proofs.service.Service.+has_run.Goals as goal

pub returns-then-len-items : goal.returns-then-len-items
returns-then-len-items t c =
    let ts = c.args.self.now.versions.nodes in
    let items = items_in c.args.self.now.items.items in
    let xs = c.args.items.now in
    let len : c.len.result ≡ length (run (tree ts c.args.node)) = c.len.ensures.value ∙ ap (λ us. length (run (tree us c.args.node))) c.nodes.ensures.nodes in
    let more : length (run (tree ts c.args.node)) < length (map prims_of xs) = omega (arith, c.if-len-items.true, len, length-map xs prims_of) in
    (λ e. absurd (false≢true e), λ h. absurd (has_few items (map prims_of xs) (tree ts c.args.node) more h))

pub returns-then-is_run : goal.returns-then-is_run
returns-then-is_run t c =
    let items = items_in c.args.self.now.items.items in
    (λ e. has_here items (map prims_of c.args.items.now) (tree c.args.self.now.versions.nodes c.args.node) (c.is_run.ensures.0 c.if-is_run.true), λ h. refl)

pub returns-then-has_run : goal.returns-then-has_run
returns-then-has_run t c =
    let ts = c.args.self.now.versions.nodes in
    let items = items_in c.args.self.now.items.items in
    let k = c.args.node in
    let l = c.in-Branch.left in
    let r = c.in-Branch.right in
    let e : tree ts k ≡ branch (Some k) (tree ts l) (tree ts r) =
    subst (λ us. tree us k ≡ branch (Some k) (tree us l) (tree us r)) c.nodes-2.ensures.nodes c.in-Branch.ensures.0 in
    (λ h. has_left items (map prims_of c.args.items.now) (tree ts k) (tree ts l) (tree ts r) (Some k) e (c.has_run.ensures.0 h), λ h. c.if-has_run.true)

pub returns-else-has_run : goal.returns-else-has_run
returns-else-has_run t c =
    let ts = c.args.self.now.versions.nodes in
    let items = items_in c.args.self.now.items.items in
    let those = map prims_of c.args.items.now in
    let k = c.args.node in
    let l = c.in-Branch.left in
    let r = c.in-Branch.right in
    let e : tree ts k ≡ branch (Some k) (tree ts l) (tree ts r) =
    subst (λ us. tree us k ≡ branch (Some k) (tree us l) (tree us r)) c.nodes-2.ensures.nodes c.in-Branch.ensures.0 in
    let other : those ≡ run_of_leaf items (run (tree ts k)) → ⊥ = λ q. false≢true (sym c.if-is_run.false ∙ c.is_run.ensures.1 q) in
    let left : HasRun items (tree ts l) those → ⊥ = λ x. false≢true (sym c.if-has_run.false ∙ c.has_run.ensures.1 x) in
    let side = has_side items those (tree ts k) (tree ts l) (tree ts r) (Some k) e other in (
      λ h. has_right items those (tree ts k) (tree ts l) (tree ts r) (Some k) e (c.has_run-else-has_run.ensures.0 h),
      λ h. c.has_run-else-has_run.ensures.1 (right_side items those (tree ts l) (tree ts r) left (side h)),
    )
