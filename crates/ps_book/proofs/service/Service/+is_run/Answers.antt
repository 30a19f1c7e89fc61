use Rattle.std.proofs.Common.{◌≡◌, ◌-◌, Some, map, take, drop, length, sym, ap, ◌∙◌, subst}
use Rattle.std.proofs.lemmas.Bool.{false≢true}
use Rattle.std.proofs.lemmas.List.{take_rest}
use Rattle.seg_tree.specs.Trees.{branch, run}
use Rattle.seg_tree.specs.Table.{tree}
use Rattle.ps_reach.specs.Runs.{prims_of}
use Rattle.ps_views.specs.Views.{items_in, run_at}
use Rattle.ps_book.proofs.ItemRuns.{both_runs, front_run, back_run}
use Rattle.ps_book.proofs.service.Service.+is_run.Goals as goal

pub returns-then-is_run : goal.returns-then-is_run
returns-then-is_run t c =
    let ts = c.args.self.now.versions.nodes in
    let items = items_in c.args.self.now.items.items in
    let xs = c.args.items.now in
    let k = c.args.node in
    let l = c.in-Branch.left in
    let r = c.in-Branch.right in
    let n = c.len-front.result in
    let e : tree ts k ≡ branch (Some k) (tree ts l) (tree ts r) =
    subst (λ us. tree us k ≡ branch (Some k) (tree us l) (tree us r)) c.nodes.ensures.nodes c.in-Branch.ensures.0 in
    let len : n ≡ length (run (tree ts l)) = c.len-front.ensures.value ∙ ap (λ us. length (run (tree us l))) c.nodes-in-Branch.ensures.nodes in
    let rest : take (length xs - n) (drop n xs) ≡ drop n xs = take_rest xs n in
    let front : map prims_of (take n xs) ≡ run_at items ts l = c.is_run.ensures.0 c.if-is_run.true in (
      λ h. both_runs items ts k l r n xs e front (ap (map prims_of) (sym rest) ∙ c.is_run-then-is_run.ensures.0 h),
      λ h. c.is_run-then-is_run.ensures.1 (ap (map prims_of) rest ∙ back_run items ts k l r n xs e len h),
    )

pub returns-else-is_run : goal.returns-else-is_run
returns-else-is_run t c =
    let ts = c.args.self.now.versions.nodes in
    let items = items_in c.args.self.now.items.items in
    let k = c.args.node in
    let l = c.in-Branch.left in
    let r = c.in-Branch.right in
    let n = c.len-front.result in
    let e : tree ts k ≡ branch (Some k) (tree ts l) (tree ts r) =
    subst (λ us. tree us k ≡ branch (Some k) (tree us l) (tree us r)) c.nodes.ensures.nodes c.in-Branch.ensures.0 in
    let len : n ≡ length (run (tree ts l)) = c.len-front.ensures.value ∙ ap (λ us. length (run (tree us l))) c.nodes-in-Branch.ensures.nodes in (
      λ h. absurd (false≢true (sym c.if-is_run.false ∙ h)),
      λ h. c.is_run.ensures.1 (front_run items ts k l r n c.args.items.now e len h),
    )
