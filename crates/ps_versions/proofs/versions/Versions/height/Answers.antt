use Rattle.std.proofs.Common.{◌≡◌, ◌≤◌, subst, arith, length, List, ℕ}
use Rattle.seg_tree.specs.Trees.{Tree, run}
use Rattle.seg_tree.specs.Measures.{leaves}
use Rattle.seg_tree.specs.Table.{tree}
use Rattle.ps_versions.specs.Questions.{segments}
use Rattle.ps_versions.proofs.Counting.{count_segments}
use Rattle.ps_versions.proofs.Heights.{low_of}
use Rattle.ps_versions.proofs.versions.Versions.height.Goals as goal

pub returns-clause-few : goal.returns-clause-few
returns-clause-few g c =
    let ts = c.nodes-nodes.result.now in
    let k = c.args.node in
    let same : ts ≡ c.args.self.now.nodes = c.nodes-nodes.ensures.nodes in
    let below : length (run (tree ts k)) ≤ 65536 = omega (arith, c.len.ensures.value, c.len.ensures.short) in
    let filled : leaves (tree ts k) ≤ length (run (tree ts k)) = c.height.ensures.filled in
    subst (λ (xs : List (Tree ℕ)). length (segments (tree xs k)) ≤ 131072) same (omega (arith, count_segments (tree ts k), below, filled))

pub returns-clause-low : goal.returns-clause-low
returns-clause-low g c =
    let ts = c.nodes-nodes.result.now in
    let k = c.args.node in
    let below : length (run (tree ts k)) ≤ 65536 = omega (arith, c.len.ensures.value, c.len.ensures.short) in
    low_of c.height.result (leaves (tree ts k)) c.height.ensures.bound (omega (arith, c.height.ensures.filled, below))
