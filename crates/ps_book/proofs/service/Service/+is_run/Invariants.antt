use Rattle.seg_tree.specs.Trees.{height}
use Rattle.seg_tree.specs.Table.{tree}
use Rattle.ps_book.proofs.service.Service.+is_run.Given as goal

abbrev pub decreases-is_run : goal.decreases-is_run
decreases-is_run l = height (tree l.self.now.versions.nodes l.node)
