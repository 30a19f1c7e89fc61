use Rattle.seg_tree.specs.Trees.{height}
use Rattle.seg_tree.specs.Table.{tree}
use Rattle.ps_book.proofs.service.Service.+has_run.Given as goal

abbrev pub decreases-has_run : goal.decreases-has_run
decreases-has_run l = height (tree l.self.now.versions.nodes l.node)
