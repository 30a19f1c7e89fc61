use Rattle.seg_tree.specs.Trees.{height}
use Rattle.seg_tree.specs.Table.{tree}
use Rattle.ps_book.proofs.service.Service.+append.Given as goal

abbrev pub decreases-append : goal.decreases-append
decreases-append l = height (tree l.self.now.versions.nodes l.node)
