use Rattle.std.proofs.Common.{◌≡◌, ◌++◌, map, take}
use Rattle.ps_reach.specs.Runs.{prims_of}
use Rattle.ps_views.specs.Views.{items_in, run_of_leaf}
use Rattle.ps_book.proofs.service.Service.append_leaf.Given as goal

abbrev pub invariant-loop-number : goal.invariant-loop-number
invariant-loop-number l =
    map prims_of l.out.items ≡ map prims_of l.fn.out.items ++ run_of_leaf (items_in l.fn.self.items.items) (take l.number-index l.fn.numbers)
