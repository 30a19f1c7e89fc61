use Rattle.std.proofs.Common.{◌≡◌, map, take}
use Rattle.ps_reach.specs.Runs.{prims_of}
use Rattle.ps_views.specs.Views.{items_in, run_of_leaf}
use Rattle.ps_book.proofs.service.Service.is_leaf.Given as goal

abbrev pub invariant-loop-i : goal.invariant-loop-i
invariant-loop-i l = map prims_of (take l.i l.items) ≡ run_of_leaf (items_in l.self.items.items) (take l.i l.numbers)
