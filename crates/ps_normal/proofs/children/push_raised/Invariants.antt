use Rattle.std.proofs.Common.{◌≡◌, ◌++◌, take, map}
use Rattle.ps_reach.specs.Fillings.{raised}
use Rattle.ps_normal.proofs.children.push_raised.Given as goal

abbrev pub invariant-moves : goal.invariant-moves
invariant-moves l = l.out.items ≡ l.fn.out.items ++ map (raised l.fn.by) (take l.step-index l.fn.moves)
