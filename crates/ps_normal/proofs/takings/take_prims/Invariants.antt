use Rattle.std.proofs.Common.{◌≤◌}
use Rattle.ps_normal.specs.Keeping.{IsTable}
use Rattle.ps_normal.proofs.Taking.{Walk}
use Rattle.ps_normal.proofs.takings.take_prims.Given as goal

-- the sum of the prims so far, what is kept, and that the count of yeses does not fall
abbrev pub invariant-prims : goal.invariant-prims
invariant-prims g l =
    record {
      walk : Walk l.fn.n l.fn.place l.fn.prims l.fn.held l.fn.moves.items l.prim-index l.at l.held l.moves.items;
      table : IsTable l.fn.n l.work.leaves.items;
      never_falls : g.S.Stop.yeses l.fn.stop ≤ g.S.Stop.yeses l.stop;
    }
