use Rattle.std.proofs.Common.{◌≤◌}
use Rattle.ps_normal.specs.Keeping.{IsTable}
use Rattle.ps_normal.proofs.Taking.{Tour}
use Rattle.ps_normal.proofs.takings.take_items.Given as goal

abbrev pub invariant-items : goal.invariant-items
invariant-items g l =
    record {
      tour : Tour l.fn.n l.item-items l.item-index l.at l.held l.moves.items;
      table : IsTable l.fn.n l.work.leaves.items;
      never_falls : g.S.Stop.yeses l.fn.stop ≤ g.S.Stop.yeses l.stop;
    }
