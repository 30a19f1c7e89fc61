use Rattle.std.proofs.Common.{◌≡◌, ◌≤◌, ◌*◌, length}
use Rattle.pathsum.proofs.Verdicts.{prims_to}
use Rattle.pathsum.proofs.verdict.prims.Given as goal

abbrev pub invariant-loop-item : goal.invariant-loop-item
invariant-loop-item l = record {
  run : l.prims.items ≡ prims_to l.item-items l.item-index;
  few : length l.prims.items ≤ 4096 * l.item-index;
}
