use Rattle.std.proofs.Common.{◌≡◌, ◌≤◌, length, map}
use Rattle.ps_reach.specs.Runs.{prims_of, run_of}
use Rattle.ps_local.specs.Qubits.{IsMask}
use Rattle.ps_local.specs.Wires.{AreMasks, kept}
use Rattle.ps_local.proofs.Splitting.{IsSplitTo}
use Rattle.ps_local.proofs.fronts.split_front.Given as goal

abbrev pub invariant-loop-item : goal.invariant-loop-item
invariant-loop-item l = record {
  split : IsSplitTo (map prims_of l.first) (map prims_of l.second) l.item-index l.count (map prims_of l.stays.items) (kept l.wires.out.items (map prims_of l.second));
  masks : AreMasks l.wires.qubits.items (map prims_of l.second);
  many : length l.wires.qubits.items ≡ length l.second;
  blocked : IsMask l.blocked (run_of (map prims_of l.stays.items));
  few : l.count ≤ l.item-index;
}
