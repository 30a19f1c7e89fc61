use Rattle.std.proofs.Common.{◌≡◌, true, length, drop, reverse, Result, []}
use Rattle.qasm_angle.specs.declared.types.Pair.{Pair}
use Rattle.qasm_angle.specs.declared.types.AngleFault.{AngleFault}
use Rattle.qasm_angle.specs.Machine.{Runs, leaves_one}
use Rattle.qasm_angle.proofs.evaluation.run.Given as goal

abbrev pub invariant-loop-op : goal.invariant-loop-op
invariant-loop-op l = record {
  whole : leaves_one (drop l.op-index l.ops) (length l.stack.items) ≡ true;
  rest : (o : Result Pair AngleFault) → Runs l.params (drop l.op-index l.ops) (reverse l.stack.items) o → Runs l.params l.ops [] o;
}
