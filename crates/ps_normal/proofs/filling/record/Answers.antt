use mathlib.Core.Logic.{∥∥₁_elim}
use Rattle.ps_reach.specs.Runs.{run_of}
use Rattle.ps_reach.specs.Parts.{IsScaled-prop}
use Rattle.ps_normal.proofs.Recording.{right_scaled, right_kept}
use Rattle.ps_normal.proofs.filling.record.Goals as goal

pub invariant_of-result : goal.invariant_of-result
invariant_of-result c = record {
  qubits = c.requires.width;
  few = c.requires.run.few;
  within = c.requires.run.within;
  scaled = ∥∥₁_elim c.requires.right (IsScaled-prop (run_of c.args.items.value) c.args.body) (right_scaled c.args.n (run_of c.args.items.value) c.args.moves.items c.args.body);
  right = right_kept c.args.n (run_of c.args.items.value) c.args.moves.items c.from_vec.result c.args.body c.from_vec.ensures c.requires.right;
}
