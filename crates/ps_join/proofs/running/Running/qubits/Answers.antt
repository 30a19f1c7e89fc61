use Rattle.std.proofs.Common.{ap}
use Rattle.ps_sum.specs.declared.sums.PathSum.{PathSum}
use Rattle.ps_join.proofs.running.Running.qubits.Goals as goal

pub returns : goal.returns
returns c = ap (λ (s : PathSum). s.n) c.self.view_is
