use Rattle.std.proofs.Common.{◌≡◌, ◌++◌, ◌-◌}
use Rattle.ps_gen.specs.Draws.{applications}
use Rattle.ps_gen.proofs.draws.applications.Given as goal

abbrev pub invariant-loop-i : goal.invariant-loop-i
invariant-loop-i l = l.list.items ++ applications l.fn.qubits (l.fn.items - l._i) l.draws.last ≡ applications l.fn.qubits l.fn.items l.fn.seed
