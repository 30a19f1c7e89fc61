use Rattle.std.proofs.Common.{ap, sym}
use Rattle.qasm_expand.specs.Tables.{qubit_count}
use Rattle.qasm_expand.specs.Maps.{register_with}
use Rattle.std.specs.Prelude.{map}
use Rattle.qasm_expand.proofs.registers.Registers.new.Goals as goal

pub invariant_of-result : goal.invariant_of-result
unfolding qubit_count
invariant_of-result c = sym (ap (λ es. qubit_count (map register_with es)) c.new.ensures.empty)
