use Rattle.std.proofs.Common.{◌∙◌, sym, ap, subst, length}
use Rattle.std.specs.Prelude.{All}
use Rattle.qasm_expand.specs.Tables.{qubit_count}
use Rattle.qasm_expand.specs.Aims.{Fits}
use Rattle.qasm_expand.proofs.Aiming.{few_qubits}
use Rattle.qasm_expand.proofs.Aimed.{targets_fit, fits_more}
use Rattle.qasm_expand.proofs.targets.aim.Goals as goal

pub count-requires-clause-same : goal.count-requires-clause-same
count-requires-clause-same c =
    let f = targets_fit c.args.bytes.now c.args.registers.now c.items-args.result.now c.in_ok-targets.targets c.requires.qubits (sym c.in_ok-targets.ensures) in
    ap length c.as_slice.ensures ∙ f.same

pub count-requires-clause-within : goal.count-requires-clause-within
count-requires-clause-within c =
    let f = targets_fit c.args.bytes.now c.args.registers.now c.items-args.result.now c.in_ok-targets.targets c.requires.qubits (sym c.in_ok-targets.ensures) in
    subst (All (Fits 64)) (sym c.as_slice.ensures) (fits_more (qubit_count c.args.registers.now) 64 c.in_ok-targets.targets (few_qubits c.args.registers.now c.requires.qubits) f.fit)
