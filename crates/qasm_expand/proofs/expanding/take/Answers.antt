use Rattle.qasm_expand.specs.Targets.{targets_of}
use Rattle.qasm_expand.proofs.Taking.{sound_within, applied_again, passed, take_include, take_quantum, take_classical, take_gate, take_apply, take_barrier}
use Rattle.qasm_expand.proofs.Expansions.{kept_anyhow}
use Rattle.qasm_expand.proofs.expanding.take.Goals as goal

pub returns-in-Include-clause-taken : goal.returns-in-Include-clause-taken
returns-in-Include-clause-taken c = take_include c.args.bytes.now c.args.state.now c.include.new.state c.args.statement.now c.include.result c.in-Include.field-0 c.in-Include.is c.include.ensures.included

pub returns-in-Qreg-clause-taken : goal.returns-in-Qreg-clause-taken
returns-in-Qreg-clause-taken c = take_quantum c.args.bytes.now c.args.state.now c.declare.new.state c.args.statement.now c.declare.result c.in-Qreg.name c.in-Qreg.size c.in-Qreg.is c.declare.ensures.declared

pub returns-in-Creg-clause-taken : goal.returns-in-Creg-clause-taken
returns-in-Creg-clause-taken c = take_classical c.args.bytes.now c.args.state.now c.declare-in-Creg.new.state c.args.statement.now c.declare-in-Creg.result c.in-Creg.name c.in-Creg.size c.in-Creg.is c.declare-in-Creg.ensures.declared

pub returns-in-Gate-clause-taken : goal.returns-in-Gate-clause-taken
returns-in-Gate-clause-taken c = take_gate c.args.bytes.now c.args.state.now c.definition.new.state c.args.statement.now c.definition.result c.in-Gate.name c.in-Gate.params c.in-Gate.args c.items.result.now c.items-in-Gate.result.now c.in-Gate.body c.items-in-Gate-2.result.now
    c.in-Gate.is c.items.ensures c.items-in-Gate.ensures c.items-in-Gate-2.ensures c.definition.ensures.defined

pub apply-requires-clause-sound : goal.apply-requires-clause-sound
apply-requires-clause-sound c = sound_within c.args.state.now c.requires.sound

pub returns-in-Apply-clause-taken : goal.returns-in-Apply-clause-taken
returns-in-Apply-clause-taken c = take_apply c.args.bytes.now c.args.state.now _ c.args.statement.now c.apply.result c.in-Apply.call c.in-Apply.is (applied_again c.args.bytes.now c.args.state.now c.apply.new.items c.in-Apply.call c.apply.result c.apply.ensures.applies)

pub returns-in-Barrier-clause-taken : goal.returns-in-Barrier-clause-taken
returns-in-Barrier-clause-taken c = take_barrier c.args.bytes.now c.args.state.now c.args.state.now c.args.statement.now c.barrier.result c.in-Barrier.args c.items-in-Barrier.result.now c.in-Barrier.is c.items-in-Barrier.ensures
    (passed c.args.state.now (targets_of c.args.bytes.now c.args.state.now.registers c.items-in-Barrier.result.now) c.barrier.result c.barrier.ensures)

pub returns-in-Include-clause-ready : goal.returns-in-Include-clause-ready
returns-in-Include-clause-ready c = kept_anyhow c.include.result _ (c.clear.ensures c.include.new.state.defs)

pub returns-in-Qreg-clause-ready : goal.returns-in-Qreg-clause-ready
returns-in-Qreg-clause-ready c = kept_anyhow c.declare.result _ (c.clear-in-Qreg.ensures c.declare.new.state.defs)

pub returns-in-Creg-clause-ready : goal.returns-in-Creg-clause-ready
returns-in-Creg-clause-ready c = kept_anyhow c.declare-in-Creg.result _ (c.clear-in-Creg.ensures c.declare-in-Creg.new.state.defs)

pub returns-in-Gate-clause-ready : goal.returns-in-Gate-clause-ready
returns-in-Gate-clause-ready c = kept_anyhow c.definition.result _ (c.clear-in-Gate.ensures c.definition.new.state.defs)
