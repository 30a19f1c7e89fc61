use Rattle.qasm_expand.specs.Reading.{circuit_in}
use Rattle.pathsum.proofs.Judging.{texts_of, first_told, second_told, fault_read}
use Rattle.pathsum.proofs.reading.read_texts.Goals as goal

pub returns-in-Ok-circuit-clause-read : goal.returns-in-Ok-circuit-clause-read
returns-in-Ok-circuit-clause-read c = texts_of c.args.first.now c.args.second.now c.args.start (circuit_in c.in-Ok.before) (circuit_in c.in-Ok-circuit.behind) _ (record { reads = c.in-Ok.ensures.reads; only = c.in-Ok.ensures.only }) (record { reads = c.in-Ok-circuit.ensures.reads; only = c.in-Ok-circuit.ensures.only }) c.both.ensures.given

pub returns-in-Err-Fault-circuit-clause-read : goal.returns-in-Err-Fault-circuit-clause-read
returns-in-Err-Fault-circuit-clause-read c = second_told c.args.first.now c.args.second.now c.args.start (circuit_in c.in-Ok.before) c.in-Err-Fault-circuit.name c.in-Err-Fault-circuit.offset _ (record { reads = c.in-Ok.ensures.reads; only = c.in-Ok.ensures.only }) (fault_read c.args.second.now _ c.in-Err-Fault-circuit.name c.in-Err-Fault-circuit.offset c.in-Err-Fault-circuit.field-0-is c.in-Err-Fault-circuit.ensures.reads c.in-Err-Fault-circuit.ensures.only) c.refused.ensures.given

pub returns-in-Err-Fault-clause-read : goal.returns-in-Err-Fault-clause-read
returns-in-Err-Fault-clause-read c = first_told c.args.first.now c.args.second.now c.args.start c.in-Err-Fault.name c.in-Err-Fault.offset _ (fault_read c.args.first.now _ c.in-Err-Fault.name c.in-Err-Fault.offset c.in-Err-Fault.field-0-is c.in-Err-Fault.ensures.reads c.in-Err-Fault.ensures.only) (rw c.in-Err-Fault.field-0-is at c.refused-in-Err-Fault.ensures.given)
