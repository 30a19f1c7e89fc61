use Rattle.qasm_expand.proofs.Libraries.{no_gate, gate_defined}
use Rattle.qasm_expand.proofs.including.define_one.Goals as goal

pub returns-in-Gate-clause-defined : goal.returns-in-Gate-clause-defined
returns-in-Gate-clause-defined c = gate_defined c.args.bytes.now (record { defs = c.args.defs.now; bound = c.args.bound.now }) (record { defs = c.define.new.defs; bound = c.define.new.bound }) c.args.statement.now
    c.in-Gate.name c.in-Gate.params c.in-Gate.args c.items.result.now c.items-in-Gate.result.now c.in-Gate.body c.items-in-Gate-2.result.now c.define.result c.in-Gate.is c.items.ensures c.items-in-Gate.ensures c.items-in-Gate-2.ensures c.define.ensures.became

pub returns-in_default : goal.returns-in_default
returns-in_default c = record { defined = no_gate c.args.bytes.now (record { defs = c.args.defs.now; bound = c.args.bound.now }) c.args.statement.now c.in_default.not-Gate; gates = c.requires.gates; names = c.requires.names }
