use Rattle.qasm_expand.proofs.Libraries.{defining_more, defining_end, defining_fault}
use Rattle.qasm_expand.proofs.including.define_all.Goals as goal

pub returns-in-Err-clause-defined : goal.returns-in-Err-clause-defined
returns-in-Err-clause-defined c = defining_fault c.args.bytes.now (record { defs = c.args.defs.now; bound = c.args.bound.now }) (record { defs = c.loop-statement.defs; bound = c.loop-statement.bound }) (record { defs = c.define_one.new.defs; bound = c.define_one.new.bound })
    c.args.statements.now c.statement-item.result c.loop-statement.statement-index c.in-Err.fault c.loop-statement.invariant.defining c.loop-statement-test.true c.statement-item.is c.in-Err.ensures.defined

pub loop-statement-preserved : goal.loop-statement-preserved
loop-statement-preserved c = record {
  defining = defining_more c.args.bytes.now (record { defs = c.args.defs.now; bound = c.args.bound.now }) (record { defs = c.loop-statement.defs; bound = c.loop-statement.bound }) (record { defs = c.define_one.new.defs; bound = c.define_one.new.bound })
      c.args.statements.now c.statement-item.result c.loop-statement.statement-index c.loop-statement.invariant.defining c.loop-statement-test.true c.statement-item.is c.in-Ok.ensures.defined;
  gates = c.in-Ok.ensures.gates;
  names = c.in-Ok.ensures.names;
}

pub returns-clause-defined : goal.returns-clause-defined
returns-clause-defined c = defining_end c.args.bytes.now (record { defs = c.args.defs.now; bound = c.args.bound.now }) (record { defs = c.loop-statement.defs; bound = c.loop-statement.bound }) c.args.statements.now c.loop-statement.statement-index
    c.loop-statement.invariant.defining c.loop-statement-test.false
