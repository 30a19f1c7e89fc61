use Rattle.qasm_expand.specs.Blocks.{known_with}
use Rattle.qasm_expand.proofs.Taking.{walked_more, walked_end, walked_fault}
use Rattle.qasm_expand.proofs.blocks.expand.Goals as goal

pub returns-in-Err-clause-expanded : goal.returns-in-Err-clause-expanded
returns-in-Err-clause-expanded c =
    walked_fault c.args.bytes.now (known_with c.args.table.now c.args.items.now) (known_with c.args.table.now c.loop-statement.items) (known_with c.args.table.now c.take.new.items) c.args.statements.now c.statement-item.result
    c.loop-statement.statement-index c.in-Err.fault c.loop-statement.invariant.walked c.loop-statement-test.true c.statement-item.is c.in-Err.ensures.taken

pub loop-statement-preserved : goal.loop-statement-preserved
loop-statement-preserved c = record {
  walked = walked_more c.args.bytes.now (known_with c.args.table.now c.args.items.now) (known_with c.args.table.now c.loop-statement.items) (known_with c.args.table.now c.take.new.items) c.args.statements.now c.statement-item.result
      c.loop-statement.statement-index c.loop-statement.invariant.walked c.loop-statement-test.true c.statement-item.is c.in-Ok.ensures.taken;
  sound = c.in-Ok.ensures.sound;
  ready = c.in-Ok.ensures.ready;
}

pub returns-clause-expanded : goal.returns-clause-expanded
returns-clause-expanded c =
    walked_end c.args.bytes.now (known_with c.args.table.now c.args.items.now) (known_with c.args.table.now c.loop-statement.items) c.args.statements.now c.loop-statement.statement-index c.loop-statement.invariant.walked c.loop-statement-test.false
