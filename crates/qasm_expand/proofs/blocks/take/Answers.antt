use Rattle.qasm_expand.specs.Targets.{targets_of}
use Rattle.qasm_expand.specs.Blocks.{known_with}
use Rattle.qasm_expand.proofs.Taking.{passed, take_apply, take_barrier}
use Rattle.qasm_expand.proofs.blocks.take.Goals as goal

pub returns-in-Apply-clause-taken : goal.returns-in-Apply-clause-taken
returns-in-Apply-clause-taken c =
    take_apply c.args.bytes.now (known_with c.args.table.now c.args.items.now) (known_with c.args.table.now c.apply.new.items) c.args.statement.now c.apply.result c.in-Apply.call c.in-Apply.is c.apply.ensures.applies

pub returns-in-Barrier-clause-taken : goal.returns-in-Barrier-clause-taken
returns-in-Barrier-clause-taken c =
    let st = known_with c.args.table.now c.args.items.now in
    take_barrier c.args.bytes.now st st c.args.statement.now c.barrier.result c.in-Barrier.args c.items.result.now c.in-Barrier.is c.items.ensures
    (passed st (targets_of c.args.bytes.now c.args.table.now.registers c.items.result.now) c.barrier.result c.barrier.ensures)
