use Rattle.std.proofs.Common.{Ok, Err, ap, sym, subst}
use Rattle.ps_prim.specs.declared.prims.Primitive.{Primitive as Prim}
use Rattle.qasm_expand.specs.Library.{BlockIs}
use Rattle.qasm_expand.specs.Circuits.{ReadsBlock}
use Rattle.qasm_expand.specs.Reading.{table_in}
use Rattle.qasm_expand.specs.Blocks.{known_with}
use Rattle.qasm_expand.proofs.OneText.{one_block}
use Rattle.qasm_expand.proofs.Texts.{block_misread, block_faulty, block_ended, items_only}
use Rattle.qasm_expand.proofs.FaultPlaces.{items_inside}
use Rattle.qasm_expand.proofs.blocks.items.Goals as goal

pub returns-in-Err-clause-reads : goal.returns-in-Err-clause-reads
returns-in-Err-clause-reads c = block_misread (table_in c.args.table.now) c.args.block.now c.in-Err.fault c.in-Err.ensures.reads

pub returns-in-Err-clause-only : goal.returns-in-Err-clause-only
returns-in-Err-clause-only c =
    let t = table_in c.args.table.now in
    items_only (Err c.in-Err.fault) (ReadsBlock t c.args.block.now) (one_block t c.args.block.now) (block_misread t c.args.block.now c.in-Err.fault c.in-Err.ensures.reads)

pub returns-in-Ok-expand-clause-reads : goal.returns-in-Ok-expand-clause-reads
returns-in-Ok-expand-clause-reads c =
    let h : BlockIs c.args.block.now (Ok c.statements.result.now) = subst (λ z. BlockIs c.args.block.now (Ok z)) (sym c.statements.ensures) c.in-Ok.ensures.reads in
    block_ended (table_in c.args.table.now) c.args.block.now c.statements.result.now (known_with c.args.table.now c.new-items.result) (known_with c.args.table.now c.expand.new.items) h
    (ap (λ is. known_with c.args.table.now is) c.new-items.ensures) c.in-Ok-expand.ensures.expanded

pub returns-in-Ok-expand-clause-only : goal.returns-in-Ok-expand-clause-only
returns-in-Ok-expand-clause-only c =
    let t = table_in c.args.table.now in
    let h : BlockIs c.args.block.now (Ok c.statements.result.now) = subst (λ z. BlockIs c.args.block.now (Ok z)) (sym c.statements.ensures) c.in-Ok.ensures.reads in
    items_only (Ok c.expand.new.items) (ReadsBlock t c.args.block.now) (one_block t c.args.block.now)
    (block_ended t c.args.block.now c.statements.result.now (known_with c.args.table.now c.new-items.result) (known_with c.args.table.now c.expand.new.items) h
    (ap (λ is. known_with c.args.table.now is) c.new-items.ensures) c.in-Ok-expand.ensures.expanded)

pub returns-clause-reads : goal.returns-clause-reads
returns-clause-reads c =
    let h : BlockIs c.args.block.now (Ok c.statements.result.now) = subst (λ z. BlockIs c.args.block.now (Ok z)) (sym c.statements.ensures) c.in-Ok.ensures.reads in
    block_faulty (table_in c.args.table.now) c.args.block.now c.statements.result.now (known_with c.args.table.now c.new-items.result) (known_with c.args.table.now c.expand.new.items) c.in-Err-expand.fault h
    (ap (λ is. known_with c.args.table.now is) c.new-items.ensures) c.in-Err-expand.ensures.expanded

pub returns-clause-only : goal.returns-clause-only
returns-clause-only c =
    let t = table_in c.args.table.now in
    let h : BlockIs c.args.block.now (Ok c.statements.result.now) = subst (λ z. BlockIs c.args.block.now (Ok z)) (sym c.statements.ensures) c.in-Ok.ensures.reads in
    items_only (Err c.in-Err-expand.fault) (ReadsBlock t c.args.block.now) (one_block t c.args.block.now)
    (block_faulty t c.args.block.now c.statements.result.now (known_with c.args.table.now c.new-items.result) (known_with c.args.table.now c.expand.new.items) c.in-Err-expand.fault h
    (ap (λ is. known_with c.args.table.now is) c.new-items.ensures) c.in-Err-expand.ensures.expanded)

pub returns-in-Err-clause-inside : goal.returns-in-Err-clause-inside
returns-in-Err-clause-inside c = items_inside c.args.block.now (table_in c.args.table.now) (Err c.in-Err.fault) (returns-in-Err-clause-reads c)

pub returns-clause-inside : goal.returns-clause-inside
returns-clause-inside c = items_inside c.args.block.now (table_in c.args.table.now) (Err c.in-Err-expand.fault) (returns-clause-reads c)
