use Rattle.std.proofs.Common.{subst, sym, Ok, Err}
use Rattle.qasm_expand.specs.Library.{TextIs}
use Rattle.qasm_expand.specs.Circuits.{ReadsText}
use Rattle.qasm_expand.proofs.OneText.{one_text}
use Rattle.qasm_expand.proofs.Texts.{circuit_misread, circuit_faulty, circuit_ended, circuit_only}
use Rattle.qasm_expand.proofs.FaultPlaces.{circuit_placed}
use Rattle.qasm_expand.proofs.circuits.circuit.Goals as goal

pub returns-in-Err-clause-reads : goal.returns-in-Err-clause-reads
returns-in-Err-clause-reads c = circuit_misread c.args.text.now c.in-Err.fault c.in-Err.ensures.reads

pub returns-in-Err-clause-only : goal.returns-in-Err-clause-only
returns-in-Err-clause-only c = circuit_only (Err c.in-Err.fault) (ReadsText c.args.text.now) (one_text c.args.text.now) (circuit_misread c.args.text.now c.in-Err.fault c.in-Err.ensures.reads)

pub returns-in-Ok-expand-clause-reads : goal.returns-in-Ok-expand-clause-reads
returns-in-Ok-expand-clause-reads c =
    let h : TextIs c.args.text.now (Ok c.statements.result.now) = subst (λ z. TextIs c.args.text.now (Ok z)) (sym c.statements.ensures) c.in-Ok.ensures.reads in
    circuit_ended c.args.text.now c.statements.result.now c.nothing-state.result c.expand.new.state c.ended.result h c.nothing-state.ensures.value c.in-Ok-expand.ensures.expanded c.ended.ensures

pub returns-in-Ok-expand-clause-only : goal.returns-in-Ok-expand-clause-only
returns-in-Ok-expand-clause-only c =
    let h : TextIs c.args.text.now (Ok c.statements.result.now) = subst (λ z. TextIs c.args.text.now (Ok z)) (sym c.statements.ensures) c.in-Ok.ensures.reads in
    circuit_only c.ended.result (ReadsText c.args.text.now) (one_text c.args.text.now) (circuit_ended c.args.text.now c.statements.result.now c.nothing-state.result c.expand.new.state c.ended.result h c.nothing-state.ensures.value c.in-Ok-expand.ensures.expanded c.ended.ensures)

pub returns-clause-reads : goal.returns-clause-reads
returns-clause-reads c =
    let h : TextIs c.args.text.now (Ok c.statements.result.now) = subst (λ z. TextIs c.args.text.now (Ok z)) (sym c.statements.ensures) c.in-Ok.ensures.reads in
    circuit_faulty c.args.text.now c.statements.result.now c.nothing-state.result c.expand.new.state c.in-Err-expand.fault h c.nothing-state.ensures.value c.in-Err-expand.ensures.expanded

pub returns-clause-only : goal.returns-clause-only
returns-clause-only c =
    let h : TextIs c.args.text.now (Ok c.statements.result.now) = subst (λ z. TextIs c.args.text.now (Ok z)) (sym c.statements.ensures) c.in-Ok.ensures.reads in
    circuit_only (Err c.in-Err-expand.fault) (ReadsText c.args.text.now) (one_text c.args.text.now) (circuit_faulty c.args.text.now c.statements.result.now c.nothing-state.result c.expand.new.state c.in-Err-expand.fault h c.nothing-state.ensures.value c.in-Err-expand.ensures.expanded)

pub returns-in-Err-clause-placed : goal.returns-in-Err-clause-placed
returns-in-Err-clause-placed c = circuit_placed c.args.text.now (Err c.in-Err.fault) (returns-in-Err-clause-reads c)

pub returns-in-Ok-expand-clause-placed : goal.returns-in-Ok-expand-clause-placed
returns-in-Ok-expand-clause-placed c = circuit_placed c.args.text.now c.ended.result (returns-in-Ok-expand-clause-reads c)

pub returns-clause-placed : goal.returns-clause-placed
returns-clause-placed c = circuit_placed c.args.text.now (Err c.in-Err-expand.fault) (returns-clause-reads c)
