use Rattle.std.proofs.Common.{◌+◌, sym}
use Rattle.qasm_parse.specs.declared.whence.Bits.TheVariants.{Quantum, Classical}
use Rattle.qasm_parse.specs.Statements.{IsDeclaration, IsRegister, made, quantum, classical}
use Rattle.qasm_parse.proofs.Passing.{told_weaker}
use Rattle.qasm_parse.proofs.declarations.declaration.Goals as goal

pub returns-in-Qreg-clause-reads : goal.returns-in-Qreg-clause-reads
returns-in-Qreg-clause-reads c =
    let bytes = c.args.bytes.now in let tk = c.args.tokens.now in let ts = c.args.sorts.now in
    told_weaker (IsRegister tk ts (made Quantum) (c.args.at + 1)) (IsDeclaration bytes tk ts c.args.at) c.register.result (λ r h. quantum (sym c.in-Qreg.ensures.value) h) c.register.ensures.reads

pub returns-in-Creg-clause-reads : goal.returns-in-Creg-clause-reads
returns-in-Creg-clause-reads c =
    let bytes = c.args.bytes.now in let tk = c.args.tokens.now in let ts = c.args.sorts.now in
    told_weaker (IsRegister tk ts (made Classical) (c.args.at + 1)) (IsDeclaration bytes tk ts c.args.at) c.register-in-Creg.result (λ r h. classical (sym c.in-Creg.ensures.value) h) c.register-in-Creg.ensures.reads
