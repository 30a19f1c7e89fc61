use Rattle.qasm_expand.specs.Reading.{circuit_in}
use Rattle.ps_book.specs.Services.{fields_of}
use Rattle.ps_book.proofs.OpenedCircuits.{opened_leaves}
use Rattle.ps_book.proofs.service.Service.open_read.Goals as goal

pub returns-in-Ok-clause-leaves : goal.returns-in-Ok-clause-leaves
returns-in-Ok-clause-leaves c =
    let s = c.args.self.now in
    λ t so. opened_leaves (fields_of s) s.sound c.args.name (circuit_in c.args.circuit) c.args.number c.requires.new c.args.circuit.width t (fields_of c.add_circuit.new.self) c.missing_of-missing.result so
    c.in-Ok.ensures.added c.missing_of-missing.ensures
