use Rattle.std.proofs.Common.{refl, sym, subst}
use Rattle.qasm_lex.specs.Places.{IsPlace}
use Rattle.ps_journal.specs.declared.replies.Reply.TheVariants.{Bad}
use Rattle.ps_book.specs.Additions.{TellsFault}
use Rattle.ps_book.proofs.opening.fault_reply.Goals as goal

pub returns-in-Fault-clause-told : goal.returns-in-Fault-clause-told
returns-in-Fault-clause-told c =
    let line = c.place-line.result.0 in
    let column = c.place-line.result.1 in
    subst (λ f. TellsFault c.args.bytes.now f (Bad c.in-Fault.name line column)) (sym c.in-Fault.is)
    (record { line = line; column = column; place = subst (λ m. IsPlace c.args.bytes.now m line column) c.min.ensures c.place-line.ensures; reply = refl })
