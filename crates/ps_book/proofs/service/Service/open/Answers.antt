use Rattle.std.proofs.Common.{◌<◌, length, subst, arith}
use Rattle.std.specs.Prelude.{Ok, Err}
use Rattle.qasm_expand.specs.Circuits.{ReadsText}
use Rattle.qasm_expand.specs.Reading.{circuit_in, CircuitTold}
use Rattle.ps_versions.specs.Lookup.{circuit_at}
use Rattle.ps_views.proofs.Replies.{no_circuit_told}
use Rattle.ps_book.specs.Services.{fields_of}
use Rattle.ps_book.specs.Additions.{TellsFault}
use Rattle.ps_book.proofs.OpenedCircuits.{is_taken, is_full, is_read, is_faulty}
use Rattle.ps_book.proofs.service.Service.open.Goals as goal

pub returns-in-Some-clause-leaves : goal.returns-in-Some-clause-leaves
returns-in-Some-clause-leaves c =
    let s = c.args.self.now in
    λ t so. record { state = t; does_so = is_taken (fields_of s) t s.sound so c.args.number c.args.name c.args.text.now c.in-Some.about c.in-Some.ensures.about; stands = so }

pub returns-then-count-ge256-clause-leaves : goal.returns-then-count-ge256-clause-leaves
returns-then-count-ge256-clause-leaves c =
    let s = c.args.self.now in
    let free = no_circuit_told (circuit_at s.versions.circuits c.args.name) c.in-None.ensures.about in
    λ t so. record { state = t; does_so = is_full (fields_of s) t s.sound so c.args.number c.args.name c.args.text.now free (omega (arith, c.if-count-ge256.true, c.count.ensures.value)); stands = so }

pub returns-in-Ok-clause-leaves : goal.returns-in-Ok-clause-leaves
returns-in-Ok-clause-leaves c =
    let s = c.args.self.now in
    let free = no_circuit_told (circuit_at s.versions.circuits c.args.name) c.in-None.ensures.about in
    let few : length s.versions.circuits < 256 = omega (arith, c.if-count-ge256.false, c.count.ensures.value) in
    let reads : ReadsText c.args.text.now (Ok (circuit_in c.in-Ok.circuit)) = subst (λ b. ReadsText b (Ok (circuit_in c.in-Ok.circuit))) c.as_slice.ensures.value c.in-Ok.ensures.reads in
    λ t so.
    let l = c.open_read.ensures.leaves t so in
    record {
      state = l.state;
      does_so = is_read (fields_of s) t s.sound so c.args.number c.args.name c.args.text.now free few (circuit_in c.in-Ok.circuit) c.open_read.result l.state reads l.does_so;
      stands = l.stands;
    }

pub returns-in-Err-clause-leaves : goal.returns-in-Err-clause-leaves
returns-in-Err-clause-leaves c =
    let s = c.args.self.now in
    let free = no_circuit_told (circuit_at s.versions.circuits c.args.name) c.in-None.ensures.about in
    let few : length s.versions.circuits < 256 = omega (arith, c.if-count-ge256.false, c.count.ensures.value) in
    let reads : CircuitTold (Err c.in-Err.fault) (ReadsText c.args.text.now) = subst (λ b. CircuitTold (Err c.in-Err.fault) (ReadsText b)) c.as_slice.ensures.value c.in-Err.ensures.reads in
    let told : TellsFault c.args.text.now c.in-Err.fault c.fault_reply.result = subst (λ b. TellsFault b c.in-Err.fault c.fault_reply.result) c.as_slice-in-Err.ensures.value c.fault_reply.ensures.told in
    λ t so. record { state = t; does_so = is_faulty (fields_of s) t s.sound so c.args.number c.args.name c.args.text.now free few c.in-Err.fault c.fault_reply.result reads told; stands = so }
