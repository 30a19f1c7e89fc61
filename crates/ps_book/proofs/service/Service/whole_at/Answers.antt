use Rattle.std.proofs.Common.{◌≤◌, sym, subst, ap}
use Rattle.std.specs.Prelude.{is_some}
use Rattle.std.proofs.lemmas.Result.{IfOk-weaker}
use Rattle.ps_journal.specs.Summing.{ComesToAt}
use Rattle.ps_book.specs.Services.{fields_of}
use Rattle.ps_book.proofs.Giving.{kept_there, kept_circuit}
use Rattle.ps_book.proofs.Summed.{wide_at, comes_to_identity}
use Rattle.ps_book.proofs.service.Service.whole_at.Goals as goal

pub root-requires : goal.root-requires
root-requires c = kept_there (fields_of c.args.self.now) c.args.place.now c.requires.kept

pub qubits_at-requires : goal.qubits_at-requires
qubits_at-requires c = kept_circuit (fields_of c.args.self.now) c.args.place.now c.requires.kept

pub identity_record-requires : goal.identity_record-requires
identity_record-requires c =
    let s = c.args.self.now in
    let k = c.requires.kept in
    subst (λ n. (1 ≤ n) × (n ≤ 64)) (sym (c.qubits_at.ensures k.circuit k.circuit_is)) (wide_at (fields_of s) s.sound c.args.place.now k)

pub returns-in-None : goal.returns-in-None
returns-in-None c =
    let s = c.args.self.now in
    let k = c.requires.kept in
    IfOk-weaker c.identity_record.result _ _
    (λ a h t so. comes_to_identity (fields_of s) s.sound c.args.place.now k c.qubits_at.result a.value (sym c.in-None.ensures.value)
    (c.qubits_at.ensures k.circuit k.circuit_is) h t so)
    c.identity_record.ensures

pub deciding-requires-clause-root : goal.deciding-requires-clause-root
deciding-requires-clause-root c = sym c.in-Some.ensures.value

pub record_of-requires : goal.record_of-requires
record_of-requires c = ap is_some c.deciding.ensures.kept

pub returns-in-Some : goal.returns-in-Some
returns-in-Some c =
    let d = c.deciding.ensures in
    IfOk-weaker c.record_of.result _ _
    (λ a h t so. subst (ComesToAt t c.args.place.now) (sym (h d.entry d.kept)) (d.comes t so))
    c.record_of.ensures
