use Rattle.std.proofs.Common.{◌≡◌, sym, subst, ◌∙◌}
use Rattle.std.specs.Prelude.{IsTrue, ◌↔◌}
use Rattle.seg_tree.specs.Table.{tree}
use Rattle.ps_views.specs.Views.{run_at}
use Rattle.ps_book.specs.Runs.{HasRun}
use Rattle.ps_book.specs.Services.{fields_of}
use Rattle.ps_book.proofs.Giving.{kept_there, kept_circuit}
use Rattle.ps_book.proofs.Belonging.{other_width, no_items, empty_told, whole_belongs, part_belongs, none_belongs}
use Rattle.ps_book.proofs.service.Service.belongs.Goals as goal

pub qubits_at-requires : goal.qubits_at-requires
qubits_at-requires c = kept_circuit (fields_of c.args.self.now) c.args.place.now c.requires

pub root-requires : goal.root-requires
root-requires c = kept_there (fields_of c.args.self.now) c.args.place.now c.requires

pub returns-then-record-qubits_at : goal.returns-then-record-qubits_at
returns-then-record-qubits_at c =
    let s = c.args.self.now in
    let k = c.requires in
    other_width (fields_of s) s.sound c.args.place.now k c.args.record.now
    (λ e. c.if-record-qubits_at.true (e ∙ sym (c.qubits_at.ensures k.circuit k.circuit_is)))

pub returns-in-None : goal.returns-in-None
returns-in-None c =
    let s = c.args.self.now in
    let k = c.requires in
    let r = c.args.record.now in
    no_items (fields_of s) s.sound c.args.place.now k r (c.if-record-qubits_at.false ∙ c.qubits_at.ensures k.circuit k.circuit_is) c.is_empty.result
    (sym c.in-None.ensures.value)
    (empty_told c.as_slice-items.result.now r.items.value c.is_empty.result (c.as_slice-items.ensures.value ∙ c.deref.ensures) c.is_empty.ensures)

pub returns-then-is_run : goal.returns-then-is_run
returns-then-is_run c =
    let s = c.args.self.now in
    let f = fields_of s in
    let k = c.requires in
    let r = c.args.record.now in
    whole_belongs f s.sound c.args.place.now k r (c.if-record-qubits_at.false ∙ c.qubits_at.ensures k.circuit k.circuit_is) c.in-Some.root
    (sym c.in-Some.ensures.value) c.is_run.result c.if-is_run.true
    (subst (λ xs. IsTrue c.is_run.result ↔ (xs ≡ run_at f.items f.versions.nodes c.in-Some.root)) (c.as_slice-items.ensures.value ∙ c.deref.ensures)
    c.is_run.ensures)

pub returns-then-is_passed : goal.returns-then-is_passed
returns-then-is_passed c =
    let s = c.args.self.now in
    let f = fields_of s in
    let k = c.requires in
    let r = c.args.record.now in
    part_belongs f s.sound c.args.place.now k r (c.if-record-qubits_at.false ∙ c.qubits_at.ensures k.circuit k.circuit_is) c.in-Some.root
    (sym c.in-Some.ensures.value) c.is_run.result c.is_passed.result c.if-is_run.false
    (subst (λ xs. IsTrue c.is_run.result ↔ (xs ≡ run_at f.items f.versions.nodes c.in-Some.root)) (c.as_slice-items.ensures.value ∙ c.deref.ensures)
    c.is_run.ensures)
    c.is_passed.ensures c.has_run.result c.if-is_passed.true
    (subst (λ xs. IsTrue c.has_run.result ↔ HasRun f.items (tree f.versions.nodes c.in-Some.root) xs)
    (c.as_slice-items.ensures.value ∙ c.deref.ensures) c.has_run.ensures)

pub returns-else-is_passed : goal.returns-else-is_passed
returns-else-is_passed c =
    let s = c.args.self.now in
    let f = fields_of s in
    let k = c.requires in
    let r = c.args.record.now in
    none_belongs f s.sound c.args.place.now k r (c.if-record-qubits_at.false ∙ c.qubits_at.ensures k.circuit k.circuit_is) c.in-Some.root
    (sym c.in-Some.ensures.value) c.is_run.result c.is_passed.result c.if-is_run.false
    (subst (λ xs. IsTrue c.is_run.result ↔ (xs ≡ run_at f.items f.versions.nodes c.in-Some.root)) (c.as_slice-items.ensures.value ∙ c.deref.ensures)
    c.is_run.ensures)
    c.is_passed.ensures c.if-is_passed.false
