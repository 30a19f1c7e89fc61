use Rattle.std.proofs.Common.{◌≡◌, ◌++◌, [], ◌∷◌, length, refl, ap, ap₂, ◌∙◌, arith}
use Rattle.std.specs.Prelude.{vec_len}
use Rattle.std.specs.List.{range_with_len}
use Rattle.std.proofs.lemmas.List.FromFn.{length-range_with_len}
use Rattle.qasm_expand.specs.Maps.{prims_in}
use Rattle.qasm_expand.specs.Reading.{circuit_in}
use Rattle.ps_views.specs.Fields.{fields}
use Rattle.ps_views.proofs.Lookups.{mapped_length}
use Rattle.ps_book.specs.Services.{fields_of}
use Rattle.ps_book.specs.Additions.{AddsCircuit}
use Rattle.ps_book.proofs.OpenedCircuits.{adds_opened, sound_added}
use Rattle.ps_book.proofs.service.Service.add_circuit.Goals as goal
use Rattle.ps_book.proofs.service.Service.add_circuit.Goals.{After-add_items}

pub open-requires-clause-fits : goal.open-requires-clause-fits
open-requires-clause-fits c = omega (
  arith,
  ap length c.deref.ensures.value,
  ap length c.in_ok-numbers.ensures.numbers,
  length-range_with_len (vec_len c.args.self.now.items) c.len.result,
  c.len.ensures,
  c.into_vec-items.result.ok.0,
  mapped_length prims_in c.into_vec-items.result.items,
  ap length c.into_vec-items.ensures,
  c.args.circuit.few,
)

added : (c : After-add_items) → AddsCircuit (fields_of c.args.self.now) c.args.name (circuit_in c.args.circuit) c.args.number
    (fields c.open.new.self c.push_reserved.new.self.items c.add_items.new.items.items c.args.self.now.pins c.args.self.now.claims.seats c.args.self.now.terms)
added c =
    let s = c.args.self.now in
    let more = c.into_vec-items.result in
    let before : vec_len s.items ≡ length s.items.items = omega (arith, s.items.ok.0) in
    let count : c.len.result ≡ length more.items = omega (arith, c.len.ensures, more.ok.0) in
    adds_opened s.versions c.open.new.self s.tables.items s.items.items s.pins s.claims.seats s.terms c.push_reserved.new.self.items c.add_items.new.items.items more.items c.args.circuit.table c.args.name
    c.deref.result.now (circuit_in c.args.circuit) c.args.number s.sound
    (c.push_reserved.ensures.items ∙ ap (λ ts. ts ++ c.args.circuit.table ∷ []) c.reserve.ensures.items)
    (c.add_items.ensures ∙ ap (λ is. is ++ more.items) c.make_room.ensures.items)
    c.into_vec-items.ensures
    refl
    (c.deref.ensures.value ∙ c.in_ok-numbers.ensures.numbers ∙ ap₂ range_with_len before count)
    c.in_ok-open.ensures.opened
    c.look_at.ensures

pub invariant_of-self-2 : goal.invariant_of-self-2
invariant_of-self-2 c =
    let s = c.args.self.now in
    record { sound = sound_added (fields_of s) s.sound c.args.name (circuit_in c.args.circuit) c.args.number c.requires.new c.args.circuit.width _ (added (goal.at.invariant_of-self-2 c).After-add_items) }

pub returns-clause-added : goal.returns-clause-added
returns-clause-added c = added (goal.at.returns-clause-added c).After-add_items
