use Rattle.std.proofs.Common.{◌≡◌, ◌++◌, length, ap, ap₂, ◌∙◌, arith}
use Rattle.std.specs.Prelude.{map, vec_len}
use Rattle.std.specs.List.{range_with_len}
use Rattle.std.proofs.lemmas.List.FromFn.{length-range_with_len}
use Rattle.ps_reach.specs.Runs.{prims_of}
use Rattle.ps_views.specs.Fields.{fields}
use Rattle.ps_book.specs.Services.{fields_of}
use Rattle.ps_book.specs.Additions.{AddsVersion}
use Rattle.ps_book.proofs.SplicedVersions.{length_before, adds_spliced, sound_next}
use Rattle.ps_book.proofs.service.Service.add_version.Goals as goal
use Rattle.ps_book.proofs.service.Service.add_version.Goals.{After-deref, After-add_items}

count : (c : After-deref) → length c.deref.result.now ≡ vec_len c.args.items
count c = omega (arith, ap length c.deref.ensures.value, ap length c.in_ok-numbers.ensures.numbers, length-range_with_len (vec_len c.args.self.now.items) c.len.result, c.len.ensures)

pub splice-requires-clause-inserted : goal.splice-requires-clause-inserted
splice-requires-clause-inserted c = omega (arith, count (goal.at.splice-requires-clause-inserted c).After-deref, c.requires.few)

pub splice-requires-clause-fits : goal.splice-requires-clause-fits
splice-requires-clause-fits c =
    let r = c.args.range in
    omega (arith, count (goal.at.splice-requires-clause-fits c).After-deref, c.requires.fits, length_before (fields_of c.args.self.now) c.args.name r.from r.to r.len c.requires.range)

added : (c : After-add_items) → AddsVersion (fields_of c.args.self.now) c.args.name c.args.range.from c.args.range.to (map prims_of c.args.items.items) c.in_ok-version.version
    (fields c.splice.new.self c.args.self.now.tables.items c.add_items.new.items.items c.args.self.now.pins c.args.self.now.claims.seats c.args.self.now.terms)
added c =
    let s = c.args.self.now in
    let more = c.args.items in
    let before : vec_len s.items ≡ length s.items.items = omega (arith, s.items.ok.0) in
    let many : c.len.result ≡ length more.items = omega (arith, c.len.ensures, more.ok.0) in
    adds_spliced s.versions c.splice.new.self s.tables.items s.items.items s.pins s.claims.seats s.terms c.add_items.new.items.items more.items c.args.name c.deref.result.now c.args.range.from c.args.range.to
    c.in_ok-version.version s.sound
    (c.add_items.ensures ∙ ap (λ is. is ++ more.items) c.make_room.ensures.items)
    (c.deref.ensures.value ∙ c.in_ok-numbers.ensures.numbers ∙ ap₂ range_with_len before many)
    c.in_ok-version.ensures.spliced
    c.look_at.ensures

pub invariant_of-self-2 : goal.invariant_of-self-2
invariant_of-self-2 c =
    let s = c.args.self.now in
    let r = c.args.range in
    record { sound = sound_next (fields_of s) c.args.name r.from r.to r.len c.in_ok-version.version (map prims_of c.args.items.items) _ s.sound c.requires.range (added (goal.at.invariant_of-self-2 c).After-add_items) }

pub returns-clause-added : goal.returns-clause-added
returns-clause-added c = added (goal.at.returns-clause-added c).After-add_items
