use Rattle.std.proofs.Common.{◌≡◌, ◌<◌, length, refl, sym, ◌∙◌, subst, arith}
use Rattle.std.specs.Prelude.{Ok, Err, Some, map}
use Rattle.std.proofs.lemmas.Option.{slice_get_read}
use Rattle.qasm_expand.specs.Circuits.{ReadsBlock}
use Rattle.qasm_expand.specs.Reading.{table_in, ItemsTold}
use Rattle.ps_reach.specs.Runs.{prims_of}
use Rattle.ps_versions.specs.Held.{Circuit}
use Rattle.ps_views.specs.Finds.{IsAt}
use Rattle.ps_views.proofs.Lookups.{mapped_length}
use Rattle.ps_book.specs.Services.{fields_of}
use Rattle.ps_book.specs.Wanting.{SplicesOr}
use Rattle.ps_book.specs.Additions.{TellsFault, ReadsAs}
use Rattle.ps_book.proofs.SplicedVersions.{placed_at, reads_as, splice_faulty}
use Rattle.ps_book.proofs.service.Service.splice_block.Goals as goal
use Rattle.ps_book.proofs.service.Service.splice_block.Goals.{After-index}

placed : (c : After-index) → IsAt (fields_of c.args.self.now).tables c.args.self.now.versions.circuits c.args.name c.in-Some.index (table_in c.index.result.now.value) c.requires.circuit
placed c =
    let s = c.args.self.now in
    let near : c.in-Some.index < length s.tables.items = omega (arith, c.in-Some.ensures.found.0, s.sound.tabled, mapped_length (λ a. table_in a.value) s.tables.items) in
    placed_at (fields_of s) s.tables.items c.args.name c.requires.circuit c.in-Some.index c.index.result.now c.requires.circuit_is c.in-Some.ensures.place refl
    (slice_get_read s.tables.items (length s.tables.items) c.in-Some.index c.index.result.now refl near c.index.ensures)

one : (x y : Circuit) → Some x ≡ Some y → x ≡ y
one x y e = cc

pub returns-in-Ok-clause-leaves : goal.returns-in-Ok-clause-leaves
returns-in-Ok-clause-leaves c =
    let s = c.args.self.now in
    let r = c.args.range in
    let block = c.args.block.now in
    let more = map prims_of c.into_vec.result.items in
    let at = placed (goal.at.returns-in-Ok-clause-leaves c).After-index in
    let table = c.index.result.now.value in
    let here : ReadsBlock (table_in table) block (Ok c.in-Ok.items) =
    subst (λ b. ReadsBlock (table_in table) b (Ok c.in-Ok.items)) c.as_slice.ensures.value (subst (λ x. ReadsBlock (table_in x) c.as_slice.result.now (Ok c.in-Ok.items)) c.deref.ensures c.in-Ok.ensures.reads) in
    let reads : ReadsBlock (table_in table) block (Ok more) = subst (λ is. ReadsBlock (table_in table) block (Ok is)) (sym c.into_vec.ensures) here in
    λ t d so is.
    let known : ReadsAs t c.args.name (length c.requires.circuit.versions) r.from r.to block more =
    reads_as (fields_of s) c.args.name r.from r.to r.len c.requires t s.sound so block more c.in-Some.index (table_in table) at reads in
    c.splice_items.ensures.leaves t d block so is
    (subst (λ x. ReadsAs t c.args.name (length x.versions) r.from r.to block more) (one c.requires.circuit d (sym c.requires.circuit_is ∙ is)) known)

pub returns-in-Err-clause-leaves : goal.returns-in-Err-clause-leaves
returns-in-Err-clause-leaves c =
    let s = c.args.self.now in
    let r = c.args.range in
    let block = c.args.block.now in
    let fault = c.in-Err.fault in
    let told = c.fault_reply.result in
    let at = placed (goal.at.returns-in-Err-clause-leaves c).After-index in
    let table = c.index.result.now.value in
    let reads : ItemsTold (Err fault) (ReadsBlock (table_in table) block) =
    subst (λ b. ItemsTold (Err fault) (ReadsBlock (table_in table) b)) c.as_slice.ensures.value (subst (λ x. ItemsTold (Err fault) (ReadsBlock (table_in x) c.as_slice.result.now)) c.deref.ensures c.in-Err.ensures.reads) in
    let tells : TellsFault block fault told = subst (λ b. TellsFault b fault told) c.as_slice-in-Err.ensures.value c.fault_reply.ensures.told in
    λ t d so is.
    let does : SplicesOr t c.args.name (length c.requires.circuit.versions) r.from r.to block told t =
    splice_faulty (fields_of s) c.args.name r.from r.to r.len c.requires t s.sound so block c.in-Some.index (table_in table) fault told at reads tells in
    record {
      state = t;
      does_so = subst (λ x. SplicesOr t c.args.name (length x.versions) r.from r.to block told t) (one c.requires.circuit d (sym c.requires.circuit_is ∙ is)) does;
      stands = so;
    }
