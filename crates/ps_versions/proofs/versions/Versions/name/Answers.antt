use Rattle.std.proofs.Common.{◌≡◌, ◌<◌, length, get_or, refl, sym, ap, ◌∙◌, subst, arith}
use Rattle.std.specs.Prelude.{Some, IfSome, slice_get}
use Rattle.ps_versions.specs.Lookup.{place_of}
use Rattle.ps_versions.proofs.Lookups.{length-circuits, place-fields, place_index, name_index}
use Rattle.ps_versions.proofs.versions.Versions.name.Goals as goal

pub offset_bounds-as_slice-index : goal.offset_bounds-as_slice-index
offset_bounds-as_slice-index g c = omega (arith, c.requires, ap (λ h. length h.circuits) c.self.view_is, length-circuits c.self.inside.names.keys c.self.inside.courses.items c.self.invariant.named, c.self.invariant.few)

pub bounds-as_slice-index : goal.bounds-as_slice-index
bounds-as_slice-index g c = omega (arith, c.requires, ap (λ h. length h.circuits) c.self.view_is, length-circuits c.self.inside.names.keys c.self.inside.courses.items c.self.invariant.named, c.self.invariant.named, ap length c.as_slice.ensures.keys)

pub returns-clause-place : goal.returns-clause-place
returns-clause-place g c =
    let keys = c.self.inside.names.keys in
    let cs = c.self.inside.courses.items in
    let r = c.index-as_slice-index.result in
    let near : c.args.index < length keys = omega (arith, c.requires, ap (λ h. length h.circuits) c.self.view_is, length-circuits keys cs c.self.invariant.named, c.self.invariant.named) in
    let read : r ≡ get_or keys c.args.index r = subst (λ ns. r ≡ get_or ns c.args.index r) c.as_slice.ensures.keys c.index-as_slice-index.is in
    ap (λ h. place_of h.circuits r) (sym c.self.view_is) ∙ sym (place-fields keys cs r c.self.invariant.named) ∙ place_index keys c.args.index r c.as_slice.ensures.unique near read

pub returns-clause-circuit : goal.returns-clause-circuit
returns-clause-circuit g c =
    let keys = c.self.inside.names.keys in
    let cs = c.self.inside.courses.items in
    let r = c.index-as_slice-index.result in
    let near : c.args.index < length keys = omega (arith, c.requires, ap (λ h. length h.circuits) c.self.view_is, length-circuits keys cs c.self.invariant.named, c.self.invariant.named) in
    let read : r ≡ get_or keys c.args.index r = subst (λ ns. r ≡ get_or ns c.args.index r) c.as_slice.ensures.keys c.index-as_slice-index.is in
    subst (λ h. IfSome (slice_get h.circuits c.args.index) (λ k. k.name ≡ r)) c.self.view_is (name_index keys cs c.args.index r c.self.invariant.named near read)
