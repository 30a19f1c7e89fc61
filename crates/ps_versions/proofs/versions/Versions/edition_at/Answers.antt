use Rattle.std.proofs.Common.{◌≡◌, ◌<◌, length, get_or, [], refl, sym, ap, ◌∙◌, subst, arith}
use Rattle.std.specs.Prelude.{Some, slice_get}
use Rattle.std.proofs.lemmas.Option.{slice_get_read}
use Rattle.seg_tree.specs.Table.{IsRoot}
use Rattle.ps_versions.specs.Views.{circuit_of, version_of}
use Rattle.ps_versions.proofs.Gaining.{some_same}
use Rattle.ps_versions.proofs.Lookups.{length-circuits, get-circuits, length-versions, get-versions}
use Rattle.ps_versions.proofs.versions.Versions.edition_at.Goals as goal

pub index-course-requires : goal.index-course-requires
index-course-requires g c = omega (arith, c.requires.circuit, ap (λ h. length h.circuits) c.self.view_is, length-circuits c.self.inside.names.keys c.self.inside.courses.items c.self.invariant.named, c.self.inside.courses.ok.0)

pub index-requires : goal.index-requires
index-requires g c =
    let cs = c.self.inside.courses.items in
    let keys = c.self.inside.names.keys in
    let course = c.index-course.result.now in
    let i = c.args.index in
    let near : i < length cs = omega (arith, c.requires.circuit, ap (λ h. length h.circuits) c.self.view_is, length-circuits keys cs c.self.invariant.named) in
    let got : slice_get cs i ≡ Some course = slice_get_read cs (length cs) i course refl near c.index-course.ensures in
    let found : slice_get c.args.self.now.circuits i ≡ Some (circuit_of (get_or keys i []) course) = ap (λ h. slice_get h.circuits i) (sym c.self.view_is) ∙ get-circuits keys cs i course c.self.invariant.named got in
    omega (arith, c.requires.version (circuit_of (get_or keys i []) course) found, length-versions course.editions.items, course.editions.ok.0)

pub returns-clause-value : goal.returns-clause-value
returns-clause-value g c =
    let cs = c.self.inside.courses.items in
    let keys = c.self.inside.names.keys in
    let course = c.index-course.result.now in
    let i = c.args.index in
    let near : i < length cs = omega (arith, c.requires.circuit, ap (λ h. length h.circuits) c.self.view_is, length-circuits keys cs c.self.invariant.named) in
    let got : slice_get cs i ≡ Some course = slice_get_read cs (length cs) i course refl near c.index-course.ensures in
    let own = circuit_of (get_or keys i []) course in
    let found : slice_get c.args.self.now.circuits i ≡ Some own = ap (λ h. slice_get h.circuits i) (sym c.self.view_is) ∙ get-circuits keys cs i course c.self.invariant.named got in
    let below : c.args.number < length course.editions.items = omega (arith, c.requires.version own found, length-versions course.editions.items) in
    let read : slice_get course.editions.items c.args.number ≡ Some c.index.result.now = slice_get_read course.editions.items (length course.editions.items) c.args.number c.index.result.now refl below c.index.ensures in
    λ d e. ap (λ x. slice_get x.versions c.args.number) (some_same d own (sym e ∙ found)) ∙ get-versions course.editions.items c.args.number c.index.result.now read

pub returns-clause-there : goal.returns-clause-there
returns-clause-there g c =
    let cs = c.self.inside.courses.items in
    let keys = c.self.inside.names.keys in
    let course = c.index-course.result.now in
    let i = c.args.index in
    let near : i < length cs = omega (arith, c.requires.circuit, ap (λ h. length h.circuits) c.self.view_is, length-circuits keys cs c.self.invariant.named) in
    let got : slice_get cs i ≡ Some course = slice_get_read cs (length cs) i course refl near c.index-course.ensures in
    let own = circuit_of (get_or keys i []) course in
    let found : slice_get c.args.self.now.circuits i ≡ Some own = ap (λ h. slice_get h.circuits i) (sym c.self.view_is) ∙ get-circuits keys cs i course c.self.invariant.named got in
    let below : c.args.number < length course.editions.items = omega (arith, c.requires.version own found, length-versions course.editions.items) in
    let read : slice_get course.editions.items c.args.number ≡ Some c.index.result.now = slice_get_read course.editions.items (length course.editions.items) c.args.number c.index.result.now refl below c.index.ensures in
    subst (λ h. IsRoot h.nodes c.index.result.now.root) c.self.view_is (c.self.invariant.once i c.args.number course c.index.result.now got read).there
