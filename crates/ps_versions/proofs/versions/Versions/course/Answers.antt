use Rattle.std.proofs.Common.{◌≡◌, ◌<◌, length, get_or, [], refl, sym, ap, ◌∙◌, subst, arith}
use Rattle.std.specs.Prelude.{Some, slice_get}
use Rattle.std.proofs.lemmas.Option.{slice_get_read}
use Rattle.ps_versions.specs.Lookup.{version_in}
use Rattle.ps_versions.specs.Lives.{IsLive}
use Rattle.ps_versions.specs.Told.{about}
use Rattle.ps_versions.specs.Views.{circuit_of}
use Rattle.ps_versions.proofs.Lookups.{length-circuits, get-circuits, length-versions, live_last}
use Rattle.ps_versions.proofs.versions.Versions.course.Goals as goal

pub index-course-requires : goal.index-course-requires
index-course-requires g c = omega (arith, c.requires, ap (λ h. length h.circuits) c.self.view_is, length-circuits c.self.inside.names.keys c.self.inside.courses.items c.self.invariant.named, c.self.inside.courses.ok.0)

pub overflow_cast-result : goal.overflow_cast-result
overflow_cast-result g c =
    let cs = c.self.inside.courses.items in
    let course = c.index-course.result.now in
    let i = c.args.index in
    let near : i < length cs = omega (arith, c.requires, ap (λ h. length h.circuits) c.self.view_is, length-circuits c.self.inside.names.keys cs c.self.invariant.named) in
    let got : slice_get cs i ≡ Some course = slice_get_read cs (length cs) i course refl near c.index-course.ensures in
    let small : length course.editions.items < 4294967296 = c.self.invariant.numbered i course got in
    omega (arith, c.len.ensures, course.editions.ok.0)

pub returns-clause-about : goal.returns-clause-about
returns-clause-about g c =
    let cs = c.self.inside.courses.items in
    let keys = c.self.inside.names.keys in
    let course = c.index-course.result.now in
    let i = c.args.index in
    let near : i < length cs = omega (arith, c.requires, ap (λ h. length h.circuits) c.self.view_is, length-circuits keys cs c.self.invariant.named) in
    let got : slice_get cs i ≡ Some course = slice_get_read cs (length cs) i course refl near c.index-course.ensures in
    let found : slice_get c.args.self.now.circuits i ≡ Some (circuit_of (get_or keys i []) course) = ap (λ h. slice_get h.circuits i) (sym c.self.view_is) ∙ get-circuits keys cs i course c.self.invariant.named got in
    let latest : c.len.result ≡ length (circuit_of (get_or keys i []) course).versions = omega (arith, c.len.ensures, course.editions.ok.0, length-versions course.editions.items) in
    ap (λ n. Some (record { qubits = course.qubits; opened = course.opened; latest = n })) latest ∙ sym (ap about found)

pub returns-clause-latest : goal.returns-clause-latest
returns-clause-latest g c =
    let cs = c.self.inside.courses.items in
    let keys = c.self.inside.names.keys in
    let course = c.index-course.result.now in
    let i = c.args.index in
    let near : i < length cs = omega (arith, c.requires, ap (λ h. length h.circuits) c.self.view_is, length-circuits keys cs c.self.invariant.named) in
    let got : slice_get cs i ≡ Some course = slice_get_read cs (length cs) i course refl near c.index-course.ensures in
    let found : slice_get c.args.self.now.circuits i ≡ Some (circuit_of (get_or keys i []) course) = ap (λ h. slice_get h.circuits i) (sym c.self.view_is) ∙ get-circuits keys cs i course c.self.invariant.named got in
    let latest : length course.editions.items ≡ c.len.result = omega (arith, c.len.ensures, course.editions.ok.0) in
    subst (λ o. IsLive (version_in o c.len.result)) (sym found)
    (subst (λ n. IsLive (version_in (Some (circuit_of (get_or keys i []) course)) n)) latest (live_last (get_or keys i []) course (c.self.invariant.begun i course got) (c.self.invariant.live i course got)))
