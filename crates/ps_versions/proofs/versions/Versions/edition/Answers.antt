use Rattle.std.proofs.Common.{◌≡◌, ◌-◌, ◌<◌, length, get_or, [], refl, sym, ap, ◌∙◌, subst, arith}
use Rattle.std.specs.Prelude.{Some, IsSome, slice_get}
use Rattle.std.proofs.lemmas.Option.{slice_get_read}
use Rattle.ps_versions.specs.Lookup.{circuit_at, version_in}
use Rattle.ps_versions.specs.Lives.{IsLiveAtEnd}
use Rattle.ps_versions.specs.Records.{IsOnce}
use Rattle.ps_versions.specs.Views.{circuit_of, version_of}
use Rattle.ps_versions.proofs.Lookups.{length-circuits, get-circuits, length-versions, get-versions, version_there, version_read}
use Rattle.ps_versions.proofs.versions.Versions.edition.Goals as goal

pub index-course-requires : goal.index-course-requires
index-course-requires g c = omega (arith, c.in-Some.ensures.found.0, ap (λ h. length h.circuits) c.self.view_is, length-circuits c.self.inside.names.keys c.self.inside.courses.items c.self.invariant.named, c.self.inside.courses.ok.0)

pub index-requires : goal.index-requires
index-requires g c =
    let cs = c.self.inside.courses.items in
    let keys = c.self.inside.names.keys in
    let course = c.index-course.result.now in
    let i = c.in-Some.index in
    let near : i < length cs = omega (arith, c.in-Some.ensures.found.0, ap (λ h. length h.circuits) c.self.view_is, length-circuits keys cs c.self.invariant.named) in
    let got : slice_get cs i ≡ Some course = slice_get_read cs (length cs) i course refl near c.index-course.ensures in
    let found : circuit_at c.args.self.now.circuits c.args.place.now.name ≡ Some (circuit_of (get_or keys i []) course) = c.in-Some.ensures.found.1 ∙ ap (λ h. slice_get h.circuits i) (sym c.self.view_is) ∙ get-circuits keys cs i course c.self.invariant.named got in
    let there = version_there (circuit_of (get_or keys i []) course) c.args.place.now.version (subst (λ o. IsSome (version_in o c.args.place.now.version)) found c.requires) in
    omega (arith, there.0, there.1, length-versions course.editions.items, course.editions.ok.0)

pub returns-clause-value : goal.returns-clause-value
returns-clause-value g c =
    let cs = c.self.inside.courses.items in
    let keys = c.self.inside.names.keys in
    let course = c.index-course.result.now in
    let i = c.in-Some.index in
    let v = c.args.place.now.version in
    let near : i < length cs = omega (arith, c.in-Some.ensures.found.0, ap (λ h. length h.circuits) c.self.view_is, length-circuits keys cs c.self.invariant.named) in
    let got : slice_get cs i ≡ Some course = slice_get_read cs (length cs) i course refl near c.index-course.ensures in
    let found : circuit_at c.args.self.now.circuits c.args.place.now.name ≡ Some (circuit_of (get_or keys i []) course) = c.in-Some.ensures.found.1 ∙ ap (λ h. slice_get h.circuits i) (sym c.self.view_is) ∙ get-circuits keys cs i course c.self.invariant.named got in
    let there = version_there (circuit_of (get_or keys i []) course) v (subst (λ o. IsSome (version_in o v)) found c.requires) in
    let below : v - 1 < length course.editions.items = omega (arith, there.1, length-versions course.editions.items) in
    let read : slice_get course.editions.items (v - 1) ≡ Some c.index.result.now = slice_get_read course.editions.items (length course.editions.items) (v - 1) c.index.result.now refl below c.index.ensures in
    ap (λ o. version_in o v) found ∙ version_read (circuit_of (get_or keys i []) course) v (version_of c.index.result.now) there.0 (get-versions course.editions.items (v - 1) c.index.result.now read)

pub returns-clause-once : goal.returns-clause-once
returns-clause-once g c =
    let cs = c.self.inside.courses.items in
    let keys = c.self.inside.names.keys in
    let course = c.index-course.result.now in
    let i = c.in-Some.index in
    let v = c.args.place.now.version in
    let near : i < length cs = omega (arith, c.in-Some.ensures.found.0, ap (λ h. length h.circuits) c.self.view_is, length-circuits keys cs c.self.invariant.named) in
    let got : slice_get cs i ≡ Some course = slice_get_read cs (length cs) i course refl near c.index-course.ensures in
    let found : circuit_at c.args.self.now.circuits c.args.place.now.name ≡ Some (circuit_of (get_or keys i []) course) = c.in-Some.ensures.found.1 ∙ ap (λ h. slice_get h.circuits i) (sym c.self.view_is) ∙ get-circuits keys cs i course c.self.invariant.named got in
    let there = version_there (circuit_of (get_or keys i []) course) v (subst (λ o. IsSome (version_in o v)) found c.requires) in
    let below : v - 1 < length course.editions.items = omega (arith, there.1, length-versions course.editions.items) in
    let read : slice_get course.editions.items (v - 1) ≡ Some c.index.result.now = slice_get_read course.editions.items (length course.editions.items) (v - 1) c.index.result.now refl below c.index.ensures in
    subst (λ h. IsOnce h.nodes c.index.result.now.root) c.self.view_is (c.self.invariant.once i (v - 1) course c.index.result.now got read)

pub returns-clause-life : goal.returns-clause-life
returns-clause-life g c =
    let cs = c.self.inside.courses.items in
    let keys = c.self.inside.names.keys in
    let course = c.index-course.result.now in
    let i = c.in-Some.index in
    let v = c.args.place.now.version in
    let near : i < length cs = omega (arith, c.in-Some.ensures.found.0, ap (λ h. length h.circuits) c.self.view_is, length-circuits keys cs c.self.invariant.named) in
    let got : slice_get cs i ≡ Some course = slice_get_read cs (length cs) i course refl near c.index-course.ensures in
    let found : circuit_at c.args.self.now.circuits c.args.place.now.name ≡ Some (circuit_of (get_or keys i []) course) = c.in-Some.ensures.found.1 ∙ ap (λ h. slice_get h.circuits i) (sym c.self.view_is) ∙ get-circuits keys cs i course c.self.invariant.named got in
    let there = version_there (circuit_of (get_or keys i []) course) v (subst (λ o. IsSome (version_in o v)) found c.requires) in
    let below : v - 1 < length course.editions.items = omega (arith, there.1, length-versions course.editions.items) in
    let read : slice_get course.editions.items (v - 1) ≡ Some c.index.result.now = slice_get_read course.editions.items (length course.editions.items) (v - 1) c.index.result.now refl below c.index.ensures in
    c.self.invariant.lives i (v - 1) course c.index.result.now got read

pub returns-clause-live : goal.returns-clause-live
returns-clause-live g c =
    let cs = c.self.inside.courses.items in
    let keys = c.self.inside.names.keys in
    let course = c.index-course.result.now in
    let i = c.in-Some.index in
    let v = c.args.place.now.version in
    let e = c.index.result.now in
    let near : i < length cs = omega (arith, c.in-Some.ensures.found.0, ap (λ h. length h.circuits) c.self.view_is, length-circuits keys cs c.self.invariant.named) in
    let got : slice_get cs i ≡ Some course = slice_get_read cs (length cs) i course refl near c.index-course.ensures in
    let found : circuit_at c.args.self.now.circuits c.args.place.now.name ≡ Some (circuit_of (get_or keys i []) course) = c.in-Some.ensures.found.1 ∙ ap (λ h. slice_get h.circuits i) (sym c.self.view_is) ∙ get-circuits keys cs i course c.self.invariant.named got in
    let there = version_there (circuit_of (get_or keys i []) course) v (subst (λ o. IsSome (version_in o v)) found c.requires) in
    let below : v - 1 < length course.editions.items = omega (arith, there.1, length-versions course.editions.items) in
    let read : slice_get course.editions.items (v - 1) ≡ Some e = slice_get_read course.editions.items (length course.editions.items) (v - 1) e refl below c.index.ensures in
    subst (λ o. IsLiveAtEnd o v e.retired) (sym found)
    (λ last. c.self.invariant.live i course got e (subst (λ n. slice_get course.editions.items n ≡ Some e) (omega (arith, last, length-versions course.editions.items)) read))
