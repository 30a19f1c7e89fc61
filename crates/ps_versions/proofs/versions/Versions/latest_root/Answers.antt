use Rattle.std.proofs.Common.{◌≡◌, ◌-◌, ◌<◌, [], length, get_or, refl, sym, ap, ◌∙◌, subst, arith}
use Rattle.std.specs.Prelude.{Some, slice_get}
use Rattle.std.proofs.lemmas.Option.{slice_get_read}
use Rattle.ps_versions.specs.Records.{IsOnce}
use Rattle.ps_versions.specs.Spliced.{latest_root}
use Rattle.ps_versions.specs.Views.{circuit_of}
use Rattle.ps_versions.proofs.Lookups.{length-circuits, get-circuits}
use Rattle.ps_versions.proofs.Gaining.{root_last, root_none}
use Rattle.ps_versions.proofs.versions.Versions.latest_root.Goals as goal

pub index-course-requires : goal.index-course-requires
index-course-requires g c = omega (arith, c.requires, ap (λ h. length h.circuits) c.self.view_is, length-circuits c.self.inside.names.keys c.self.inside.courses.items c.self.invariant.named, c.self.inside.courses.ok.0)

pub returns-then-count-eq0-clause-value : goal.returns-then-count-eq0-clause-value
returns-then-count-eq0-clause-value g c =
    let cs = c.self.inside.courses.items in
    let keys = c.self.inside.names.keys in
    let i = c.args.index in
    let course = c.index-course.result.now in
    let near : i < length cs = omega (arith, c.requires, ap (λ h. length h.circuits) c.self.view_is, length-circuits keys cs c.self.invariant.named) in
    let got : slice_get cs i ≡ Some course = slice_get_read cs (length cs) i course refl near c.index-course.ensures in
    let found : slice_get c.args.self.now.circuits i ≡ Some (circuit_of (get_or keys i []) course) = ap (λ h. slice_get h.circuits i) (sym c.self.view_is) ∙ get-circuits keys cs i course c.self.invariant.named got in
    let count : length course.editions.items ≡ 0 = omega (arith, c.len-count.ensures, course.editions.ok.0, c.if-count-eq0.true) in
    sym (ap latest_root found ∙ root_none (get_or keys i []) course count)

pub returns-clause-value : goal.returns-clause-value
returns-clause-value g c =
    let cs = c.self.inside.courses.items in
    let keys = c.self.inside.names.keys in
    let i = c.args.index in
    let course = c.index-course.result.now in
    let near : i < length cs = omega (arith, c.requires, ap (λ h. length h.circuits) c.self.view_is, length-circuits keys cs c.self.invariant.named) in
    let got : slice_get cs i ≡ Some course = slice_get_read cs (length cs) i course refl near c.index-course.ensures in
    let found : slice_get c.args.self.now.circuits i ≡ Some (circuit_of (get_or keys i []) course) = ap (λ h. slice_get h.circuits i) (sym c.self.view_is) ∙ get-circuits keys cs i course c.self.invariant.named got in
    let n = c.len-count.result in
    let count : length course.editions.items ≡ n = omega (arith, c.len-count.ensures, course.editions.ok.0) in
    let some : 0 < n = omega (arith, c.if-count-eq0.false) in
    let e = c.index.result.now in
    let read : slice_get course.editions.items (n - 1) ≡ Some e = slice_get_read course.editions.items (length course.editions.items) (n - 1) e refl (omega arith) c.index.ensures in
    sym (ap latest_root found ∙ root_last (get_or keys i []) course (n - 1) e (omega arith) read)

pub returns-clause-once : goal.returns-clause-once
returns-clause-once g c =
    let cs = c.self.inside.courses.items in
    let keys = c.self.inside.names.keys in
    let i = c.args.index in
    let course = c.index-course.result.now in
    let near : i < length cs = omega (arith, c.requires, ap (λ h. length h.circuits) c.self.view_is, length-circuits keys cs c.self.invariant.named) in
    let got : slice_get cs i ≡ Some course = slice_get_read cs (length cs) i course refl near c.index-course.ensures in
    let found : slice_get c.args.self.now.circuits i ≡ Some (circuit_of (get_or keys i []) course) = ap (λ h. slice_get h.circuits i) (sym c.self.view_is) ∙ get-circuits keys cs i course c.self.invariant.named got in
    let n = c.len-count.result in
    let count : length course.editions.items ≡ n = omega (arith, c.len-count.ensures, course.editions.ok.0) in
    let some : 0 < n = omega (arith, c.if-count-eq0.false) in
    let e = c.index.result.now in
    let read : slice_get course.editions.items (n - 1) ≡ Some e = slice_get_read course.editions.items (length course.editions.items) (n - 1) e refl (omega arith) c.index.ensures in
    subst (λ h. IsOnce h.nodes e.root) c.self.view_is (c.self.invariant.once i (n - 1) course e got read)
