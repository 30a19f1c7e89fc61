use Rattle.std.proofs.Common.{◌≡◌, ◌<◌, length, refl, sym, ap, ◌∙◌, subst, arith, append-nil}
use Rattle.std.specs.Prelude.{Some, slice_get, vec_len, vec_capacity}
use Rattle.std.proofs.lemmas.Option.{slice_get_read}
use Rattle.ps_versions.proofs.Gaining.{get-set, some_same}
use Rattle.ps_versions.specs.declared.data.Course.{Course}
use Rattle.ps_versions.proofs.splicing.reserve_version.Goals as goal

pub returns-in-Ok-clause-courses : goal.returns-in-Ok-clause-courses
returns-in-Ok-clause-courses c =
    let cs = c.args.courses.now.items in
    let was = c.index_mut-course.result.now in
    let near : c.args.index < length cs = omega (arith, c.requires, c.args.courses.now.ok.0) in
    let there : slice_get cs c.args.index ≡ Some was = slice_get_read cs (length cs) c.args.index was refl near c.index_mut-course.ensures.value in
    let course : Course = record { qubits = was.qubits; opened = was.opened; editions = c.reserve.new.self } in
    record { was = was; course = course; there = there; changed = refl; qubits = refl; opened = refl; editions = c.reserve.ensures.items ∙ sym (append-nil was.editions.items) }

pub returns-in-Err-clause-courses : goal.returns-in-Err-clause-courses
returns-in-Err-clause-courses c =
    let cs = c.args.courses.now.items in
    let was = c.index_mut-course.result.now in
    let near : c.args.index < length cs = omega (arith, c.requires, c.args.courses.now.ok.0) in
    let there : slice_get cs c.args.index ≡ Some was = slice_get_read cs (length cs) c.args.index was refl near c.index_mut-course.ensures.value in
    let course : Course = record { qubits = was.qubits; opened = was.opened; editions = c.reserve.new.self } in
    record { was = was; course = course; there = there; changed = refl; qubits = refl; opened = refl; editions = c.reserve.ensures.items ∙ sym (append-nil was.editions.items) }

pub returns-in-Ok-clause-count : goal.returns-in-Ok-clause-count
returns-in-Ok-clause-count c =
    let cs = c.args.courses.now.items in
    let was = c.index_mut-course.result.now in
    let near : c.args.index < length cs = omega (arith, c.requires, c.args.courses.now.ok.0) in
    let there : slice_get cs c.args.index ≡ Some was = slice_get_read cs (length cs) c.args.index was refl near c.index_mut-course.ensures.value in
    let course : Course = record { qubits = was.qubits; opened = was.opened; editions = c.reserve.new.self } in
    λ d got. let same : was ≡ d = some_same was d (sym there ∙ got) in omega (arith, ap (λ x. length x.editions.items) same, c.len-count.ensures, was.editions.ok.0)

pub returns-in-Ok-clause-room : goal.returns-in-Ok-clause-room
returns-in-Ok-clause-room c =
    let cs = c.args.courses.now.items in
    let was = c.index_mut-course.result.now in
    let near : c.args.index < length cs = omega (arith, c.requires, c.args.courses.now.ok.0) in
    let there : slice_get cs c.args.index ≡ Some was = slice_get_read cs (length cs) c.args.index was refl near c.index_mut-course.ensures.value in
    let course : Course = record { qubits = was.qubits; opened = was.opened; editions = c.reserve.new.self } in
    let room : vec_len c.reserve.new.self < vec_capacity c.reserve.new.self = omega (arith, c.in-Ok.ensures.ok) in
    λ d got. let same : course ≡ d = some_same course d (sym (get-set cs c.args.index was course there) ∙ got) in subst (λ x. vec_len x.editions < vec_capacity x.editions) same room
