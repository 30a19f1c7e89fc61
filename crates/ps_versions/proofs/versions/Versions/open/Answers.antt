use Rattle.std.proofs.Common.{◌≡◌, ◌-◌, ◌++◌, [], ◌∷◌, length, replicate, refl, sym, ap, ◌∙◌, subst, arith, false, nat_eq}
use Rattle.std.specs.Prelude.{None, vec_len}
use Rattle.std.specs.List.{list_any}
use Rattle.std.specs.Cmp.Lexicographic.{pointwise}
use Rattle.ps_versions.specs.Lookup.{circuit_at}
use Rattle.ps_versions.proofs.Lookups.{length-circuits}
use Rattle.ps_versions.proofs.Ends.{fresh_life}
use Rattle.ps_versions.proofs.Growths.{absent, once_new, sound_same, sound_more, opened}
use Rattle.ps_versions.specs.declared.data.Edition.{Edition}
use Rattle.ps_versions.specs.declared.data.Course.{Course}
use Rattle.ps_versions.proofs.versions.Versions.open.Goals as goal

pub invariant_of-self : goal.invariant_of-self
invariant_of-self g c = sound_same g.R.Kept.passed c.self.inside _ c.make_room.ensures.names c.make_room.ensures.courses refl c.make_room.ensures.records refl c.self.invariant

pub invariant_of-self-in_default-build : goal.invariant_of-self-in_default-build
invariant_of-self-in_default-build g c = sound_same g.R.Kept.passed c.self.inside _ c.make_room.ensures.names c.make_room.ensures.courses c.in_default-build.ensures.err c.make_room.ensures.records refl c.self.invariant

pub add_course-requires-clause-new : goal.add_course-requires-clause-new
add_course-requires-clause-new g c =
    let a = c.self.inside in
    subst (λ ns. list_any (pointwise nat_eq c.args.name) ns ≡ false) (sym c.make_room.ensures.names)
    (absent a.names.keys a.courses.items c.args.name c.self.invariant.named (ap (λ h. circuit_at h.circuits c.args.name) c.self.view_is ∙ c.requires.new))

pub invariant_of-self-2 : goal.invariant_of-self-2
invariant_of-self-2 g c =
    let planted = c.in-Ok-build.ensures.tree in
    sound_more g.R.Kept.passed c.self.inside _ c.args.name _ (record { root = c.in-Ok-build.root; retired = None; ended = None; pins = 0 }) (c.count.result - vec_len c.make_room.new.records)
    (c.add_course.ensures.names ∙ ap (λ ns. ns ++ c.args.name ∷ []) c.make_room.ensures.names)
    (c.add_course.ensures.courses ∙ ap (λ cs. cs ++ record { qubits = c.args.qubits; opened = c.args.entry; editions = c.push_reserved.new.self } ∷ []) c.make_room.ensures.courses)
    (c.push_reserved.ensures.items ∙ ap (λ es. es ++ record { root = c.in-Ok-build.root; retired = None; ended = None; pins = 0 } ∷ []) c.in-Ok.ensures.editions.0)
    planted.kept
    (c.fill.ensures.items ∙ ap (λ rs. rs ++ replicate (c.count.result - vec_len c.make_room.new.records) None) c.make_room.ensures.records)
    (omega (arith, c.fill.ensures.len, c.count.ensures, c.fill.new.records.ok.0))
    refl
    (omega (arith, c.requires.few, ap (λ h. length h.circuits) c.self.view_is, length-circuits c.self.inside.names.keys c.self.inside.courses.items c.self.invariant.named))
    (once_new (length c.self.inside.nodes) (length c.build.new.self) c.build.new.self c.in-Ok-build.root (λ k. 0) planted.within c.in-Ok-build.ensures.nodes (λ k. omega arith))
    (fresh_life c.in-Ok-build.root)
    refl
    c.self.invariant

pub returns-clause-opened : goal.returns-clause-opened
returns-clause-opened g c =
    let a = c.self.inside in
    let d : Course = record { qubits = c.args.qubits; opened = c.args.entry; editions = c.push_reserved.new.self } in
    let e : Edition = record { root = c.in-Ok-build.root; retired = None; ended = None; pins = 0 } in
    let more : c.count.result - vec_len c.make_room.new.records ≡ length c.build.new.self - length a.nodes = omega (arith, c.count.ensures, c.make_room.new.records.ok.0, ap length c.make_room.ensures.records, c.self.invariant.recorded) in
    opened g.R.Kept.passed a (record { names = c.add_course.new.names; courses = c.add_course.new.courses; nodes = c.build.new.self; records = c.fill.new.records; passed = a.passed }) c.args.self.now c.args.name d e c.args.items.now
    (c.add_course.ensures.names ∙ ap (λ ns. ns ++ c.args.name ∷ []) c.make_room.ensures.names)
    (c.add_course.ensures.courses ∙ ap (λ cs. cs ++ d ∷ []) c.make_room.ensures.courses)
    (c.push_reserved.ensures.items ∙ ap (λ es. es ++ e ∷ []) c.in-Ok.ensures.editions.0)
    refl
    (c.fill.ensures.items ∙ ap (λ rs. rs ++ replicate (c.count.result - vec_len c.make_room.new.records) None) c.make_room.ensures.records ∙ ap (λ m. a.records.items ++ replicate m None) more)
    c.in-Ok-build.ensures.run
    c.in-Ok-build.ensures.tree
    c.requires.new
    c.self.invariant
    c.self.view_is
