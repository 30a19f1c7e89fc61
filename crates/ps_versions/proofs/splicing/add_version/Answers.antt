use Rattle.std.proofs.Common.{◌<◌, length, refl, arith}
use Rattle.std.proofs.lemmas.Option.{slice_get_read}
use Rattle.ps_versions.specs.declared.data.Course.{Course}
use Rattle.ps_versions.proofs.splicing.add_version.Goals as goal

pub returns : goal.returns
returns c =
    let cs = c.args.courses.now.items in
    let was = c.index_mut-course.result.now in
    let near : c.args.index < length cs = omega (arith, c.requires.there, c.args.courses.now.ok.0) in
    let course : Course = record { qubits = was.qubits; opened = was.opened; editions = c.push_reserved.new.self } in
    record {
      was = was;
      course = course;
      there = slice_get_read cs (length cs) c.args.index was refl near c.index_mut-course.ensures.value;
      changed = refl;
      qubits = refl;
      opened = refl;
      editions = c.push_reserved.ensures.items;
    }
