use Rattle.std.proofs.Common.{◌∙◌, sym, ap, option_map, Err}
use Rattle.qasm_expand.specs.Tables.{register_of}
use Rattle.qasm_expand.specs.Maps.{extent_of}
use Rattle.qasm_expand.specs.Checks.{spelled}
use Rattle.qasm_expand.proofs.Aiming.{extent_within, target_found, target_missed}
use Rattle.qasm_expand.proofs.targets.target.Goals as goal

pub place-requires-clause-few : goal.place-requires-clause-few
place-requires-clause-few c = extent_within c.args.registers.now c.spelled.result.now c.in-Some.register c.requires.sound (sym c.in-Some.ensures)

pub returns-in-Some : goal.returns-in-Some
returns-in-Some c =
    let e = ap (λ n. option_map extent_of (register_of c.args.registers.now n)) (sym c.spelled.ensures) in
    c.place.ensures ∙ sym (target_found (register_of c.args.registers.now (spelled c.args.bytes.now c.args.arg.name)) c.in-Some.register c.args.bytes.now c.args.arg (e ∙ sym c.in-Some.ensures))

pub returns-in-None : goal.returns-in-None
returns-in-None c =
    let e = ap (λ n. option_map extent_of (register_of c.args.registers.now n)) (sym c.spelled.ensures) in
    let m = target_missed (register_of c.args.registers.now (spelled c.args.bytes.now c.args.arg.name)) c.args.bytes.now c.args.arg (e ∙ sym c.in-None.ensures) in
    ap (λ f. Err f) c.fault.ensures ∙ sym m
