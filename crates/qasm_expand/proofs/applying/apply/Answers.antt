use Rattle.std.proofs.Common.{refl, sym}
use Rattle.std.proofs.lemmas.Result.{err_from_is_err_and}
use Rattle.qasm_expand.specs.States.{in_block}
use Rattle.qasm_expand.proofs.Applied.{became_missed, became_broken, known_gate, known_arity, known_size, known_prims, known_targets, known_different, became_applied, still_sound}
use Rattle.qasm_expand.proofs.applying.apply.Goals as goal

pub returns-in_err-aimed-clause-applies : goal.returns-in_err-aimed-clause-applies
returns-in_err-aimed-clause-applies c = became_missed c.args.bytes.now (in_block c.args.registers.now c.args.defs.now c.args.bound.now c.args.items.now) c.args.call.now c.in_err-aimed.field-0.0 c.from_residual.result (err_from_is_err_and c.from_residual.result c.from_residual.ensures.1) c.in_err-aimed.ensures

pub add-requires-clause-few : goal.add-requires-clause-few
add-requires-clause-few c = (c.in-Some.ensures c.args.defs.now c.requires.ready).few

pub add-requires-clause-prims : goal.add-requires-clause-prims
add-requires-clause-prims c = known_prims c.args.bytes.now (in_block c.args.registers.now c.args.defs.now c.args.bound.now c.args.items.now) c.args.call.now c.in_ok-aimed.aimed (sym c.in_ok-aimed.ensures) c.requires.sound c.as_slice-targets.result.now c.as_slice-targets.ensures c.index_count-count.result c.index_count-count.ensures c.in-Some.prims.now c.in-Some.prims.now refl (c.in-Some.ensures c.args.defs.now c.requires.ready).within

pub add-requires-clause-targets : goal.add-requires-clause-targets
add-requires-clause-targets c = known_targets c.args.bytes.now (in_block c.args.registers.now c.args.defs.now c.args.bound.now c.args.items.now) c.args.call.now c.in_ok-aimed.aimed (sym c.in_ok-aimed.ensures) c.requires.sound c.as_slice-targets.result.now c.as_slice-targets.ensures c.index_count-count.result c.index_count-count.ensures

pub add-requires-clause-different : goal.add-requires-clause-different
add-requires-clause-different c = known_different c.args.bytes.now (in_block c.args.registers.now c.args.defs.now c.args.bound.now c.args.items.now) c.args.call.now c.in_ok-aimed.aimed (sym c.in_ok-aimed.ensures) c.requires.sound c.as_slice-targets.result.now c.as_slice-targets.ensures c.index_count-count.result c.index_count-count.ensures

pub returns-in-Some-clause-applies : goal.returns-in-Some-clause-applies
returns-in-Some-clause-applies c =
    let w = (c.in-Some.ensures c.args.defs.now c.requires.ready) in
    became_applied c.args.bytes.now (in_block c.args.registers.now c.args.defs.now c.args.bound.now c.args.items.now) c.args.call.now c.in_ok-aimed.aimed (sym c.in_ok-aimed.ensures) c.requires.sound c.as_slice-targets.result.now c.as_slice-targets.ensures c.index_count-count.result c.index_count-count.ensures c.in-Some.prims.now c.in-Some.prims.now refl w.within c.add.new.items c.in_ok-add.ensures c.items-formulas.result.now c.items-formulas.ensures w.comes

pub returns-in-Some-clause-sound : goal.returns-in-Some-clause-sound
returns-in-Some-clause-sound c = still_sound c.args.bytes.now (in_block c.args.registers.now c.args.defs.now c.args.bound.now c.args.items.now) c.args.call.now c.in_ok-aimed.aimed (sym c.in_ok-aimed.ensures) c.requires.sound c.as_slice-targets.result.now c.as_slice-targets.ensures c.index_count-count.result c.index_count-count.ensures c.in-Some.prims.now c.in-Some.prims.now refl (c.in-Some.ensures c.args.defs.now c.requires.ready).within c.add.new.items c.in_ok-add.ensures

pub comes-requires-clause-there : goal.comes-requires-clause-there
comes-requires-clause-there c = known_gate c.args.bytes.now (in_block c.args.registers.now c.args.defs.now c.args.bound.now c.args.items.now) c.args.call.now c.in_ok-aimed.aimed (sym c.in_ok-aimed.ensures) c.requires.sound

pub comes-requires-clause-arity : goal.comes-requires-clause-arity
comes-requires-clause-arity c = known_arity c.args.bytes.now (in_block c.args.registers.now c.args.defs.now c.args.bound.now c.args.items.now) c.args.call.now c.in_ok-aimed.aimed (sym c.in_ok-aimed.ensures) c.requires.sound c.items-formulas.result.now c.items-formulas.ensures

pub comes-requires-clause-few : goal.comes-requires-clause-few
comes-requires-clause-few c = known_size c.args.bytes.now (in_block c.args.registers.now c.args.defs.now c.args.bound.now c.args.items.now) c.args.call.now c.in_ok-aimed.aimed (sym c.in_ok-aimed.ensures) c.requires.sound

pub returns-in-Err-clause-applies : goal.returns-in-Err-clause-applies
returns-in-Err-clause-applies c =
    became_broken c.args.bytes.now (in_block c.args.registers.now c.args.defs.now c.args.bound.now c.args.items.now) c.args.call.now c.in_ok-aimed.aimed (sym c.in_ok-aimed.ensures) c.in-Err.broken c.broken_at.result c.items-formulas.result.now c.broken_at.ensures c.items-formulas.ensures c.in-Err.ensures.told

pub add-requires-2-clause-prims : goal.add-requires-2-clause-prims
add-requires-2-clause-prims c = known_prims c.args.bytes.now (in_block c.args.registers.now c.args.defs.now c.args.bound.now c.args.items.now) c.args.call.now c.in_ok-aimed.aimed (sym c.in_ok-aimed.ensures) c.requires.sound c.as_slice-targets.result.now c.as_slice-targets.ensures c.index_count-count.result c.index_count-count.ensures c.in-Ok.prims.items c.deref.result.now c.deref.ensures.value c.in-Ok.ensures.within

pub add-requires-2-clause-targets : goal.add-requires-2-clause-targets
add-requires-2-clause-targets c = known_targets c.args.bytes.now (in_block c.args.registers.now c.args.defs.now c.args.bound.now c.args.items.now) c.args.call.now c.in_ok-aimed.aimed (sym c.in_ok-aimed.ensures) c.requires.sound c.as_slice-targets.result.now c.as_slice-targets.ensures c.index_count-count.result c.index_count-count.ensures

pub add-requires-2-clause-different : goal.add-requires-2-clause-different
add-requires-2-clause-different c = known_different c.args.bytes.now (in_block c.args.registers.now c.args.defs.now c.args.bound.now c.args.items.now) c.args.call.now c.in_ok-aimed.aimed (sym c.in_ok-aimed.ensures) c.requires.sound c.as_slice-targets.result.now c.as_slice-targets.ensures c.index_count-count.result c.index_count-count.ensures

pub returns-clause-applies : goal.returns-clause-applies
returns-clause-applies c = became_applied c.args.bytes.now (in_block c.args.registers.now c.args.defs.now c.args.bound.now c.args.items.now) c.args.call.now c.in_ok-aimed.aimed (sym c.in_ok-aimed.ensures) c.requires.sound c.as_slice-targets.result.now c.as_slice-targets.ensures c.index_count-count.result c.index_count-count.ensures c.in-Ok.prims.items c.deref.result.now c.deref.ensures.value c.in-Ok.ensures.within c.add-2.new.items c.in_ok-add-2.ensures c.items-formulas.result.now c.items-formulas.ensures c.in-Ok.ensures.told

pub returns-clause-sound : goal.returns-clause-sound
returns-clause-sound c = still_sound c.args.bytes.now (in_block c.args.registers.now c.args.defs.now c.args.bound.now c.args.items.now) c.args.call.now c.in_ok-aimed.aimed (sym c.in_ok-aimed.ensures) c.requires.sound c.as_slice-targets.result.now c.as_slice-targets.ensures c.index_count-count.result c.index_count-count.ensures c.in-Ok.prims.items c.deref.result.now c.deref.ensures.value c.in-Ok.ensures.within c.add-2.new.items c.in_ok-add-2.ensures
