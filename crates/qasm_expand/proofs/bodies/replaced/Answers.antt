use Rattle.std.proofs.Common.{refl, Ok}
use Rattle.qasm_expand.specs.Targets.{exprs_of}
use Rattle.qasm_expand.proofs.Steps.{own_none, own_off, first_fits, own_made, own_stopped}
use Rattle.qasm_expand.proofs.bodies.replaced.Goals as goal

pub returns-then-gate-eq0 : goal.returns-then-gate-eq0
returns-then-gate-eq0 c =
    own_none c.args.defs.now c.args.def c.index-defs-def.result (exprs_of c.args.formulas.now) c.requires.there c.index-defs-def.is c.new.result.items c.if-gate-eq0.true c.new.ensures.items

pub returns-in-Err : goal.returns-in-Err
returns-in-Err c =
    own_off c.args.defs.now c.args.def c.index-defs-def.result (exprs_of c.args.formulas.now) c.requires.there c.index-defs-def.is c.in-Err.stop c.if-gate-eq0.false c.in-Err.ensures

pub whole-requires-clause-first : goal.whole-requires-clause-first
whole-requires-clause-first c =
    first_fits c.args.defs.now c.args.def c.index-defs-def.result (exprs_of c.args.formulas.now) c.requires.there c.index-defs-def.is _ refl c.in-Ok-first_places.ensures

pub returns-in-Ok-whole : goal.returns-in-Ok-whole
returns-in-Ok-whole c =
    own_made c.args.defs.now c.args.def c.index-defs-def.result (exprs_of c.args.formulas.now) c.requires.there c.index-defs-def.is record { def = c.args.def; next = 0; values = c.in-Ok.values; places = c.in-Ok-first_places.places } (Ok c.in-Ok-whole.prims.items) c.requires.sound c.if-gate-eq0.false refl refl c.in-Ok-first_places.ensures c.in-Ok.ensures c.in-Ok-whole.ensures

pub returns-in-Err-whole : goal.returns-in-Err-whole
returns-in-Err-whole c =
    own_stopped c.args.defs.now c.args.def c.index-defs-def.result (exprs_of c.args.formulas.now) c.requires.there c.index-defs-def.is record { def = c.args.def; next = 0; values = c.in-Ok.values; places = c.in-Ok-first_places.places } c.in-Err-whole.fault c.requires.sound c.if-gate-eq0.false refl refl c.in-Ok-first_places.ensures c.in-Ok.ensures c.in-Err-whole.ensures
