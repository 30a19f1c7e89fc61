use Rattle.std.proofs.Common.{◌<◌, ◌∙◌, sym, length, subst}
use Rattle.ps_prim.specs.declared.prims.Primitive.TheVariants.{Cx as CxPrim}
use Rattle.qasm_expand.specs.declared.defs.Called.TheVariants.{Def as ADef}
use Rattle.qasm_expand.specs.Bodies.{Tells, Comes, call}
use Rattle.std.specs.Prelude.{[]}
use Rattle.qasm_expand.specs.Targets.{exprs_of}
use Rattle.qasm_expand.proofs.Expressions.{exprs_length}
use Rattle.qasm_expand.proofs.Steps.{gate_below, told_one, told_count, told_within, told_universal, told_no_angle, told_controlled, told_replaced}
use Rattle.qasm_expand.proofs.bodies.comes.Goals as goal

pub replaced-requires-clause-there : goal.replaced-requires-clause-there
replaced-requires-clause-there c =
    let h = gate_below (length c.args.defs.now) c.in-Def.def c.args.gate c.in-Def.is c.requires.there in
    subst (λ ds. c.in-Def.def < length ds) (sym c.as_slice.ensures) h

pub returns-in-Ok-clause-told : goal.returns-in-Ok-clause-told
returns-in-Ok-clause-told c =
    told_one c.args.defs.now c.args.gate (exprs_of c.args.formulas.now) c.single.result c.in-Ok.prim c.single.ensures (told_universal c.args.defs.now c.args.gate (exprs_of c.args.formulas.now) c.in-Ok.prim c.in-U.is c.in-Ok.ensures)

pub returns-in-Err-clause-told : goal.returns-in-Err-clause-told
returns-in-Err-clause-told c = told_no_angle c.args.defs.now c.args.gate (exprs_of c.args.formulas.now) c.in-Err.stop c.in-U.is c.in-Err.ensures

pub returns-in-Cx-clause-told : goal.returns-in-Cx-clause-told
returns-in-Cx-clause-told c =
    told_one c.args.defs.now c.args.gate (exprs_of c.args.formulas.now) c.single-in-Cx.result (CxPrim 0 1) c.single-in-Cx.ensures (told_controlled c.args.defs.now c.args.gate (exprs_of c.args.formulas.now) c.in-Cx.is (exprs_length c.args.formulas.now ∙ c.requires.arity))

pub returns-in-Def-clause-told : goal.returns-in-Def-clause-told
returns-in-Def-clause-told c =
    told_replaced c.args.defs.now c.args.gate (exprs_of c.args.formulas.now) c.replaced.result c.in-Def.def c.in-Def.is
    (subst (λ ds. Tells c.replaced.result (Comes ds [] (call (ADef c.in-Def.def) (exprs_of c.args.formulas.now)))) c.as_slice.ensures c.replaced.ensures)

pub returns-in-Def-clause-count : goal.returns-in-Def-clause-count
returns-in-Def-clause-count c =
    told_count c.args.defs.now c.args.gate (exprs_of c.args.formulas.now) c.replaced.result c.requires.sound c.requires.few
    (told_replaced c.args.defs.now c.args.gate (exprs_of c.args.formulas.now) c.replaced.result c.in-Def.def c.in-Def.is
    (subst (λ ds. Tells c.replaced.result (Comes ds [] (call (ADef c.in-Def.def) (exprs_of c.args.formulas.now)))) c.as_slice.ensures c.replaced.ensures))

pub returns-in-Def-clause-within : goal.returns-in-Def-clause-within
returns-in-Def-clause-within c =
    told_within c.args.defs.now c.args.gate (exprs_of c.args.formulas.now) c.replaced.result c.requires.sound
    (told_replaced c.args.defs.now c.args.gate (exprs_of c.args.formulas.now) c.replaced.result c.in-Def.def c.in-Def.is
    (subst (λ ds. Tells c.replaced.result (Comes ds [] (call (ADef c.in-Def.def) (exprs_of c.args.formulas.now)))) c.as_slice.ensures c.replaced.ensures))
