use Rattle.std.proofs.Common.{arith}
use Rattle.qasm_expand.proofs.Steps.{gate_below, none_made, some_made, universal_made, universal_off, controlled_made}
use Rattle.qasm_expand.proofs.bodies.outcome.Goals as goal

pub bounds-defs-def : goal.bounds-defs-def
bounds-defs-def c = let h = gate_below c.args.frame.now.def c.in-Def.def c.args.inner.now.gate c.in-Def.is c.requires.inner.earlier in omega (arith, h)

pub returns-then-gate-eq0 : goal.returns-then-gate-eq0
returns-then-gate-eq0 c =
    let h = gate_below c.args.frame.now.def c.in-Def.def c.args.inner.now.gate c.in-Def.is c.requires.inner.earlier in
    none_made c.args.defs.now c.args.frame.now c.args.inner.now c.in-Def.def c.index-defs-def.result c.in-Def.is (omega (arith, h)) c.index-defs-def.is c.if-gate-eq0.true

pub opened-requires-clause-there : goal.opened-requires-clause-there
opened-requires-clause-there c = let h = gate_below c.args.frame.now.def c.in-Def.def c.args.inner.now.gate c.in-Def.is c.requires.inner.earlier in omega (arith, h)

pub opened-requires-clause-earlier : goal.opened-requires-clause-earlier
opened-requires-clause-earlier c = gate_below c.args.frame.now.def c.in-Def.def c.args.inner.now.gate c.in-Def.is c.requires.inner.earlier

pub opened-requires-clause-some : goal.opened-requires-clause-some
opened-requires-clause-some c =
    let h = gate_below c.args.frame.now.def c.in-Def.def c.args.inner.now.gate c.in-Def.is c.requires.inner.earlier in
    some_made c.args.defs.now c.args.frame.now c.args.inner.now c.in-Def.def c.index-defs-def.result (omega (arith, h)) c.index-defs-def.is c.if-gate-eq0.false

pub returns-in-Ok : goal.returns-in-Ok
returns-in-Ok c = universal_made c.args.defs.now c.args.frame.now c.args.inner.now c.in-Ok.prim c.in-U.is c.in-Ok.ensures

pub returns-in-Err : goal.returns-in-Err
returns-in-Err c = universal_off c.args.defs.now c.args.frame.now c.args.inner.now c.in-Err.fault c.in-U.is c.in-Err.ensures

pub returns-in-Cx : goal.returns-in-Cx
returns-in-Cx c = controlled_made c.args.defs.now c.args.frame.now c.args.inner.now c.controlled.result c.in-Cx.is c.requires.inner.params c.controlled.ensures
