use Rattle.ps_normal.proofs.Suspecting.{path_place, path_suspects, stay_suspects, flip_suspects}
use Rattle.ps_normal.proofs.prims.suspects.Goals as goal

pub variables-requires : goal.variables-requires
variables-requires c = path_place c.args.first.now c.args.gate.now.sum.value _ c.in-Path.q c.in-Path.y c.requires.ready c.change.ensures.changes c.in-Path.is

pub returns-in-Path : goal.returns-in-Path
returns-in-Path c = path_suspects c.args.first.now c.args.gate.now.sum.value c.deref.result.now _ c.in-Path.q c.in-Path.y c.variables.result c.requires.ready c.change.ensures.changes c.in-Path.is c.deref.ensures c.if-own-eq1.true c.variables.ensures

pub returns-in-Stay : goal.returns-in-Stay
returns-in-Stay c = stay_suspects c.args.first.now c.args.gate.now.sum.value c.deref.result.now _ c.one.result c.requires.ready c.change.ensures.changes c.in-Stay.is c.deref.ensures c.if-own-eq0.true

pub returns-in-Flip : goal.returns-in-Flip
returns-in-Flip c = flip_suspects c.args.first.now c.args.gate.now.sum.value c.deref.result.now _ c.in-Flip.q c.one-in-Flip.result c.requires.ready c.change.ensures.changes c.in-Flip.is c.deref.ensures c.if-own-eq0-2.true
