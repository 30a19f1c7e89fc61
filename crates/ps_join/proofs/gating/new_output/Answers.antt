use Rattle.std.proofs.Common.{◌<◌, ◌+◌, arith, get_or, [], rules}
use Rattle.ps_join.proofs.Touching.{path_below, path_part}
use Rattle.ps_join.proofs.gating.new_output.Goals as goal

pub overflow_add-y : goal.overflow_add-y
overflow_add-y c =
    let o = c.requires.changes.path c.in-Path.q c.in-Path.y c.in-Path.is in
    let b : c.in-Path.y < c.args.names.now.n + c.args.names.now.m2 = path_below c.args.names.now.n c.args.names.now.m2 c.in-Path.q c.in-Path.y c.args.polys.now o.0.0 o.0.1.0 c.requires.below in
    let r : c.in-Path.y + c.args.names.now.m1 < 512 = omega (arith, b, c.args.names.now.room) in
    search rules

pub var-requires : goal.var-requires
var-requires c =
    let o = c.requires.changes.path c.in-Path.q c.in-Path.y c.in-Path.is in
    let b : c.in-Path.y < c.args.names.now.n + c.args.names.now.m2 = path_below c.args.names.now.n c.args.names.now.m2 c.in-Path.q c.in-Path.y c.args.polys.now o.0.0 o.0.1.0 c.requires.below in
    omega (arith, b, c.args.names.now.room)

pub returns-in_ok-poly-in-Path : goal.returns-in_ok-poly-in-Path
returns-in_ok-poly-in-Path c =
    let o = c.requires.changes.path c.in-Path.q c.in-Path.y c.in-Path.is in
    let b : c.in-Path.y < c.args.names.now.n + c.args.names.now.m2 = path_below c.args.names.now.n c.args.names.now.m2 c.in-Path.q c.in-Path.y c.args.polys.now o.0.0 o.0.1.0 c.requires.below in
    λ fs. (o.0.0, (o.0.1.1, path_part c.args.names.now.n c.args.names.now.m1 c.args.names.now.m2 c.in-Path.y fs (get_or c.args.polys.now c.in-Path.q []) c.in_ok-poly-in-Path.poly o.1 b (omega (arith, b, c.args.names.now.room)) o.0.1.0 c.in_ok-poly-in-Path.ensures))

pub returns-in-Flip : goal.returns-in-Flip
returns-in-Flip c = λ fs. c.requires.changes.flip c.in-Flip.q c.in-Flip.is
