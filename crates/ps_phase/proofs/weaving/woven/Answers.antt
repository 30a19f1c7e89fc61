use Rattle.std.proofs.Common.{arith}
use Rattle.ps_phase.proofs.Weaves.{front_low, front_same, step_put, step_moved}
use Rattle.ps_phase.proofs.weaving.woven.Goals as goal

pub returns-then-place-eq0 : goal.returns-then-place-eq0
returns-then-place-eq0 c xs ys fx fy e s = step_put xs ys c.args.place.left c.args.place.more c.args.place.from _ _ _ c.args.other.now c.args.terms.now.items _ c.put.ensures.left c.put.ensures.more c.put.ensures.from c.put.ensures.terms fy e (λ d k h. absurd (omega (arith, c.if-place-eq0.true))) s

pub returns-in-Less : goal.returns-in-Less
returns-in-Less c xs ys fx fy e s =
    step_put xs ys c.args.place.left c.args.place.more c.args.place.from _ _ _ c.args.other.now c.args.terms.now.items _ c.put-in-Less.ensures.left c.put-in-Less.ensures.more c.put-in-Less.ensures.from c.put-in-Less.ensures.terms fy e
    (front_low xs ys c.args.terms.now.items c.args.place.left c.args.place.more c.args.place.from c.index-last.result.now c.args.other.now fx c.if-place-eq0.false c.index-last.ensures c.in-Less.ensures s) s

pub met-requires-clause-same : goal.met-requires-clause-same
met-requires-clause-same c = front_same c.args.terms.now.items c.args.place.left c.index-last.result.now c.args.other.now.mono c.if-place-eq0.false (omega (arith, c.requires.left, c.requires.room)) c.index-last.ensures c.in-Equal.ensures

pub returns-in-Equal : goal.returns-in-Equal
returns-in-Equal c xs ys fx fy e s = let r = c.met.ensures xs ys fx fy e s in (r.0, omega (arith, r.1))

pub returns-in-Greater : goal.returns-in-Greater
returns-in-Greater c xs ys fx fy e s =
    step_moved xs ys c.args.place.left c.args.place.more c.args.place.from _ _ _ c.index-last.result.now c.args.other.now c.args.terms.now.items _ c.moved.ensures.left c.moved.ensures.more c.moved.ensures.from c.requires.more (c.moved.ensures.terms c.index-last.result.now) fx fy c.index-last.ensures e c.in-Greater.ensures s
