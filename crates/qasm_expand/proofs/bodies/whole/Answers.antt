use Rattle.std.proofs.Common.{◌≡◌, ◌<◌, ◌+◌, ◌∙◌, ap, arith, length, sym, subst, vec_len, rules, None}
use Rattle.std.specs.Prelude.{MatchOption}
use Rattle.qasm_expand.specs.declared.frame.Frame.{Frame}
use Rattle.qasm_expand.specs.Frames.{stack_work, frame_work}
use Rattle.qasm_expand.proofs.Machine.{stack_work_more}
use Rattle.qasm_expand.proofs.Steps.{whole_next, whole_off, whole_end, no_frames}
use Rattle.qasm_expand.proofs.bodies.whole.Goals as goal

pub loop-frame-smaller : goal.loop-frame-smaller
loop-frame-smaller c =
    let a : stack_work c.args.defs.now c.loop-frame.stack.items ≡ stack_work c.args.defs.now c.pop.new.self.items + frame_work c.args.defs.now c.in-Some.frame = ap (stack_work c.args.defs.now) c.in-Some.ensures.items ∙ stack_work_more c.args.defs.now c.pop.new.self.items c.in-Some.frame in
    let b : stack_work c.args.defs.now c.step.new.stack.items < stack_work c.args.defs.now c.pop.new.self.items + frame_work c.args.defs.now c.in-Some.frame = c.in-Ok.ensures.less in
    let e : stack_work c.args.defs.now c.step.new.stack.items < stack_work c.args.defs.now c.loop-frame.stack.items = omega (arith, a, b) in e

pub loop-frame-preserved : goal.loop-frame-preserved
loop-frame-preserved c = record {
  frames = c.in-Ok.ensures.frames;
  rest = whole_next c.args.defs.now c.args.first c.loop-frame.stack.items c.pop.new.self.items c.step.new.stack.items c.in-Some.frame c.loop-frame.out.items c.step.new.out.items c.loop-frame.invariant.rest c.in-Some.ensures.items c.in-Ok.ensures.steps;
}

pub returns-in-Err : goal.returns-in-Err
returns-in-Err c = whole_off c.args.defs.now c.args.first c.loop-frame.stack.items c.pop.new.self.items c.step.new.stack.items c.in-Some.frame c.loop-frame.out.items c.step.new.out.items c.in-Err.fault c.loop-frame.invariant.rest c.in-Some.ensures.items c.in-Err.ensures.steps

pub returns : goal.returns
returns c =
    let k : MatchOption None (vec_len c.loop-frame.stack ≡ 0 × vec_len c.pop.new.self ≡ 0) (λ (x : Frame). vec_len c.pop.new.self + 1 ≡ vec_len c.loop-frame.stack) =
    subst (λ o. MatchOption o (vec_len c.loop-frame.stack ≡ 0 × vec_len c.pop.new.self ≡ 0) (λ (x : Frame). vec_len c.pop.new.self + 1 ≡ vec_len c.loop-frame.stack)) c.in_default.is c.pop.ensures.cases in
    let m : vec_len c.loop-frame.stack ≡ length c.loop-frame.stack.items = search rules in
    let n : length c.loop-frame.stack.items ≡ 0 = sym m ∙ k.0 in
    whole_end c.args.defs.now c.args.first c.loop-frame.stack.items c.loop-frame.out.items c.loop-frame.invariant.rest (no_frames c.loop-frame.stack.items n)
