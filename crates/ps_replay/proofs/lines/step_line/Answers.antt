use Rattle.std.proofs.Common.{◌∙◌, ap, arith}
use Rattle.ps_replay.specs.Places.{stack}
use Rattle.ps_replay.proofs.Stacking.{popped, stack_push, step_none, step_room, step_does, step_no_redex, step_over}
use Rattle.ps_replay.proofs.lines.step_line.Goals as goal

pub returns-in-None : goal.returns-in-None
returns-in-None c = λ n A B. step_none n A B c.args.held.now.items c.args.step (omega (arith, c.in-None.ensures.cases.0))

pub rewrite-requires : goal.rewrite-requires
rewrite-requires c = step_room (stack c.args.held.now.items) (stack c.pop.new.self.items) c.in-Some.last.place c.in-Some.last.sum c.requires (popped c.args.held.now.items c.pop.new.self.items c.in-Some.last c.in-Some.ensures.items)

pub returns-in-Ok : goal.returns-in-Ok
returns-in-Ok c = λ n A B.
    step_does n A B (stack c.args.held.now.items) (stack c.push.new.self.items) (stack c.pop.new.self.items) c.in-Some.last.place c.in-Some.last.sum c.in-Ok.sum c.args.step (popped c.args.held.now.items c.pop.new.self.items c.in-Some.last c.in-Some.ensures.items)
    (ap stack c.in_ok-push-in-Ok.ensures.items ∙ stack_push c.pop.new.self.items _) c.in-Ok.ensures.applies c.in-Ok.ensures.fits c.in-Ok.ensures.sum

pub returns-in-Err-NotARedex : goal.returns-in-Err-NotARedex
returns-in-Err-NotARedex c = λ n A B.
    step_no_redex n A B (stack c.args.held.now.items) (stack c.pop.new.self.items) c.in-Some.last.place c.in-Some.last.sum c.args.step (popped c.args.held.now.items c.pop.new.self.items c.in-Some.last c.in-Some.ensures.items)
    (c.in-Err-NotARedex.ensures.redex c.in-Err-NotARedex.field-0-0 c.in-Err-NotARedex.field-0-is).1

pub returns-in-Err-Passed : goal.returns-in-Err-Passed
returns-in-Err-Passed c = λ n A B.
    let w = c.in-Err-Passed.ensures.passed c.in-Err-Passed.field-0-0 c.in-Err-Passed.field-0-1 c.in-Err-Passed.field-0-is in
    step_over n A B (stack c.args.held.now.items) (stack c.pop.new.self.items) c.in-Some.last.place c.in-Some.last.sum c.args.step c.in-Err-Passed.field-0-0 (popped c.args.held.now.items c.pop.new.self.items c.in-Some.last c.in-Some.ensures.items) w.1 w.2
