use Rattle.ps_normal.proofs.PlainTaking.{held_within, next_plain, usable_plain, plain_over}
use Rattle.ps_normal.proofs.takings.take_plain.Goals as goal

pub join_prim-requires-clause-within : goal.join_prim-requires-clause-within
join_prim-requires-clause-within c = held_within c.args.n c.args.place c.args.prim.now c.args.sum c.requires.usable c.requires.within

pub returns-in_ok-push-in-Ok-clause-taken : goal.returns-in_ok-push-in-Ok-clause-taken
returns-in_ok-push-in-Ok-clause-taken c = λ A more w.
    next_plain c.args.n c.args.place A more c.args.moves.now.items c.push.new.self.items c.push-in-Ok.new.self.items c.args.prim.now c.args.sum c.in-Ok.joined c.requires.plain c.requires.width c.requires.within c.requires.usable
    c.in_ok-push.ensures.items c.in_ok-push-in-Ok.ensures.items c.in-Ok.ensures.sum c.in-Ok.ensures.fits w

pub returns-in_ok-push-in-Ok-clause-usable : goal.returns-in_ok-push-in-Ok-clause-usable
returns-in_ok-push-in-Ok-clause-usable c = usable_plain c.args.n c.args.place c.args.prim.now c.args.sum c.in-Ok.joined c.requires.plain c.requires.width c.requires.within c.requires.usable c.in-Ok.ensures.sum

pub returns-in_ok-evidence-in-Err-Passed-clause-taken : goal.returns-in_ok-evidence-in-Err-Passed-clause-taken
returns-in_ok-evidence-in-Err-Passed-clause-taken c = λ A more w.
    plain_over c.args.n c.args.place A more c.args.moves.now.items c.push.new.self.items c.args.prim.now c.args.sum c.in_ok-second-in-Err-Passed.second c.in-Err-Passed.first c.in-Err-Passed.passed c.in-Err-Passed.field-0 c.in_ok-evidence-in-Err-Passed.field-0
    c.requires.plain c.requires.usable c.in_ok-second-in-Err-Passed.ensures.sum c.in_ok-push.ensures.items c.in-Err-Passed.field-0-is c.in-Err-Passed.ensures.passed c.in_ok-evidence-in-Err-Passed.ensures w
