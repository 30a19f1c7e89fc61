use Rattle.std.proofs.Common.{◌+◌, arith, refl, length-drop}
use Rattle.std.proofs.lemmas.List.{take_all}
use Rattle.ps_steps.proofs.Following.{lacks_more, lacks_all, splits_at}
use Rattle.ps_steps.proofs.pieces.split.Goals as goal

pub returns-then-b-mark : goal.returns-then-b-mark
returns-then-b-mark c =
    let e = length-drop (c.loop-i.i + 1) c.args.text.now in
    splits_at c.args.mark c.args.text.now c.loop-i.i _ _ c.loop-i-test.true c.if-b-mark.true c.loop-i.invariant refl (take_all _ _ (omega (arith, e)))

pub loop-i-preserved : goal.loop-i-preserved
loop-i-preserved c = lacks_more c.args.mark c.args.text.now c.loop-i.i c.loop-i-test.true c.if-b-mark.false c.loop-i.invariant

pub returns : goal.returns
returns c = lacks_all c.args.mark c.args.text.now c.loop-i.i (omega arith) c.loop-i.invariant
