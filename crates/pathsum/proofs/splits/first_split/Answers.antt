use Rattle.std.proofs.Common.{refl, arith}
use Rattle.pathsum.proofs.Splitting.{split_first, none_before_next, none_at_all}
use Rattle.pathsum.proofs.splits.first_split.Goals as goal

pub returns-in-Some : goal.returns-in-Some
returns-in-Some c = split_first c.args.bytes.now _ c.in-Some.rest.now c.loop-at.at _ (omega (arith, c.loop-at-test.true)) refl c.loop-at.invariant c.in-Some.ensures refl

pub loop-at-preserved : goal.loop-at-preserved
loop-at-preserved c = none_before_next c.args.bytes.now c.loop-at.at c.loop-at.invariant c.in-None.ensures

pub returns : goal.returns
returns c = none_at_all c.args.bytes.now c.loop-at.at (omega (arith, c.loop-at-test.false)) c.loop-at.invariant
