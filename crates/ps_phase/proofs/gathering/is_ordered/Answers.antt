use Rattle.std.proofs.Common.{arith}
use Rattle.ps_phase.proofs.Runs.{all_follow, follow_more}
use Rattle.ps_phase.proofs.gathering.is_ordered.Goals as goal

pub loop-place-preserved : goal.loop-place-preserved
loop-place-preserved c = follow_more c.args.terms.now c.loop-place.place c.loop-place.invariant (c.follows.ensures c.if-not-follows.false)

pub returns : goal.returns
returns c t = all_follow _ (λ i l. c.loop-place.invariant i (omega arith))
