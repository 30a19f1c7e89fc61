use Rattle.ps_phase.proofs.Absorbing.{absorbing_start, absorbing_more}
use Rattle.ps_phase.proofs.inplace.absorb.Goals as goal

pub loop-other-init : goal.loop-other-init
loop-other-init c = absorbing_start _ _ c.requires.form c.requires.order c.requires.fit

pub loop-other-preserved : goal.loop-other-preserved
loop-other-preserved c = absorbing_more c.args.terms.now.items c.args.others.now c.loop-other.terms.items _ c.loop-other.other-index c.other-item.result c.loop-other-test.true c.other-item.is c.absorb_one.ensures c.loop-other.invariant
