use Rattle.ps_phase.proofs.Absorbing.{fits_more}
use Rattle.ps_phase.proofs.inplace.fits.Goals as goal

pub loop-other-preserved : goal.loop-other-preserved
loop-other-preserved c = fits_more c.args.terms.now c.args.others.now c.loop-other.other-index c.other-item.result c.loop-other-test.true c.other-item.is c.loop-other.invariant (c.fits_one.ensures c.if-not-fits_one.false)
