use Rattle.ps_phase.proofs.Absorbing.{fits_at, not_zero}
use Rattle.ps_phase.proofs.inplace.fits_one.Goals as goal

pub returns-in-Some : goal.returns-in-Some
returns-in-Some c = λ h. fits_at c.args.terms.now c.args.other.now c.index-terms-place.result c.in-Some.place c.add-sum.result c.units.result c.requires c.in-Some.ensures c.index-terms-place.is c.add-sum.ensures c.units.ensures (not_zero c.units.result h)
