use Rattle.ps_mono.proofs.LowOrders.{upper, low_test}
use Rattle.ps_mono.proofs.mono.Mono.is_low.Goals as goal

pub returns : goal.returns
unfolding upper
returns c = low_test c.self.inside.words _ c.self.view_is c.self.invariant.fits
