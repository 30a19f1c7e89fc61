use Rattle.ps_mono.proofs.Calls.{eq_is}
use Rattle.ps_mono.proofs.mono.MonoPartialEq.eq.Goals as goal

pub returns : goal.returns
returns c = eq_is _ _ _ _ _ c.eq.ensures c.self.view_is c.other.view_is c.self.invariant.fits c.other.invariant.fits
