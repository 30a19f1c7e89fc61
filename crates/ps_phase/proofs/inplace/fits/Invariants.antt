use Rattle.std.proofs.Common.{take}
use Rattle.ps_phase.specs.Placing.{Fits}
use Rattle.ps_phase.proofs.inplace.fits.Given as goal

abbrev pub invariant-loop-other : goal.invariant-loop-other
invariant-loop-other l = Fits l.terms (take l.other-index l.others)
