use Rattle.std.proofs.Common.{arith}
use Rattle.ps_mono.proofs.Truths.{all_hold, one_fails}
use Rattle.ps_mono.proofs.mono.Mono.holds.Goals as goal

pub returns-then-self-i-ne0 : goal.returns-then-self-i-ne0
returns-then-self-i-ne0 c = one_fails _ _ _ _ c.loop-i.i c.self.view_is c.at.view_is c.self.invariant.fits c.at.invariant c.loop-i-test.true c.if-self-i-ne0.true

pub returns : goal.returns
returns c = all_hold _ _ _ _ c.self.view_is c.at.view_is c.at.invariant (λ i l. c.loop-i.invariant i (omega arith))
