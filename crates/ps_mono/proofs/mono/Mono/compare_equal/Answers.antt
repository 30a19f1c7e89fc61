use Rattle.ps_mono.proofs.Orders.{differ_at, first_less, second_less, all_same}
use Rattle.ps_mono.proofs.mono.Mono.compare_equal.Goals as goal

pub overflow_shr-self-inside : goal.overflow_shr-self-inside
overflow_shr-self-inside c = (differ_at _ _ (c.self.invariant.fits.small c.loop-i.i) (c.other.invariant.fits.small c.loop-i.i) c.if-differing-ne0.true).low

pub returns-then-self-i-eq1 : goal.returns-then-self-i-eq1
returns-then-self-i-eq1 c = first_less _ _ _ _ c.loop-i.i _ (differ_at _ _ (c.self.invariant.fits.small c.loop-i.i) (c.other.invariant.fits.small c.loop-i.i) c.if-differing-ne0.true) c.self.view_is c.other.view_is c.loop-i-test.true c.loop-i.invariant c.requires c.if-self-i-eq1.true

pub returns-else-self-i-eq1 : goal.returns-else-self-i-eq1
returns-else-self-i-eq1 c = second_less _ _ _ _ c.loop-i.i _ (differ_at _ _ (c.self.invariant.fits.small c.loop-i.i) (c.other.invariant.fits.small c.loop-i.i) c.if-differing-ne0.true) c.self.view_is c.other.view_is c.loop-i-test.true c.loop-i.invariant c.requires c.if-self-i-eq1.false

pub returns : goal.returns
returns c = all_same _ _ _ _ c.loop-i.i c.self.view_is c.other.view_is c.loop-i-test.false c.loop-i.invariant
