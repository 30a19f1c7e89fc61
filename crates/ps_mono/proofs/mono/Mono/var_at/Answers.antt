use Rattle.std.proofs.Common.{arith, refl}
use Rattle.ps_mono.proofs.Counts.{count_more, count_all, count_none}
use Rattle.ps_mono.proofs.Places.{place_in}
use Rattle.ps_mono.proofs.mono.Mono.var_at.Goals as goal

pub loop-i-init : goal.loop-i-init
loop-i-init c = omega (arith, count_none c.self.inside.words)

pub returns-then-left-count-clause-value : goal.returns-then-left-count-clause-value
returns-then-left-count-clause-value c = place_in _ _ c.loop-i.i _ _ _ c.self.view_is c.self.invariant.fits c.loop-i-test.true c.loop-i.invariant c.if-left-count.true c.nth_one.ensures.value

pub loop-i-preserved : goal.loop-i-preserved
loop-i-preserved c = omega (arith, count_more c.self.inside.words c.loop-i.i _ _ c.self.invariant.fits refl refl)

pub unreachable-requires : goal.unreachable-requires
unreachable-requires c = omega (arith, count_all c.self.inside.words _ c.loop-i.i _ c.self.view_is c.loop-i-test.false c.loop-i.auto.i-end refl)
