use Rattle.std.proofs.Common.{◌||◌, take}
use Rattle.ps_bool.specs.Polys.{occurs}
use Rattle.ps_rules.proofs.Windows.{poly_start, poly_more, poly_end}
use Rattle.ps_rules.proofs.looking.mark_poly.Goals as goal

pub loop-mono-init : goal.loop-mono-init
loop-mono-init c = λ p h. poly_start p c.monos-mono-items.result.now c.args.base c.args.sights.now h

pub loop-mono-preserved : goal.loop-mono-preserved
loop-mono-preserved c = λ p h. poly_more p c.monos-mono-items.result.now c.args.base c.loop-mono.mono-index c.mono-item.result c.mark_mono.new.sights c.loop-mono-test.true c.mono-item.is
    (c.mark_mono.ensures (λ v. p v || occurs v (take c.loop-mono.mono-index c.monos-mono-items.result.now)) (c.loop-mono.invariant p h))

pub returns : goal.returns
returns c = λ p h. poly_end p c.args.poly.now c.monos-mono-items.result.now c.args.base c.loop-mono.mono-index c.loop-mono.sights c.monos-mono-items.ensures.items c.loop-mono-test.false (c.loop-mono.invariant p h)
