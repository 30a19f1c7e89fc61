use Rattle.std.proofs.Common.{ap, ◌∙◌, ◌*◌, ◌%◌}
use Rattle.ps_phase.proofs.Scaling.{scaled_more, scaled_end}
use Rattle.ps_phase.proofs.merging.scaled.Goals as goal

pub loop-term-preserved : goal.loop-term-preserved
loop-term-preserved c = scaled_more c.args.terms.now c.loop-term.out.items _ _ c.args.by c.loop-term.term-index c.of.result c.term-item.result c.loop-term-test.true c.term-item.is
    (c.of.ensures ∙ ap (λ u. (c.args.by * u) % 4294967296) c.units.ensures) c.in_ok-push_term.ensures.items c.loop-term.invariant

pub returns : goal.returns
returns c = scaled_end c.args.terms.now _ _ c.args.by c.loop-term.term-index c.loop-term-test.false c.loop-term.invariant
