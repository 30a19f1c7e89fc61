use Rattle.std.proofs.Common.{refl, ap, sym, ◌∙◌}
use Rattle.ps_phase.specs.Phases.{phase_occurs}
use Rattle.ps_phase.proofs.Values.{occurs_at, free_more}
use Rattle.ps_phase.proofs.poly.PhasePoly.contains.Goals as goal

pub loop-term-init : goal.loop-term-init
unfolding phase_occurs
loop-term-init c = refl

pub returns-then-contains : goal.returns-then-contains
returns-then-contains c = sym (ap (phase_occurs c.args.v) (sym c.self.view_is) ∙ ap (phase_occurs c.args.v) (sym c.deref-term-items.ensures.value) ∙ occurs_at c.args.v _ c.loop-term.term-index c.term-item.result c.loop-term-test.true c.term-item.is (sym c.contains.ensures ∙ c.if-contains.true))

pub loop-term-preserved : goal.loop-term-preserved
loop-term-preserved c = free_more c.args.v _ c.loop-term.term-index c.term-item.result c.loop-term-test.true c.term-item.is (sym c.contains.ensures ∙ c.if-contains.false) c.loop-term.invariant
