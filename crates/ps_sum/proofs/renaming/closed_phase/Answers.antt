use Rattle.std.proofs.Common.{ap, ◌∙◌}
use Rattle.std.proofs.lemmas.Result.{IfOk-weaker}
use Rattle.ps_phase.specs.Phases.{phase_occurs}
use Rattle.ps_sum.proofs.Lifts.{occurs_get}
use Rattle.ps_sum.proofs.Closings.{terms_start, terms_more, terms_value, terms_free}
use Rattle.ps_sum.proofs.renaming.closed_phase.Goals as goal

pub loop-term-init : goal.loop-term-init
loop-term-init c = terms_start c.args.v _ _ c.new-terms.ensures.items

pub closed_mono-requires-clause-free : goal.closed_mono-requires-clause-free
closed_mono-requires-clause-free c = occurs_get c.args.v _ c.loop-term.term-index c.term-item.result c.loop-term-test.true c.term-item.is (ap (phase_occurs c.args.v) c.terms-term-items.ensures.value ∙ c.requires.free)

pub loop-term-preserved : goal.loop-term-preserved
loop-term-preserved c = terms_more c.args.v _ c.loop-term.terms.items _ c.loop-term.term-index c.term-item.result c.closed_mono.result c.loop-term-test.true c.term-item.is (ap (phase_occurs c.args.v) c.terms-term-items.ensures.value ∙ c.requires.free) c.closed_mono.ensures c.in_ok-push.ensures.items c.loop-term.invariant

pub returns-clause-value : goal.returns-clause-value
returns-clause-value c = IfOk-weaker c.gather.result _ _ (λ p e. terms_value c.args.v c.args.poly.now _ c.loop-term.terms.items p c.loop-term.term-index c.terms-term-items.ensures.value c.loop-term-test.false c.loop-term.invariant e) c.gather.ensures.value

pub returns-clause-variables : goal.returns-clause-variables
returns-clause-variables c = IfOk-weaker c.gather.result _ _ (λ p e. terms_free c.args.v c.args.poly.now _ c.loop-term.terms.items p c.loop-term.term-index c.terms-term-items.ensures.value c.loop-term.invariant e) c.gather.ensures.variables
