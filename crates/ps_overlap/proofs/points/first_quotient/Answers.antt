use Rattle.ps_phase.proofs.Values.{free_more}
use Rattle.std.proofs.Common.{sym, ◌∙◌}
use Rattle.ps_overlap.proofs.FirstTerms.{quotient_found, free_start}
use Rattle.ps_overlap.proofs.points.first_quotient.Goals as goal

pub loop-term-init : goal.loop-term-init
loop-term-init c = free_start c.args.v c.args.terms.now

pub returns-then-contains : goal.returns-then-contains
returns-then-contains c = quotient_found c.args.v c.args.terms.now c.loop-term.term-index c.term-item.result c.contains.result c.removed.result c.requires.form c.loop-term-test.true c.term-item.is c.contains.ensures c.if-contains.true c.loop-term.invariant c.removed.ensures.members c.removed.ensures.form

pub loop-term-preserved : goal.loop-term-preserved
loop-term-preserved c = free_more c.args.v c.args.terms.now c.loop-term.term-index c.term-item.result c.loop-term-test.true c.term-item.is (sym c.contains.ensures ∙ c.if-contains.false) c.loop-term.invariant
