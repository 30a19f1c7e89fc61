use Rattle.std.proofs.Common.{ℕ, List, sym, subst}
use Rattle.ps_rules.specs.Sights.{IsFresh, EachSight}
use Rattle.ps_phase.specs.Phases.{IsPhasePoly}
use Rattle.ps_sum.specs.Outs.{outs_occur}
use Rattle.ps_rules.proofs.Windows.{terms_start, terms_more, terms_end}
use Rattle.ps_rules.proofs.looking.look.Goals as goal

pub loop-term-init : goal.loop-term-init
loop-term-init c = terms_start c.args.sum.now.outs c.terms-term-items.result.now c.args.base c.mark_outs.new.sights
    (subst (λ (fs : List (List (List ℕ))). EachSight (λ v s. IsFresh (outs_occur v fs) s) c.args.base c.mark_outs.new.sights) c.polys.ensures c.mark_outs.ensures)

pub loop-term-preserved : goal.loop-term-preserved
loop-term-preserved c = terms_more c.args.sum.now.outs c.terms-term-items.result.now c.args.base c.loop-term.term-index c.term-item.result c.loop-term.sights c.look_at.new.sights
    (subst IsPhasePoly (sym c.terms-term-items.ensures.value) c.terms-term-items.ensures.form) c.loop-term-test.true c.term-item.is c.look_at.ensures c.loop-term.invariant

pub returns : goal.returns
returns c = terms_end c.args.sum.now.outs c.args.sum.now.phase c.terms-term-items.result.now c.args.base c.loop-term.term-index c.loop-term.sights c.terms-term-items.ensures.value c.loop-term-test.false c.loop-term.invariant
