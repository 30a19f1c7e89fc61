use Rattle.std.proofs.Common.{◌+◌, refl, sym, ◌∙◌, subst}
use Rattle.ps_phase.specs.Phases.{IsPhasePoly}
use Rattle.ps_rules.proofs.Windows.{sight_more, sight_skip, other_early}
use Rattle.ps_rules.proofs.checking.known_sight.Goals as goal
use Rattle.ps_rules.proofs.checking.known_sight.Goals.{then-contains+in_default, else-contains}

pub loop-term-preserved : goal.loop-term-preserved
loop-term-preserved c = elim c.if-contains.branch [
  | then-contains+in_default w ↦ sight_more (c.args.sum.now.n + c.args.y) c.args.sum.now.outs c.terms-term-items.result.now c.loop-term.term-index c.term-item.result c.loop-term.sight c.if-contains.sight w.seen-sight.result (subst IsPhasePoly (sym c.terms-term-items.ensures.value) c.terms-term-items.ensures.form)
      c.loop-term-test.true c.term-item.is (sym c.contains.ensures ∙ w.if-contains.true) w.sight-is w.seen-sight.ensures c.loop-term.invariant
  | else-contains w ↦ sight_skip (c.args.sum.now.n + c.args.y) c.args.sum.now.outs c.terms-term-items.result.now c.loop-term.term-index c.term-item.result c.loop-term.sight c.if-contains.sight
      c.loop-term-test.true c.term-item.is (sym c.contains.ensures ∙ w.if-contains.false) w.sight-is c.loop-term.invariant
]

pub returns-in-Other : goal.returns-in-Other
returns-in-Other c = other_early (c.args.sum.now.n + c.args.y) c.args.sum.now.outs c.args.sum.now.phase c.terms-term-items.result.now (c.loop-term.term-index + 1) c.seen-sight.result c.in-Other.is c.terms-term-items.ensures.value
    (sight_more (c.args.sum.now.n + c.args.y) c.args.sum.now.outs c.terms-term-items.result.now c.loop-term.term-index c.term-item.result c.loop-term.sight c.seen-sight.result c.seen-sight.result
    (subst IsPhasePoly (sym c.terms-term-items.ensures.value) c.terms-term-items.ensures.form) c.loop-term-test.true c.term-item.is (sym c.contains.ensures ∙ c.if-contains.true) refl c.seen-sight.ensures c.loop-term.invariant)
