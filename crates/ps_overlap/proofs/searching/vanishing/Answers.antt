use Rattle.std.proofs.Common.{refl, inl, inr, sym, arith, ◌∙◌, ◌+◌}
use Rattle.ps_overlap.proofs.Halves.{vanishes_is, vanishes_not, until_next, no_answer, an_answer}
use Rattle.ps_overlap.proofs.searching.vanishing.Goals as goal
use Rattle.ps_overlap.proofs.searching.vanishing.Goals.{else-contains-via-then-contains+else-not-contains, else-contains-via-else-contains}

pub returns-then-not-contains-clause-least : goal.returns-then-not-contains-clause-least
returns-then-not-contains-clause-least c =
    let v = c.args.sum.now.n + c.loop-y.y in record {
      vanishes = vanishes_is c.args.sum.now c.terms.result.now c.loop-y.y v _ _ c.terms.ensures.value c.loop-y-test.true refl (c.looked-seen.ensures v (omega arith)) (sym c.contains.ensures ∙ c.if-contains.true) (sym c.contains-then-contains.ensures ∙ c.if-not-contains.true);
      first = c.loop-y.invariant;
    }

pub returns-then-not-contains-clause-none : goal.returns-then-not-contains-clause-none
returns-then-not-contains-clause-none c =
    let v = c.args.sum.now.n + c.loop-y.y in
    let q = vanishes_is c.args.sum.now c.terms.result.now c.loop-y.y v _ _ c.terms.ensures.value c.loop-y-test.true refl (c.looked-seen.ensures v (omega arith)) (sym c.contains.ensures ∙ c.if-contains.true) (sym c.contains-then-contains.ensures ∙ c.if-not-contains.true) in
    an_answer c.args.sum.now c.loop-y.y q

pub loop-y-preserved : goal.loop-y-preserved
loop-y-preserved c =
    let v = c.args.sum.now.n + c.loop-y.y in
    until_next c.args.sum.now c.loop-y.y c.loop-y.invariant (vanishes_not c.args.sum.now c.terms.result.now c.loop-y.y v _ _ c.terms.ensures.value refl (c.looked-seen.ensures v (omega arith))
    (elim c.else-contains.branch [
      | else-contains-via-then-contains+else-not-contains w ↦ inr (sym w.contains-then-contains.ensures ∙ w.if-not-contains.false)
      | else-contains-via-else-contains w ↦ inl (sym c.contains.ensures ∙ w.if-contains.false)
    ]))

pub returns-clause-none : goal.returns-clause-none
returns-clause-none c = no_answer c.args.sum.now c.loop-y.y c.loop-y-test.false c.loop-y.invariant
