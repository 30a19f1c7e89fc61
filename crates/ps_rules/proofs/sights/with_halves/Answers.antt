use Rattle.std.proofs.Common.{◌∙◌, sym, refl, subst}
use Rattle.ps_rules.specs.Sights.{IsQuarter}
use Rattle.ps_rules.proofs.Seeing.{off, halves_more, partners_pair, partners_wide, halves_quarter, halves_other}
use Rattle.ps_rules.proofs.sights.with_halves.Goals as goal
use Rattle.ps_rules.proofs.sights.with_halves.Goals.{else-degree-eq1-via-then-degree-eq1+else-is_quarter, else-degree-eq1-via-else-degree-eq1}

pub returns-then-degree-eq2 : goal.returns-then-degree-eq2
returns-then-degree-eq2 c = λ v outs ts p s h. halves_more v outs ts c.args.term.now c.args.sight.now.pairs c.args.sight.now.wide _ _ s (sym c.units-units.ensures ∙ c.if-units.true)
    (partners_pair v ts c.args.term.now c.args.sight.now.pairs c.args.sight.now.wide _ _ s (sym c.degree-degree.ensures ∙ c.if-degree-eq2.true) c.union-next.ensures.members refl h.partners) h

pub returns-else-degree-eq2 : goal.returns-else-degree-eq2
returns-else-degree-eq2 c = λ v outs ts p s h. halves_more v outs ts c.args.term.now c.args.sight.now.pairs c.args.sight.now.wide _ _ s (sym c.units-units.ensures ∙ c.if-units.true)
    (partners_wide v ts c.args.term.now c.args.sight.now.pairs c.args.sight.now.wide _ _ s (λ e. c.if-degree-eq2.false (c.degree-degree.ensures ∙ e)) refl c.union-next-else-degree-eq2.ensures.members h.partners) h

pub returns-then-is_quarter : goal.returns-then-is_quarter
returns-then-is_quarter c = λ v outs ts p s h. halves_quarter v outs ts c.args.term.now c.args.sight.now.pairs c.args.sight.now.wide p s (sym c.degree-degree.ensures ∙ c.if-degree-eq1.true)
    (subst IsQuarter c.units-units.ensures (c.is_quarter.ensures.0 c.if-is_quarter.true)) h

pub returns-else-degree-eq1 : goal.returns-else-degree-eq1
returns-else-degree-eq1 c = λ v outs ts p s h. halves_other v outs ts c.args.term.now s (λ e. c.if-units.false (c.units-units.ensures ∙ e)) (λ l q. elim c.else-degree-eq1.branch [
  | else-degree-eq1-via-then-degree-eq1+else-is_quarter w ↦ off (w.is_quarter.ensures.1 (subst IsQuarter (sym c.units-units.ensures) q)) w.if-is_quarter.false
  | else-degree-eq1-via-else-degree-eq1 w ↦ w.if-degree-eq1.false (c.degree-degree.ensures ∙ l)
])
