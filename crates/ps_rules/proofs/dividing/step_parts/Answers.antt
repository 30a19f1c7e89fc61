use Rattle.std.proofs.Common.{sym, subst, ◌∙◌}
use Rattle.ps_rules.specs.declared.steps.Step.{Step}
use Rattle.ps_rules.specs.Plans.{IsQuotient}
use Rattle.ps_rules.proofs.Quotients.{elim_quotient}
use Rattle.ps_rules.proofs.dividing.step_parts.Goals as goal

pub returns-in-Elim-clause-quotient : goal.returns-in-Elim-clause-quotient
returns-in-Elim-clause-quotient c = subst (λ (s : Step). IsQuotient c.args.sum.now s c.alone.result.poly) (sym c.in-Elim.is) (elim_quotient c.args.sum.now c.in-Elim.y0 c.alone.result.poly (c.alone.ensures ∙ c.zero.ensures))
