use Rattle.std.proofs.Common.{ap, ◌∙◌, ◌+◌, length}
use Rattle.ps_rules.proofs.Quotients.{hh_quotient}
use Rattle.ps_rules.proofs.Parting.{intos, lefts, into_form}
use Rattle.ps_rules.proofs.dividing.hh_parts.Goals as goal

pub ordered-requires : goal.ordered-requires
ordered-requires c = into_form _ _ _ _ _ c.terms.ensures.value c.terms.ensures.form c.in_ok-monos.ensures.into

pub returns-clause-quotient : goal.returns-clause-quotient
returns-clause-quotient c = hh_quotient c.args.sum.now c.args.y0 c.args.y1 c.product_of-product.result c.terms.result.now c.in_ok-monos.field-0.monos.items c.sum_of.result c.requires c.product_of-product.ensures c.terms.ensures.value
    (record { value = c.in_ok-monos.ensures.value; known = c.in_ok-monos.ensures.known; free = c.in_ok-monos.ensures.free; form = c.sum_of.ensures.form }) c.sum_of.ensures.value c.sum_of.ensures.variables

pub returns-clause-into : goal.returns-clause-into
returns-clause-into c = c.ordered.ensures ∙ c.in_ok-monos.ensures.into ∙ ap (intos (c.args.sum.now.n + c.args.y0) (c.args.sum.now.n + c.args.y1)) c.terms.ensures.value

pub returns-clause-left : goal.returns-clause-left
returns-clause-left c = c.in_ok-monos.ensures.left ∙ ap (λ ts. length (lefts (c.args.sum.now.n + c.args.y0) (c.args.sum.now.n + c.args.y1) ts)) c.terms.ensures.value
