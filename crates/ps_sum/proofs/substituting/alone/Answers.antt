use Rattle.std.proofs.Common.{sym, ◌∙◌, refl, ap, List, get_or}
use Rattle.ps_phase.specs.declared.terms.Term.{Term}
use Rattle.ps_sum.proofs.Substitutes.{only_term}
use Rattle.ps_sum.proofs.substituting.alone.Goals as goal

pub returns-then-eq : goal.returns-then-eq
returns-then-eq c = only_term c.args.v c.index-terms-0.result.phase c.eq.result c.index-terms-0.result.mono c.var.result c.args.poly.now c.index-terms-0.result (sym c.count.ensures ∙ c.if-count-ne1.false)
    (c.index-terms-0.is ∙ ap (λ (r : List Term). get_or r 0 c.index-terms-0.result) c.terms.ensures.value) c.var.ensures c.eq.ensures c.if-eq.true refl
