use Rattle.std.proofs.Common.{refl, sym, ◌∙◌, subst}
use Rattle.std.proofs.lemmas.Result.{IfOk-weaker}
use Rattle.ps_sum.specs.declared.sums.PathSum.{PathSum}
use Rattle.ps_join.specs.Plainly.{IsAdded}
use Rattle.ps_join.specs.Totals.{IsNamed}
use Rattle.ps_join.proofs.Totals.{nothing_added, total_added, named_both}
use Rattle.ps_join.proofs.running.Running.added.Goals as goal

pub invariant_of-next-inside : goal.invariant_of-next-inside
invariant_of-next-inside c = (
  c.in_ok-add_to.ensures.form,
  (named_both c.self.inside.sum c.self.inside.sum c.self.inside.more c.args.terms.now _ refl refl c.self.inside.named (subst (λ (s : PathSum). IsNamed s c.args.terms.now) (sym c.self.view_is) c.requires) c.in_ok-add_to.ensures.variables, (c.self.inside.few, tt)),
)

pub returns : goal.returns
returns c = IfOk-weaker c.relieved.result _ _
    (λ s e. subst (λ x. IsAdded x c.args.terms.now s) c.self.view_is (subst (IsAdded _ c.args.terms.now) (sym e) (total_added c.self.inside.sum c.self.inside.more c.args.terms.now _ c.self.inside.form _ c.self.inside.named _ c.in_ok-add_to.ensures.value)))
    c.relieved.ensures

pub returns-then-count-eq0 : goal.returns-then-count-eq0
returns-then-count-eq0 c = nothing_added c.args.self c.args.terms.now (sym c.count.ensures ∙ c.if-count-eq0.true)
