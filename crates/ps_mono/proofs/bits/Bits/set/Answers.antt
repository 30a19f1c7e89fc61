use Rattle.std.proofs.Common.{◌∙◌, nat_eq}
use Rattle.ps_mono.specs.Sets.{stands}
use Rattle.ps_mono.proofs.Calls.{less_is, more_is, more_fits, cond_less, cond_more, form_vars}
use Rattle.ps_mono.proofs.bits.Bits.set.Goals as goal

pub invariant_of-self : goal.invariant_of-self
invariant_of-self c = more_fits _ c.args.v c.self.invariant c.requires

pub returns-then-value-clause-values : goal.returns-then-value-clause-values
returns-then-value-clause-values c = λ u. more_is _ _ c.args.v c.self.view_is c.self.invariant c.requires u ∙ cond_more _ (nat_eq u c.args.v) (stands u c.args.self.now) c.if-value.true

pub returns-else-value-clause-values : goal.returns-else-value-clause-values
returns-else-value-clause-values c = λ u. less_is _ _ c.args.v c.self.view_is c.self.invariant c.requires u ∙ cond_less _ (nat_eq u c.args.v) (stands u c.args.self.now) c.if-value.false

pub returns-then-value-clause-form : goal.returns-then-value-clause-form
returns-then-value-clause-form c = form_vars _

pub returns-else-value-clause-form : goal.returns-else-value-clause-form
returns-else-value-clause-form c = form_vars _
