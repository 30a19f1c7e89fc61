use Rattle.std.proofs.Common.{◌∙◌, sym}
use Rattle.ps_mono.proofs.Calls.{less_is, less_same, form_vars}
use Rattle.ps_mono.proofs.Counts.{less_counted, some_counted}
use Rattle.ps_mono.proofs.mono.Mono.removed.Goals as goal

pub returns-then-not-contains-clause-members : goal.returns-then-not-contains-clause-members
returns-then-not-contains-clause-members c = less_same _ _ c.args.v c.self.view_is (sym c.if-not-contains.true ∙ c.contains.ensures)

pub returns-then-not-contains-clause-form : goal.returns-then-not-contains-clause-form
returns-then-not-contains-clause-form c = form_vars _

pub overflow_sub-result : goal.overflow_sub-result
overflow_sub-result c = some_counted _ _ _ c.args.v c.self.invariant c.self.view_is c.requires (sym c.if-not-contains.false ∙ c.contains.ensures)

pub invariant_of-result-2 : goal.invariant_of-result-2
invariant_of-result-2 c = less_counted _ _ _ c.args.v c.self.invariant c.self.view_is c.requires (sym c.if-not-contains.false ∙ c.contains.ensures)

pub returns-clause-members : goal.returns-clause-members
returns-clause-members c = less_is _ _ c.args.v c.self.view_is c.self.invariant.fits c.requires

pub returns-clause-form : goal.returns-clause-form
returns-clause-form c = form_vars _
