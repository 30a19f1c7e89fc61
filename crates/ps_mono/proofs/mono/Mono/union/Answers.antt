use Rattle.ps_mono.proofs.Calls.{union_is, form_vars}
use Rattle.ps_mono.proofs.mono.Mono.union.Goals as goal

pub invariant_of-result : goal.invariant_of-result
invariant_of-result c = record { fits = c.joined_words-words.ensures.fits; counted = c.count_vars-degree.ensures }

pub returns-clause-members : goal.returns-clause-members
returns-clause-members c = union_is _ _ _ _ _ c.self.view_is c.other.view_is c.joined_words-words.ensures.ones

pub returns-clause-form : goal.returns-clause-form
returns-clause-form c = form_vars _
