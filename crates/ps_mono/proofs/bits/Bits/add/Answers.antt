use Rattle.ps_mono.proofs.Calls.{union_is, form_vars}
use Rattle.ps_mono.proofs.bits.Bits.add.Goals as goal

pub returns-clause-values : goal.returns-clause-values
returns-clause-values c = union_is _ _ _ _ _ c.self.view_is c.mono.view_is c.joined_words-self-inside.ensures.ones

pub returns-clause-form : goal.returns-clause-form
returns-clause-form c = form_vars _
