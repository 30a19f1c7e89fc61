use Rattle.ps_mono.proofs.Calls.{form_vars}
use Rattle.ps_mono.proofs.mono.Mono.of_bits.Goals as goal

pub returns-clause-form : goal.returns-clause-form
returns-clause-form c = form_vars _
