use Rattle.ps_mono.specs.Words.{vars_none}
use Rattle.ps_mono.proofs.Calls.{zeros}
use Rattle.ps_mono.proofs.Counts.{none_counted}
use Rattle.ps_mono.proofs.mono.Mono.one.Goals as goal

pub invariant_of-result : goal.invariant_of-result
invariant_of-result c = none_counted

pub returns : goal.returns
returns c = vars_none _ zeros
