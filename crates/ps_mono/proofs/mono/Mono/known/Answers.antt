use Rattle.ps_mono.proofs.Calls.{form_is}
use Rattle.ps_mono.proofs.mono.Mono.known.Goals as goal

pub returns : goal.returns
returns c = form_is _ _ c.self.view_is
