use Rattle.ps_mono.proofs.Calls.{contains_is}
use Rattle.ps_mono.proofs.mono.Mono.contains.Goals as goal

pub returns : goal.returns
returns c = contains_is _ _ c.args.v c.self.view_is c.requires
