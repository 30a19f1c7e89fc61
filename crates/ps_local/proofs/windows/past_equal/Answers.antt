use Rattle.ps_local.proofs.Windowing.{to_equal}
use Rattle.ps_local.proofs.windows.past_equal.Goals as goal

pub returns : goal.returns
returns c n w = to_equal n c.args.first.now c.args.second.now c.args.from c.common_front-equal.result c.requires c.common_front-equal.ensures w
