use Rattle.ps_mono.proofs.Pairs.{three_made}
use Rattle.ps_mono.proofs.tests.triple.Goals as goal

pub returns : goal.returns
returns c w = three_made w c.args.first c.args.second c.args.third _ _ _ _ _ c.var.ensures c.var-2.ensures c.var-3.ensures (c.union.ensures.members w) (c.union-2.ensures.members w)
