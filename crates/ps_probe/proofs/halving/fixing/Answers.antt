use Rattle.ps_probe.proofs.Halves.{fixing_one, fixing_none}
use Rattle.ps_probe.proofs.halving.fixing.Goals as goal

pub returns-then-one : goal.returns-then-one
returns-then-one c = fixing_one c.args.len c.args.i c.args.one c.requires c.if-one.true

pub returns-else-one : goal.returns-else-one
returns-else-one c = fixing_none c.args.len c.args.i c.args.one c.requires c.if-one.false
