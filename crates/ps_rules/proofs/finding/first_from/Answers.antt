use Rattle.std.proofs.Common.{◌+◌}
use Rattle.ps_rules.proofs.Earliest.{fresh_all}
use Rattle.ps_rules.proofs.finding.first_from.Goals as goal

pub look-requires-clause-fresh : goal.look-requires-clause-fresh
look-requires-clause-fresh c = fresh_all (c.args.sum.now.n + c.args.low) 128 c.unseen-sights.result c.unseen-sights.ensures
