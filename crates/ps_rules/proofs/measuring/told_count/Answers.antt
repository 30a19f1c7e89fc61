use Rattle.std.proofs.Common.{arith, length}
use Rattle.ps_rules.proofs.Parting.{short_within}
use Rattle.ps_rules.proofs.measuring.told_count.Goals as goal

pub returns-then-count-le-FEW-2-clause-within : goal.returns-then-count-le-FEW-2-clause-within
returns-then-count-le-FEW-2-clause-within c z = short_within c.args.v (length c.args.by.now) c.args.poly.now (omega (arith, c.count.ensures, c.if-count-le-FEW.true)) (omega (arith, c.count-then-count-le-FEW.ensures, c.if-count-le-FEW-2.true))
