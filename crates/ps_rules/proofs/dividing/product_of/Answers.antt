use Rattle.ps_rules.proofs.Quotients.{product_is}
use Rattle.ps_rules.proofs.dividing.product_of.Goals as goal

pub returns : goal.returns
returns c = product_is c.args.u c.args.v c.var.result c.var-2.result c.union.result c.requires.first c.requires.second c.requires.apart c.var.ensures c.var-2.ensures c.union.ensures.members c.union.ensures.form
