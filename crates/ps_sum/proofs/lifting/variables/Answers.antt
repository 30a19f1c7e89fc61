use Rattle.std.proofs.Common.{◌∙◌, ap}
use Rattle.std.proofs.lemmas.List.{take_all}
use Rattle.ps_bool.specs.Polys.{occurs}
use Rattle.ps_sum.proofs.TableWorths.{variables_start, variables_more}
use Rattle.ps_sum.proofs.lifting.variables.Goals as goal

pub loop-mono-init : goal.loop-mono-init
loop-mono-init c = variables_start c.args.monos.now _ c.one-all.ensures

pub loop-mono-preserved : goal.loop-mono-preserved
loop-mono-preserved c = variables_more c.args.monos.now c.loop-mono.mono-index c.mono-item.result c.loop-mono.all _ c.loop-mono-test.true c.mono-item.is c.union-all.ensures.members c.loop-mono.invariant
