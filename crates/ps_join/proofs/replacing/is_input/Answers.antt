use Rattle.std.proofs.Common.{sym, ◌∙◌}
use Rattle.ps_join.proofs.Chains.{one_input}
use Rattle.ps_join.proofs.replacing.is_input.Goals as goal

pub returns-then-count-eq1 : goal.returns-then-count-eq1
returns-then-count-eq1 c = one_input c.args.poly.now c.mono.result.now c.var.result c.eq.result c.args.i (sym c.count.ensures ∙ c.if-count-eq1.true) c.mono.ensures.value c.var.ensures c.eq.ensures
