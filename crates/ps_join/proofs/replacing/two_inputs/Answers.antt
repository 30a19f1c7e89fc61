use Rattle.std.proofs.Common.{sym, ◌∙◌}
use Rattle.ps_join.proofs.Pairs.{is_pair}
use Rattle.ps_join.proofs.replacing.two_inputs.Goals as goal

pub returns-then-high-n : goal.returns-then-high-n
returns-then-high-n c =
    is_pair c.args.n c.args.poly.now c.mono-first.result.now c.mono-second.result.now c.var_at-low.result c.var_at-high.result (sym c.count.ensures ∙ c.if-count-ne2.false) c.mono-first.ensures.value c.mono-second.ensures.value
    (sym c.degree.ensures ∙ c.if-degree-ne1.false) (sym c.degree-else-degree-ne1.ensures ∙ c.if-degree-ne1-2.false) c.var_at-low.ensures.value c.var_at-high.ensures.value c.if-low-high.true c.if-high-n.true
