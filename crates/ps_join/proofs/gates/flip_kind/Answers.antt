use Rattle.std.proofs.Common.{sym, ◌∙◌}
use Rattle.ps_join.proofs.Touching.{is_flip, flip_kind}
use Rattle.ps_join.proofs.gates.flip_kind.Goals as goal

pub returns-then-var_at-q : goal.returns-then-var_at-q
returns-then-var_at-q c = λ n.
    flip_kind n c.args.q c.args.poly.now
    (is_flip c.args.poly.now c.mono.result.now c.mono-last.result.now c.args.q c.var_at.result c.requires c.mono.ensures.value c.mono-last.ensures.value (sym c.degree.ensures ∙ c.if-degree-ne0.false) (sym c.degree-2.ensures ∙ c.if-degree-ne1.false)
    c.var_at.ensures.value c.if-var_at-q.true)
