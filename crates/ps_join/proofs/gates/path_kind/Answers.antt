use Rattle.std.proofs.Common.{sym, ◌∙◌}
use Rattle.ps_join.proofs.Touching.{is_path, path_kind}
use Rattle.ps_join.proofs.gates.path_kind.Goals as goal

pub returns-then-n-y : goal.returns-then-n-y
returns-then-n-y c =
    path_kind c.args.n c.args.q c.var_at-y.result c.args.poly.now (is_path c.args.poly.now c.mono-mono.result.now c.var_at-y.result c.requires c.mono-mono.ensures.value (sym c.degree.ensures ∙ c.if-degree-ne1.false) c.var_at-y.ensures.value) c.if-n-y.true
