use Rattle.std.proofs.Common.{arith, sym, ◌∙◌}
use Rattle.ps_rules.proofs.Closes.{last_name}
use Rattle.ps_rules.proofs.Twice.{outs_stay}
use Rattle.ps_rules.proofs.settling.closed_outs_twice.Goals as goal

pub returns-then-is_last : goal.returns-then-is_last
returns-then-is_last c =
    let e = last_name c.args.low.gone c.args.low.names (sym c.is_last.ensures ∙ c.if-is_last.true) in
    let n = c.requires.names in
    let i = c.args.high.inside in
    outs_stay c.args.low.gone c.args.high.gone c.args.low.names c.args.outs c.requires.order (omega arith) (omega arith) c.requires.high (λ u l. c.requires.below u (omega arith))
