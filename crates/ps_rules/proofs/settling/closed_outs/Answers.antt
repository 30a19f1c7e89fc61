use Rattle.std.proofs.Common.{arith, sym, ◌∙◌}
use Rattle.ps_rules.proofs.Closes.{polys_stay, last_name}
use Rattle.ps_rules.proofs.settling.closed_outs.Goals as goal

pub returns-then-is_last : goal.returns-then-is_last
returns-then-is_last c =
    let e = last_name c.args.closing.gone c.args.closing.names (sym c.is_last.ensures ∙ c.if-is_last.true) in
    sym (polys_stay c.args.closing.gone c.args.outs (λ u l. c.requires.below u (omega arith)))
