use Rattle.std.proofs.Common.{ap, ◌∙◌}
use Rattle.ps_bool.specs.Polys.{occurs}
use Rattle.ps_rules.proofs.Twice.{poly_twice}
use Rattle.ps_rules.proofs.settling.closed_poly_twice.Goals as goal

pub ordered-requires : goal.ordered-requires
ordered-requires c = poly_twice c.args.low.gone c.args.high.gone c.into_monos-monos.result.items _ c.requires.order c.close_monos_twice.ensures (ap (occurs c.args.high.gone) c.into_monos-monos.ensures.value ∙ c.requires.high) (ap (occurs c.args.low.gone) c.into_monos-monos.ensures.value ∙ c.requires.low) c.into_monos-monos.ensures.form
