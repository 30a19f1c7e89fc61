use Rattle.std.proofs.Common.{ap, sym, ◌∙◌, subst}
use Rattle.ps_bool.specs.Polys.{occurs, IsPoly}
use Rattle.ps_rules.proofs.Closes.{poly_closed}
use Rattle.ps_rules.proofs.settling.closed_poly.Goals as goal

pub ordered-requires : goal.ordered-requires
ordered-requires c = subst IsPoly (sym c.close_monos.ensures) (poly_closed c.args.closing.gone c.into_monos-monos.result.items (ap (occurs c.args.closing.gone) c.into_monos-monos.ensures.value ∙ c.requires.apart) c.into_monos-monos.ensures.form)
