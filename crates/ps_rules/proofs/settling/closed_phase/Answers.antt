use Rattle.std.proofs.Common.{refl}
use Rattle.ps_rules.proofs.Closes.{settled_form}
use Rattle.ps_rules.proofs.settling.closed_phase.Goals as goal

pub ordered-requires : goal.ordered-requires
ordered-requires c = settled_form c.args.closing.gone c.into_terms-terms.result.items _ c.close_terms.new.terms.items refl c.close_terms.ensures c.into_terms-terms.ensures.form
