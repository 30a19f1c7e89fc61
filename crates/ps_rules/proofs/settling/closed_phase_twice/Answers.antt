use Rattle.ps_rules.proofs.Twice.{twice_form}
use Rattle.ps_rules.proofs.settling.closed_phase_twice.Goals as goal

pub ordered-requires : goal.ordered-requires
ordered-requires c = twice_form c.args.low.gone c.args.high.gone c.into_terms-terms.result.items _ c.close_terms_twice.ensures c.into_terms-terms.ensures.form
