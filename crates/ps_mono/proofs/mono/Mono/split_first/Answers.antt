use Rattle.std.proofs.Common.{◌∙◌, ap, length}
use Rattle.ps_mono.proofs.Laws.{first_removed}
use Rattle.ps_mono.proofs.mono.Mono.split_first.Goals as goal

pub returns-clause-split : goal.returns-clause-split
returns-clause-split c = first_removed _ _ _ c.known.ensures c.removed.ensures.form (λ e. c.if-degree-eq0.false (c.degree.ensures ∙ ap length e)) c.var_at-first.ensures.value c.removed.ensures.members
