use Rattle.std.proofs.Common.{◌∙◌, sym}
use Rattle.ps_phase.proofs.Runs.{put_none, put_some}
use Rattle.ps_phase.proofs.gathering.put_at.Goals as goal

pub returns-then-units-eq0 : goal.returns-then-units-eq0
returns-then-units-eq0 c = put_none _ c.args.kept c.args.term.now (sym c.units.ensures ∙ c.if-units-eq0.true)

pub returns : goal.returns
returns c = put_some _ c.args.kept c.args.term.now (λ z. c.if-units-eq0.false (c.units.ensures ∙ z)) (c.requires.room (λ z. c.if-units-eq0.false (c.units.ensures ∙ z)))
