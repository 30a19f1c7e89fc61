use Rattle.std.proofs.Common.{ap, sym, ◌∙◌}
use Rattle.ps_join.specs.Joining.{told}
use Rattle.ps_join.proofs.Chains.{idle_phase_count}
use Rattle.ps_join.proofs.replacing.made_in_phase.Goals as goal

pub returns-else-may : goal.returns-else-may
returns-else-may c = c.min.ensures ∙ ap told (c.count.ensures ∙ sym (idle_phase_count c.args.v _ c.args.poly.now (c.requires.free c.if-may.false)))
