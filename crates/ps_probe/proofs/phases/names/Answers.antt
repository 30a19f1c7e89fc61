use Rattle.std.proofs.Common.{sym, subst, arith}
use Rattle.ps_mono.specs.Sets.{Below}
use Rattle.ps_probe.proofs.Tables.{names_start, names_next, names_below}
use Rattle.ps_probe.proofs.phases.names.Goals as goal

pub loop-i-init : goal.loop-i-init
loop-i-init c = names_start c.args.first _ c.in_ok-names.ensures.items

pub loop-i-preserved : goal.loop-i-preserved
loop-i-preserved c = names_next c.args.first c.loop-i.i c.loop-i.names.items _ c.in_ok-push.ensures.items c.loop-i.invariant

pub returns-clause-small : goal.returns-clause-small
returns-clause-small c = subst (Below 512) (sym c.loop-i.invariant) (names_below c.args.first c.loop-i.i (omega (arith, c.requires, c.loop-i.auto.i-end)))
