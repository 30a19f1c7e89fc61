use Rattle.std.proofs.Common.{sym, ◌∙◌, arith}
use Rattle.ps_join.proofs.Chains.{phase_part, phase_fits}
use Rattle.ps_join.proofs.Touching.{no_phase}
use Rattle.ps_join.proofs.gating.phase_behind.Goals as goal

pub returns-then-count-eq0-clause-part : goal.returns-then-count-eq0-clause-part
returns-then-count-eq0-clause-part c =
    phase_part c.args.names.now.n c.args.names.now.m1 c.args.names.now.m2 c.args.outs.now c.args.poly.now c.args.names.now.n c.zero.result (omega arith)
    (no_phase c.args.names.now.n c.args.names.now.m1 c.args.names.now.m2 c.args.outs.now c.args.poly.now c.zero.result c.requires.wide c.requires.outs_below (sym c.count.ensures ∙ c.if-count-eq0.true) c.zero.ensures)

pub returns-then-count-eq0-clause-fits : goal.returns-then-count-eq0-clause-fits
returns-then-count-eq0-clause-fits c =
    phase_fits c.args.names.now.n c.args.names.now.m1 c.args.names.now.m2 c.args.outs.now c.args.poly.now c.args.names.now.n c.zero.result c.requires.wide (omega arith)
    (no_phase c.args.names.now.n c.args.names.now.m1 c.args.names.now.m2 c.args.outs.now c.args.poly.now c.zero.result c.requires.wide c.requires.outs_below (sym c.count.ensures ∙ c.if-count-eq0.true) c.zero.ensures)
