use Rattle.ps_reach.specs.Findings.{constant}
use Rattle.ps_overlap.proofs.LeastPoints.{scale_zero, scale_other}
use Rattle.ps_normal.proofs.Finding.{shown_scaled, shown_turning}
use Rattle.ps_normal.proofs.comparing.phase_shown.Goals as goal

pub returns-then-sum-ne0 : goal.returns-then-sum-ne0
returns-then-sum-ne0 c = shown_scaled c.args.sum.now c.zero.result (scale_other c.args.sum.now c.if-sum-ne0.true) c.zero.ensures

pub returns-in-Some : goal.returns-in-Some
returns-in-Some c = constant (scale_zero c.args.sum.now c.if-sum-ne0.false) c.in-Some.ensures

pub returns-in-None : goal.returns-in-None
returns-in-None c = shown_turning c.args.sum.now c.zero-in-None.result c.turning_point.new.at (scale_zero c.args.sum.now c.if-sum-ne0.false) c.zero-in-None.ensures c.turning_point.ensures.point
