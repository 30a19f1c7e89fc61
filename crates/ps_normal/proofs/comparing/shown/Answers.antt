use Rattle.ps_reach.specs.Findings.{no_paths, vanishing, nothing}
use Rattle.ps_normal.proofs.Finding.{some_path, none_vanishes}
use Rattle.ps_normal.proofs.comparing.shown.Goals as goal

pub returns-in-Some : goal.returns-in-Some
returns-in-Some c = vanishing c.in-Some.ensures.least c.least_point.ensures.point

pub returns-in-None : goal.returns-in-None
returns-in-None c = nothing (some_path c.args.sum.m c.if-sum-eq0.false) (none_vanishes c.args.sum c.vanishing.result c.in-None.is c.vanishing.ensures.none)

pub returns-then-sum-eq0 : goal.returns-then-sum-eq0
returns-then-sum-eq0 c = no_paths c.if-sum-eq0.true c.plainly_shown.ensures
