use Rattle.ps_probe.specs.Giving.{vanishing}
use Rattle.ps_probe.proofs.giving.shown.Goals as goal

pub returns-in-Some : goal.returns-in-Some
returns-in-Some c = vanishing c.in-Some.ensures.least c.least_point.ensures.point c.filled.ensures
