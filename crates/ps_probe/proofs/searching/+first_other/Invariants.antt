use Rattle.std.proofs.Common.{◌-◌}
use Rattle.ps_probe.proofs.searching.+first_other.Given as goal

abbrev pub decreases-first_other : goal.decreases-first_other
decreases-first_other l = l.sum.now.n - l.from
