use Rattle.ps_sum.proofs.tables.+transform.Given as goal

abbrev pub decreases-transform : goal.decreases-transform
decreases-transform l = l.count
