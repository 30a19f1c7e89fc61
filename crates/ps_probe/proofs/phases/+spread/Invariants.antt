use Rattle.ps_probe.proofs.phases.+spread.Given as goal

abbrev pub decreases-spread : goal.decreases-spread
decreases-spread l = l.count
