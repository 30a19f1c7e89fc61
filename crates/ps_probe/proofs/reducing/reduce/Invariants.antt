use Rattle.std.proofs.Common.{List}
use Rattle.ps_rules.specs.declared.steps.Step.{Step}
use Rattle.ps_reach.specs.Reductions.{Reduces}
use Rattle.ps_normal.specs.Comparing.{HasFloor}
use Rattle.ps_probe.proofs.reducing.reduce.Given as goal

abbrev pub invariant-reducing : goal.invariant-reducing
invariant-reducing l = record { reached : (ss : List Step) × Reduces l.fn.sum ss l.current; floor : HasFloor l.current }

abbrev pub decreases-reducing : goal.decreases-reducing
decreases-reducing l = l.current.m
