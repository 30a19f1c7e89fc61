-- Where reducing a sum ended.
use Rattle.std.specs.Prelude.{List}
use Rattle.ps_sum.specs.declared.sums.PathSum.{PathSum}
use Rattle.ps_rules.specs.declared.steps.Step.{Step}
use Rattle.ps_reach.specs.Reductions.{normal, over, ReducesTo}
use Rattle.ps_probe.specs.declared.ending.Ending.{Ending}
use Rattle.ps_probe.specs.declared.ending.Ending.TheVariants.{Normal, Over}

-- some steps reduce S to this
abbrev pub IsEnding : PathSum → Ending → Type 0
IsEnding S (Normal T) = (ss : List Step) × ReducesTo S ss (normal T)
IsEnding S (Over p T) = (ss : List Step) × ReducesTo S ss (over T p)
