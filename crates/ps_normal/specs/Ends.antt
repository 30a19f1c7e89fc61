-- What the private parts of a filling say.
use Rattle.std.specs.Prelude.{ℕ, List}
use Rattle.ps_io.specs.Counts.{Rose}
use Rattle.ps_sum.specs.declared.sums.PathSum.{PathSum}
use Rattle.ps_rules.specs.declared.steps.Step.{Step}
use Rattle.ps_reach.specs.Reductions.{normal, over, ReducesTo}
use Rattle.ps_normal.specs.declared.parts.Ended.{Ended}
use Rattle.ps_normal.specs.declared.parts.Ended.TheVariants.{Normal, Over, Stopped}

-- reducing S took these steps and ended so
abbrev pub IsEnded : PathSum → List Step → Ended → Type 0
IsEnded S ss (Normal T) = ReducesTo S ss (normal T)
IsEnded S ss (Over p T) = ReducesTo S ss (over T p)
IsEnded S ss Stopped = Unit {0}

-- it was stopped only where the count of yeses rose
abbrev pub HasRisen : ℕ → ℕ → Ended → Type 0
HasRisen old new (Normal T) = Unit {0}
HasRisen old new (Over p T) = Unit {0}
HasRisen old new Stopped = Rose old new
