use Rattle.std.proofs.Common.{◌≡◌, ◌≤◌, ◌<◌}
use Rattle.ps_sum.specs.Counts.{binomial, subsets}
use Rattle.ps_sum.proofs.counts.raw_term.Given as goal

abbrev pub invariant-loop-s : goal.invariant-loop-s
invariant-loop-s l = record { ways_is : l.ways ≡ binomial l.t l.s; total_is : l.total ≡ subsets l.t l.s; ways_most : l.ways ≤ 1000000000000; total_most : l.total < 1000000000000 }
