use Rattle.std.proofs.Common.{◌≡◌, take, min, length}
use Rattle.ps_sum.specs.Counts.{raw_bool}
use Rattle.ps_sum.proofs.counts.raw_bool.Given as goal

abbrev pub invariant-loop-mono : goal.invariant-loop-mono
invariant-loop-mono l = l.total ≡ min (raw_bool l.v (length l.by) (take l.mono-index l.mono-items)) 1000000000000
