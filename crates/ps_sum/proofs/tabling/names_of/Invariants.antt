use Rattle.std.proofs.Common.{◌≡◌, take}
use Rattle.ps_sum.proofs.tabling.names_of.Given as goal

abbrev pub invariant-loop-place : goal.invariant-loop-place
invariant-loop-place l = l.names.items ≡ take l.place l.mono
