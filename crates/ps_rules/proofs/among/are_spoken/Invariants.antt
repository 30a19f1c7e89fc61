use Rattle.ps_rules.proofs.Suspects.{EachOf, Spoken}
use Rattle.ps_rules.proofs.among.are_spoken.Given as goal

abbrev pub invariant-loop-place : goal.invariant-loop-place
invariant-loop-place l = EachOf (Spoken l.outs l.n) l.among l.place
