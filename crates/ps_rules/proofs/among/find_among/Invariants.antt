use Rattle.ps_rules.proofs.Suspects.{EachOf, NoStep}
use Rattle.ps_rules.proofs.among.find_among.Given as goal

abbrev pub invariant-loop-place : goal.invariant-loop-place
invariant-loop-place l = EachOf (NoStep l.sum) l.among l.place
