use Rattle.ps_rules.proofs.Deciding.{Skipped}
use Rattle.ps_rules.proofs.choosing.least_partner.Given as goal

abbrev pub invariant-loop-place : goal.invariant-loop-place
invariant-loop-place l = Skipped l.sum.n l.y l.sight.pairs l.sight.wide l.place
