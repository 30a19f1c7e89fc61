use Rattle.ps_sum.proofs.TableWorths.{Placing}
use Rattle.ps_probe.proofs.phases.place_in.Given as goal

abbrev pub invariant-loop-name : goal.invariant-loop-name
invariant-loop-name l = Placing l.names l.mono l.size l.name-index l.place l.half
