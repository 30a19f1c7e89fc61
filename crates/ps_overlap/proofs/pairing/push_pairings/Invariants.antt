use Rattle.ps_overlap.proofs.Paired.{Pairing}
use Rattle.ps_overlap.proofs.pairing.push_pairings.Given as goal

abbrev pub invariant-loop-i : goal.invariant-loop-i
invariant-loop-i l = Pairing l.lo l.n l.by l.first l.second l.i l.fn.out.items l.out.items
