use Rattle.pathsum.proofs.Splitting.{NoneBefore}
use Rattle.pathsum.proofs.splits.first_split.Given as goal

abbrev pub invariant-loop-at : goal.invariant-loop-at
invariant-loop-at l = NoneBefore l.bytes l.at
