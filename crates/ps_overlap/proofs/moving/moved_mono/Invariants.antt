use Rattle.ps_overlap.proofs.Moved.{MovedTo}
use Rattle.ps_overlap.proofs.moving.moved_mono.Given as goal

abbrev pub invariant-loop-place : goal.invariant-loop-place
invariant-loop-place l = MovedTo l.n l.by l.mono l.place l.out
