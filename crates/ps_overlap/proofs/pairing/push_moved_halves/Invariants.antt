use Rattle.ps_overlap.proofs.Paired.{Halved, moved_at, MonosNotMoved}
use Rattle.ps_overlap.proofs.pairing.push_moved_halves.Given as goal

abbrev pub invariant-loop-mono : goal.invariant-loop-mono
invariant-loop-mono l = Halved (moved_at l.n l.by) (MonosNotMoved l.n l.by l.monos) l.w l.monos l.mono-index l.fn.out.items l.out.items
