use Rattle.std.proofs.Common.{◌≡◌, false}
use Rattle.ps_bool.specs.Polys.{occurs}
use Rattle.ps_overlap.proofs.Paired.{Halved, as_is}
use Rattle.ps_overlap.proofs.pairing.push_halves.Given as goal

abbrev pub invariant-loop-mono : goal.invariant-loop-mono
invariant-loop-mono l = Halved as_is (λ u. occurs u l.monos ≡ false) l.w l.monos l.mono-index l.fn.out.items l.out.items
