use Rattle.ps_rules.proofs.Gathers.{Gathered}
use Rattle.std.proofs.Common.{take}
use Rattle.ps_rules.proofs.spoiling.add_poly.Given as goal

abbrev pub invariant-loop-mono : goal.invariant-loop-mono
invariant-loop-mono l = Gathered l.fn.out (take l.mono-index l.mono-items) l.out
