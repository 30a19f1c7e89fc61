use Rattle.ps_join.proofs.NamedParts.{NamedMonos}
use Rattle.ps_join.proofs.naming.named_bool.Given as goal

abbrev pub invariant-loop-mono : goal.invariant-loop-mono
invariant-loop-mono l = NamedMonos l.names.n l.names.m1 l.names.m2 l.mono-items l.mono-index l.monos.items
