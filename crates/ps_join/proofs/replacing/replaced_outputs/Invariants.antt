use Rattle.ps_join.proofs.Chains.{OutputsLoop}
use Rattle.ps_join.proofs.replacing.replaced_outputs.Given as goal

abbrev pub invariant-loop-i : goal.invariant-loop-i
invariant-loop-i l = OutputsLoop l.names.n l.names.m1 l.names.m2 l.outs l.polys l.i l.parts.items
