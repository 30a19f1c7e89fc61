use Rattle.ps_join.proofs.Chains.{BoolLoop}
use Rattle.ps_join.proofs.replacing.replaced_bool.Given as goal

abbrev pub invariant-loop-input : goal.invariant-loop-input
invariant-loop-input l = BoolLoop l.names.n l.names.m1 l.names.m2 l.outs l.poly l.input l.output
