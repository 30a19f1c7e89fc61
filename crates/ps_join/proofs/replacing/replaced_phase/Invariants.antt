use Rattle.ps_join.proofs.Chains.{PhaseLoop}
use Rattle.ps_join.proofs.replacing.replaced_phase.Given as goal

abbrev pub invariant-loop-input : goal.invariant-loop-input
invariant-loop-input l = PhaseLoop l.names.n l.names.m1 l.names.m2 l.outs l.poly l.input l.phase
