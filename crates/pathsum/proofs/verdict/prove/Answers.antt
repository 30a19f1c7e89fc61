use Rattle.std.proofs.Common.{subst}
use Rattle.ps_reach.specs.declared.mode.Mode.TheVariants.{Exact}
use Rattle.ps_normal.specs.Comparing.{IsDecision}
use Rattle.pathsum.proofs.Verdicts.{passed_proves}
use Rattle.pathsum.proofs.verdict.prove.Goals as goal

pub returns-in-Passed : goal.returns-in-Passed
returns-in-Passed c = passed_proves c.args.pair.qubits _ _ c.in-Passed.evidence (subst (IsDecision c.args.pair.qubits c.args.pair.first c.args.pair.second Exact) c.in-Passed.is c.in_ok-judged.ensures)
