use Rattle.std.proofs.Common.{subst}
use Rattle.ps_normal.specs.Comparing.{IsDecision}
use Rattle.pathsum.proofs.Verdicts.{verdict_told, passed_verdict}
use Rattle.pathsum.proofs.verdict.decide.Goals as goal

pub returns-in-Judged : goal.returns-in-Judged
returns-in-Judged c = verdict_told c.args.pair.qubits _ _ c.args.mode _ c.in-Judged.judged.verdict _ (subst (IsDecision c.args.pair.qubits c.args.pair.first c.args.pair.second c.args.mode) c.in-Judged.is c.in_ok-judged.ensures).decided c.told.ensures

pub returns-in-Passed : goal.returns-in-Passed
returns-in-Passed c = passed_verdict c.args.pair.qubits _ _ c.args.mode c.in-Passed.evidence (subst (IsDecision c.args.pair.qubits c.args.pair.first c.args.pair.second c.args.mode) c.in-Passed.is c.in_ok-judged.ensures)
