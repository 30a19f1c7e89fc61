use Rattle.std.proofs.Common.{refl}
use Rattle.pathsum.proofs.Verdicts.{told_yes, told_yes_phase, told_no, told_no_pair, told_stuck, told_passed}
use Rattle.pathsum.proofs.verdict.told.Goals as goal

pub returns-in-Yes : goal.returns-in-Yes
returns-in-Yes c = told_yes c.args.qubits c.args.verdict c.in-Yes.is

pub returns-in-No : goal.returns-in-No
returns-in-No c = told_no c.args.qubits c.args.verdict c.in-No.at _ c.in-No.is refl refl

pub returns-in-YesPhase : goal.returns-in-YesPhase
returns-in-YesPhase c = told_yes_phase c.args.qubits c.args.verdict c.in-YesPhase.phase c.in-YesPhase.is

pub returns-in-NoPair : goal.returns-in-NoPair
returns-in-NoPair c = told_no_pair c.args.qubits c.args.verdict c.in-NoPair.first c.in-NoPair.second _ _ c.in-NoPair.is refl refl refl refl

pub returns-in-Stuck : goal.returns-in-Stuck
returns-in-Stuck c = told_stuck c.args.qubits c.args.verdict c.in-Stuck.sum c.in-Stuck.is

pub returns-in-Passed : goal.returns-in-Passed
returns-in-Passed c = told_passed c.args.qubits c.args.verdict c.in-Passed.evidence c.in-Passed.is
