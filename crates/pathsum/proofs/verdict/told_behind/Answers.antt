use Rattle.pathsum.proofs.Edits.{behind_no, behind_other}
use Rattle.pathsum.proofs.verdict.told_behind.Goals as goal

pub returns-in-No : goal.returns-in-No
returns-in-No c = behind_no c.args.qubits c.args.front c.args.verdict c.in-No.at _ c.in-No.is c.no_behind.ensures

pub returns-in_default : goal.returns-in_default
returns-in_default c = behind_other c.args.qubits c.args.front c.args.verdict _ c.in_default.not-No c.told.ensures
