use Rattle.pathsum.proofs.Edits.{behind_nothing, behind_windows, behind_judged, behind_passed}
use Rattle.pathsum.proofs.verdict.found_behind.Goals as goal

pub returns-in-Nothing : goal.returns-in-Nothing
returns-in-Nothing c = behind_nothing c.args.qubits c.args.front c.args.found c.in-Nothing.is

pub returns-in-Decided-Judged : goal.returns-in-Decided-Judged
returns-in-Decided-Judged c = behind_judged c.args.qubits c.args.front c.args.found _ c.in-Decided-Judged.judged _ c.in-Decided-Judged.is c.in-Decided-Judged.field-0-is c.told_behind.ensures

pub returns-in-Decided-Passed : goal.returns-in-Decided-Passed
returns-in-Decided-Passed c = behind_passed c.args.qubits c.args.front c.args.found _ c.in-Decided-Passed.evidence c.in-Decided-Passed.is c.in-Decided-Passed.field-0-is

pub returns-in-Windows : goal.returns-in-Windows
returns-in-Windows c = behind_windows c.args.qubits c.args.front c.args.found c.in-Windows.is
