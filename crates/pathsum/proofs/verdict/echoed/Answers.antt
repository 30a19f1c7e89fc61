use Rattle.pathsum.proofs.Verdicts.{echoed_accepted, echoed_left, echoed_rejected}
use Rattle.pathsum.proofs.verdict.echoed.Goals as goal

pub returns-in-Accepted : goal.returns-in-Accepted
returns-in-Accepted c = echoed_accepted c.args.replayed c.in-Accepted.is

pub returns-in-Left : goal.returns-in-Left
returns-in-Left c = echoed_left c.args.replayed c.in-Left.sum c.in-Left.is

pub returns-in-Rejected : goal.returns-in-Rejected
returns-in-Rejected c = echoed_rejected c.args.replayed c.in-Rejected.line c.in-Rejected.why c.in-Rejected.is
