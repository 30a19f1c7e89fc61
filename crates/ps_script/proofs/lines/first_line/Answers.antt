use Rattle.std.proofs.Common.{◌∙◌}
use Rattle.ps_script.proofs.LineLemmas.{line_some, rest_some, line_none, rest_none}
use Rattle.ps_script.proofs.lines.first_line.Goals as goal

pub returns-in-Some-clause-line : goal.returns-in-Some-clause-line
returns-in-Some-clause-line c = c.without_return.ensures ∙ line_some c.args.bytes.now c.in-Some.at c.in-Some.ensures

pub returns-in-Some-clause-rest : goal.returns-in-Some-clause-rest
returns-in-Some-clause-rest c = rest_some c.args.bytes.now c.in-Some.at c.in-Some.ensures

pub returns-in-None-clause-line : goal.returns-in-None-clause-line
returns-in-None-clause-line c = line_none c.args.bytes.now c.in-None.ensures

pub returns-in-None-clause-rest : goal.returns-in-None-clause-rest
returns-in-None-clause-rest c = rest_none c.args.bytes.now c.in-None.ensures
