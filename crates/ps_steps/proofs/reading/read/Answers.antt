use Rattle.ps_steps.specs.Texts.{lines_of}
use Rattle.ps_steps.proofs.Deciding.{only_reading}
use Rattle.ps_steps.proofs.reading.read.Goals as goal

pub returns-clause-only : goal.returns-clause-only
returns-clause-only c = only_reading c.args.text.now (lines_of c.read_lines.result) c.read_lines.ensures
