use Rattle.ps_script.specs.Reading.{lines_of}
use Rattle.ps_script.proofs.ReadLaws.{only_reading}
use Rattle.ps_script.proofs.reading.read.Goals as goal

pub returns-clause-only : goal.returns-clause-only
returns-clause-only c = only_reading c.args.bytes.now (lines_of c.read_items.result) c.read_items.ensures
