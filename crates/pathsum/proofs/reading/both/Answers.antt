use Rattle.qasm_expand.specs.Reading.{circuit_in}
use Rattle.pathsum.proofs.Judging.{widths_told, circuits_told}
use Rattle.pathsum.proofs.reading.both.Goals as goal

pub returns-then-before-behind-clause-given : goal.returns-then-before-behind-clause-given
returns-then-before-behind-clause-given c = widths_told (circuit_in c.args.before) (circuit_in c.args.behind) c.args.start _ c.if-before-behind.true c.from.ensures

pub returns-clause-given : goal.returns-clause-given
returns-clause-given c = circuits_told (circuit_in c.args.before) (circuit_in c.args.behind) c.args.start c.if-before-behind.false
