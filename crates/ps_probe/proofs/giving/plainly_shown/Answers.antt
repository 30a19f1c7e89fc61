use Rattle.ps_probe.proofs.Shown.{shown_unit, shown_no}
use Rattle.ps_probe.proofs.giving.plainly_shown.Goals as goal

pub returns-then-is_unit : goal.returns-then-is_unit
returns-then-is_unit c = shown_unit c.args.pattern.now c.args.sum.now c.is_unit.result c.is_unit.ensures c.if-is_unit.true

pub returns : goal.returns
returns c = shown_no c.args.pattern.now c.args.sum.now c.is_unit.result c.first_point.new.at c.filled.result c.requires.plain c.is_unit.ensures c.if-is_unit.false c.first_point.ensures.point c.filled.ensures
