use Rattle.ps_normal.proofs.Finding.{shown_unit, shown_no}
use Rattle.ps_normal.proofs.comparing.exactly_shown.Goals as goal

pub returns-then-is_unit : goal.returns-then-is_unit
returns-then-is_unit c = shown_unit c.args.sum.now c.is_unit.result c.is_unit.ensures c.if-is_unit.true

pub returns : goal.returns
returns c = shown_no c.args.sum.now c.is_unit.result c.first_point.new.at c.is_unit.ensures c.if-is_unit.false c.first_point.ensures.point
