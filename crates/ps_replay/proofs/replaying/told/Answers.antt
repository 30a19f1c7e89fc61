use Rattle.ps_replay.proofs.Stacking.{told_unit, told_other}
use Rattle.ps_replay.proofs.replaying.told.Goals as goal

pub returns-then-is_unit : goal.returns-then-is_unit
returns-then-is_unit c = λ S e. told_unit c.args.held.items c.pop.new.self.items c.in-Some.last S c.in-Some.ensures.items e (c.is_unit.ensures.0 c.if-is_unit.true)

pub returns-in-Some : goal.returns-in-Some
returns-in-Some c = λ S e. told_other c.args.held.items c.pop.new.self.items c.in-Some.last S c.is_unit.result c.in-Some.ensures.items e c.is_unit.ensures.1 c.if-is_unit.false
