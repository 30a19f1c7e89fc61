use Rattle.ps_replay.specs.Places.{stack}
use Rattle.ps_replay.proofs.Stacking.{head_does, end_takes}
use Rattle.ps_replay.proofs.lines.take_line.Goals as goal

pub returns-in-Head : goal.returns-in-Head
returns-in-Head c = head_does c.args.n c.args.first.now c.args.second.now c.args.line.now c.in-Head.field-0 (stack c.args.held.now.items) c.in-Head.is (c.requires.head c.in-Head.field-0 c.in-Head.is)

pub returns-in-End : goal.returns-in-End
returns-in-End c = end_takes c.args.n c.args.first.now c.args.second.now c.args.line.now c.args.held.now.items c.deref.result.now c.end_line.result c.in-End.is c.deref.ensures.value (c.end_line.ensures c.args.n c.args.first.now c.args.second.now)
