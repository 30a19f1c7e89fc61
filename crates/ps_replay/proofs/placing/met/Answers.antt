use Rattle.ps_replay.proofs.Stacking.{met_empty, met_before, met_both}
use Rattle.ps_replay.proofs.placing.met.Goals as goal

pub returns-in-Empty : goal.returns-in-Empty
returns-in-Empty c = met_empty c.args.first c.args.second c.in-Empty.is

pub returns-in-Empty-second : goal.returns-in-Empty-second
returns-in-Empty-second c = met_before c.args.first c.args.second c.in-Span.from c.in-Span.middle c.in-Span.is c.in-Empty-second.is

pub returns-then-next-middle : goal.returns-then-next-middle
returns-then-next-middle c = met_both c.args.first c.args.second c.in-Span.from c.in-Span.middle c.in-Span-second.next c.in-Span-second.to c.in-Span.is c.in-Span-second.is c.if-next-middle.true
