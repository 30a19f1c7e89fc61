use Rattle.ps_probe.proofs.Counting.{timed_more}
use Rattle.ps_probe.proofs.balancing.push_times.Goals as goal

pub loop-i-preserved : goal.loop-i-preserved
loop-i-preserved c = timed_more c.args.phase c.loop-i.i c.args.out.now.items c.loop-i.out.items _ c.requires.half c.in_ok-push.ensures.items c.loop-i.invariant
