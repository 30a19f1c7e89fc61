use Rattle.ps_probe.proofs.Counting.{same_tallies}
use Rattle.ps_probe.proofs.balancing.are_same.Goals as goal

pub returns : goal.returns
returns c = same_tallies c.args.sides.front.items c.args.sides.back.items _ _ c.eq.result c.requires.front c.requires.back c.sort_unstable.ensures.permutation c.sort_unstable-2.ensures.permutation c.sort_unstable.ensures.sorted c.sort_unstable-2.ensures.sorted c.eq.ensures
