use Rattle.std.proofs.Common.{◌≡◌, take}
use Rattle.ps_rules.proofs.applying.copied_outs.Given as goal

abbrev pub invariant-loop-poly : goal.invariant-loop-poly
invariant-loop-poly l = l.polys.items ≡ take l.poly-index l.poly-items
