use Rattle.std.proofs.Common.{◌≡◌, ◌≤◌, ◌-◌, ◌++◌, length, take, drop}
use Rattle.ps_bool.specs.Polys.{AllSets}
use Rattle.ps_bool.specs.Merging.{cancelled}
use Rattle.ps_bool.proofs.gather.cancel_pairs.Given as goal

abbrev pub invariant-loop-i : goal.invariant-loop-i
invariant-loop-i l = record { behind : l.kept ≤ l.i; whole : take l.kept l.monos.items ++ cancelled (drop l.i l.monos.items) ≡ cancelled l.initial.monos.items; sets : AllSets (take l.kept l.monos.items) }

abbrev pub decreases-loop-i : goal.decreases-loop-i
decreases-loop-i l = length l.monos.items - l.i
