use Rattle.std.proofs.Common.{◌≡◌, ◌-◌, ◌≤◌, length, take, drop, replicate}
use Rattle.ps_script.proofs.name.Name.of.Given as goal

abbrev pub invariant-loop-i : goal.invariant-loop-i
invariant-loop-i l = (take l.i l.held ≡ take l.i l.bytes) × (drop l.i l.held ≡ replicate (32 - l.i) 0) × (length l.held ≡ 32) × (length l.bytes ≤ 32)
