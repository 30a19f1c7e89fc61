use Rattle.std.proofs.Common.{◌≡◌, true, take}
use Rattle.ps_steps.specs.Pieces.{lacks}
use Rattle.ps_steps.proofs.pieces.split.Given as goal

abbrev pub invariant-loop-i : goal.invariant-loop-i
invariant-loop-i l = lacks l.mark (take l.i l.text) ≡ true
