use Rattle.ps_steps.proofs.Numbers.{Read}
use Rattle.ps_steps.proofs.pieces.number.Given as goal

abbrev pub invariant-loop-i : goal.invariant-loop-i
invariant-loop-i l = Read l.bound l.text l.i l.value
