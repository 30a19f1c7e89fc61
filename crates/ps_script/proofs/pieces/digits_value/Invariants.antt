use Rattle.std.proofs.Common.{◌≡◌, drop}
use Rattle.ps_script.specs.Words.{digits_value}
use Rattle.ps_script.proofs.pieces.digits_value.Given as goal

abbrev pub invariant-loop-b : goal.invariant-loop-b
invariant-loop-b l = digits_value l.value (drop l.b-index l.bytes) ≡ digits_value 0 l.bytes
