use Rattle.std.proofs.Common.{subst, sym}
use Rattle.qasm_angle.specs.Fractions.{Exactly}
use Rattle.qasm_angle.proofs.Raising.{power_of_zero}
use Rattle.qasm_angle.proofs.powers.zero_raised.Goals as goal

pub returns : goal.returns
returns c = subst (λ z. Exactly z 0 c.fraction-2.result) (sym (power_of_zero c.args.exponent c.if-exponent-eq0.false)) c.fraction-2.ensures
