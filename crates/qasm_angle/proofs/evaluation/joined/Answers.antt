use Rattle.std.proofs.Common.{sym, subst}
use Rattle.qasm_angle.specs.Values.{JoinedIs}
use Rattle.qasm_angle.proofs.evaluation.joined.Goals as goal

pub returns-in-Pow : goal.returns-in-Pow
returns-in-Pow c = subst (λ o. JoinedIs o c.args.x.now c.args.y.now c.raise.result) (sym c.in-Pow.is) c.raise.ensures
