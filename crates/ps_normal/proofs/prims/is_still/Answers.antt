use Rattle.std.proofs.Common.{arith, subst}
use Rattle.std.specs.Prelude.{IfSome}
use Rattle.ps_normal.specs.Suspecting.{NoneBeside}
use Rattle.ps_normal.proofs.Suspecting.{spoken_still}
use Rattle.ps_normal.proofs.prims.is_still.Goals as goal

pub returns-in-Some : goal.returns-in-Some
returns-in-Some c = λ t. spoken_still c.args.sum.now c.outputs.result.now _ _ c.outputs.ensures (omega (arith, c.qubits.ensures, c.args.sum.now.qubits)) (subst (λ o. IfSome o (λ m. NoneBeside c.args.sum.now m)) c.in-Some.is c.requires.others) (c.are_spoken.ensures.0 t)
