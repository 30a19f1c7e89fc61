use Rattle.std.proofs.Common.{subst, sym}
use Rattle.std.specs.Prelude.{IfSome}
use Rattle.ps_normal.specs.Suspecting.{NoneBeside}
use Rattle.ps_normal.proofs.prims.reduce_joined.Goals as goal

pub reduce_among-requires-clause-others : goal.reduce_among-requires-clause-others
reduce_among-requires-clause-others g c = subst (λ S. NoneBeside S c.in-Some.among) (sym c.in_ok-sum.ensures) (subst (λ o. IfSome o (λ m. NoneBeside c.args.sum m)) c.in-Some.is c.requires.others)
