use Rattle.ps_normal.proofs.Suspecting.{still_joins}
use Rattle.ps_normal.proofs.prims.still_part.Goals as goal

pub returns-clause-part : goal.returns-clause-part
returns-clause-part c = λ from middle to S1 S2 f j. still_joins from middle to S1 S2 c.args.sum _ _ c.requires.still f j c.in_ok-push.ensures.items
