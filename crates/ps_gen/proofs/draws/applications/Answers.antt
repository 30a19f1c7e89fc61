use Rattle.std.proofs.Common.{arith}
use Rattle.ps_gen.proofs.DrawLemmas.{drawn_step, drawn_all}
use Rattle.ps_gen.proofs.draws.applications.Goals as goal

pub loop-i-preserved : goal.loop-i-preserved
loop-i-preserved c =
    drawn_step _ c.args.items c.loop-i._i _ _ _ _ _ _ (omega arith) c.loop-i.invariant c.application.ensures.value c.application.ensures.last c.in_ok-push.ensures.items

pub returns : goal.returns
returns c = drawn_all _ c.args.items c.loop-i._i _ _ _ (omega arith) c.loop-i.invariant
