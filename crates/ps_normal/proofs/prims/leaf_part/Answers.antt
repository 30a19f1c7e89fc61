use Rattle.std.proofs.lemmas.Result.{IfOk-weaker}
use Rattle.ps_normal.proofs.Parting.{usable_leaf, ended_at, reduced_leaf}
use Rattle.ps_normal.proofs.prims.leaf_part.Goals as goal

pub returns-clause-usable : goal.returns-clause-usable
returns-clause-usable g c = IfOk-weaker c.ended_part.result _ _ (λ p u. u c.args.n 1 c.in_ok-sum.sum (usable_leaf c.args.n c.args.prim.now c.in_ok-sum.sum c.in_ok-sum.ensures.sum c.in_ok-sum.ensures.denotes) (ended_at _ _ _ _ c.deref.ensures.value c.in_ok-ended.ensures.ended)) c.ended_part.ensures.usable

pub returns-clause-reduced : goal.returns-clause-reduced
returns-clause-reduced g c = IfOk-weaker c.ended_part.result _ _ (λ p f. reduced_leaf c.args.n c.args.prim.now c.in_ok-sum.sum _ _ c.in_ok-ended.ended p c.deref.ensures.value c.in_ok-sum.ensures.sum c.in_ok-ended.ensures.ended f) c.ended_part.ensures.reduced
