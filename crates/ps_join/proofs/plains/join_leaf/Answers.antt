use Rattle.std.proofs.Common.{sym, ap, subst}
use Rattle.ps_sum.specs.declared.sums.PathSum.{PathSum}
use Rattle.ps_join.specs.Joining.{IsJoinOf, JoinFits}
use Rattle.ps_join.specs.OntoFaults.{IsOntoFault}
use Rattle.ps_join.proofs.Totals.{leaf_at}
use Rattle.ps_join.proofs.plains.join_leaf.Goals as goal

pub returns-in-Ok-join_onto-clause-sum : goal.returns-in-Ok-join_onto-clause-sum
returns-in-Ok-join_onto-clause-sum c S l =
    subst (λ x. IsJoinOf c.args.first x c.of.result) (leaf_at c.in-Ok.first.n c.args.first.n c.args.prim.now c.in-Ok-leaf.second S (ap (λ (s : PathSum). s.n) c.in-Ok.ensures) c.in-Ok-leaf.ensures.sum l)
    (subst (λ s. IsJoinOf c.args.first c.in-Ok-leaf.second s) (sym c.of.ensures) (subst (λ f. IsJoinOf f c.in-Ok-leaf.second c.in-Ok-join_onto.sum) c.in-Ok.ensures c.in-Ok-join_onto.ensures.sum))

pub returns-in-Ok-join_onto-clause-fits : goal.returns-in-Ok-join_onto-clause-fits
returns-in-Ok-join_onto-clause-fits c S l =
    subst (JoinFits c.args.first) (leaf_at c.in-Ok.first.n c.args.first.n c.args.prim.now c.in-Ok-leaf.second S (ap (λ (s : PathSum). s.n) c.in-Ok.ensures) c.in-Ok-leaf.ensures.sum l)
    (subst (λ f. JoinFits f c.in-Ok-leaf.second) c.in-Ok.ensures c.in-Ok-join_onto.ensures.fits)

pub returns-clause-passed : goal.returns-clause-passed
returns-clause-passed c S l =
    subst (λ x. IsOntoFault c.args.first x c.in-Err.fault) (leaf_at c.in-Ok.first.n c.args.first.n c.args.prim.now c.in-Ok-leaf.second S (ap (λ (s : PathSum). s.n) c.in-Ok.ensures) c.in-Ok-leaf.ensures.sum l)
    (subst (λ f. IsOntoFault f c.in-Ok-leaf.second c.in-Err.fault) c.in-Ok.ensures c.in-Err.ensures.passed)
