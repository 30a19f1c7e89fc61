use Rattle.std.proofs.Common.{◌++◌, ◌∷◌, [], List, sym, subst}
use Rattle.std.specs.Prelude.{IfOk, IfErr, OnOk}
use Rattle.ps_prim.specs.declared.prims.Primitive.{Primitive as Prim}
use Rattle.ps_prim.specs.Sums.{Denotes}
use Rattle.ps_sum.specs.declared.sums.PathSum.{PathSum}
use Rattle.ps_sum.specs.Sums.{path_values}
use Rattle.ps_join.specs.Joining.{IsLeafOf, IsJoinOf, JoinFits}
use Rattle.ps_join.specs.OntoFaults.{IsOntoFault}
use Rattle.ps_join.proofs.plains.join_prim.Goals as goal

pub returns-in-Cx-clause-sum : goal.returns-in-Cx-clause-sum
returns-in-Cx-clause-sum c = subst (λ g. IfOk c.join_exchange.result (λ s. (S : PathSum) → IsLeafOf c.args.first.n g S → IsJoinOf c.args.first S s)) (sym c.in-Cx.is) c.join_exchange.ensures.sum

pub returns-in-Cx-clause-fits : goal.returns-in-Cx-clause-fits
returns-in-Cx-clause-fits c = subst (λ g. OnOk c.join_exchange.result ((S : PathSum) → IsLeafOf c.args.first.n g S → JoinFits c.args.first S)) (sym c.in-Cx.is) c.join_exchange.ensures.fits

pub returns-in-Cx-clause-denotes : goal.returns-in-Cx-clause-denotes
returns-in-Cx-clause-denotes c =
    subst (λ g. IfOk c.join_exchange.result (λ s. (A : List Prim) → Denotes c.args.first.n (path_values c.args.first) A → Denotes c.args.first.n (path_values s) (A ++ g ∷ []))) (sym c.in-Cx.is) c.join_exchange.ensures.denotes

pub returns-in-Cx-clause-passed : goal.returns-in-Cx-clause-passed
returns-in-Cx-clause-passed c = subst (λ g. IfErr c.join_exchange.result (λ e. (S : PathSum) → IsLeafOf c.args.first.n g S → IsOntoFault c.args.first S e)) (sym c.in-Cx.is) c.join_exchange.ensures.passed
