use Rattle.std.proofs.Common.{◌++◌, ◌∷◌, [], List, get_or, sym, subst, arith}
use Rattle.ps_prim.specs.declared.prims.Primitive.{Primitive as Prim}
use Rattle.ps_prim.specs.Sums.{Denotes}
use Rattle.ps_sum.specs.Sums.{path_values}
use Rattle.ps_join.specs.Joining.{IsLeafOf}
use Rattle.ps_join.proofs.PlainJoins.{lift_below, turn_join, turn_fits, turn_means, turn_units}
use Rattle.ps_join.proofs.Totals.{lift_some}
use Rattle.ps_join.proofs.plains.join_turn.Goals as goal

pub added-requires : goal.added-requires
added-requires c = λ v l.
    lift_below c.args.q c.add-turn.result v c.in-Ok-Some.more c.args.first (omega (arith, c.requires.within, c.requires.wide))
    (lift_some (get_or c.args.first.outs c.args.q []) c.output.result.now c.add-turn.result c.in-Ok-Some.field-0 c.in-Ok-Some.more c.output.ensures c.in-Ok-Some.field-0-is c.in-Ok-Some.ensures) l

pub returns-in-Ok-clause-sum : goal.returns-in-Ok-clause-sum
returns-in-Ok-clause-sum c = λ S l.
    turn_join c.args.phi c.args.lambda c.args.q c.add-turn.result c.in-Ok-Some.more c.args.first S c.in-Ok.sum c.requires.within c.requires.wide (turn_units _ _ _ _ _ c.add-turn.ensures c.whole.ensures c.whole-2.ensures)
    (lift_some (get_or c.args.first.outs c.args.q []) c.output.result.now c.add-turn.result c.in-Ok-Some.field-0 c.in-Ok-Some.more c.output.ensures c.in-Ok-Some.field-0-is c.in-Ok-Some.ensures)
    c.in-Ok.ensures (subst (λ g. IsLeafOf c.args.first.n g S) c.requires.turn l)

pub returns-in-Ok-clause-fits : goal.returns-in-Ok-clause-fits
returns-in-Ok-clause-fits c = λ S l.
    turn_fits c.args.phi c.args.lambda c.args.q c.add-turn.result c.in-Ok-Some.more c.args.first S c.requires.within c.requires.wide (turn_units _ _ _ _ _ c.add-turn.ensures c.whole.ensures c.whole-2.ensures) c.requires.near
    (lift_some (get_or c.args.first.outs c.args.q []) c.output.result.now c.add-turn.result c.in-Ok-Some.field-0 c.in-Ok-Some.more c.output.ensures c.in-Ok-Some.field-0-is c.in-Ok-Some.ensures)
    (subst (λ g. IsLeafOf c.args.first.n g S) c.requires.turn l)

pub returns-in-Ok-clause-denotes : goal.returns-in-Ok-clause-denotes
returns-in-Ok-clause-denotes c =
    subst (λ g. (A : List Prim) → Denotes c.args.first.n (path_values c.args.first) A → Denotes c.args.first.n (path_values c.in-Ok.sum) (A ++ g ∷ [])) (sym c.requires.turn)
    (turn_means c.args.phi c.args.lambda c.args.q c.args.first c.in-Ok.sum c.requires.within (λ S l.
    turn_join c.args.phi c.args.lambda c.args.q c.add-turn.result c.in-Ok-Some.more c.args.first S c.in-Ok.sum c.requires.within c.requires.wide (turn_units _ _ _ _ _ c.add-turn.ensures c.whole.ensures c.whole-2.ensures)
    (lift_some (get_or c.args.first.outs c.args.q []) c.output.result.now c.add-turn.result c.in-Ok-Some.field-0 c.in-Ok-Some.more c.output.ensures c.in-Ok-Some.field-0-is c.in-Ok-Some.ensures)
    c.in-Ok.ensures l))
