use Rattle.std.proofs.Common.{◌∙◌, ap, sym}
use Rattle.ps_normal.specs.declared.parts.Ended.TheVariants as ended
use Rattle.ps_normal.proofs.Parting.{leaf_kept, leaf_passed, join_kept, join_step_passed, usable_ended}
use Rattle.ps_normal.proofs.prims.ended_part.Goals as goal

pub returns-in_ok-push_moves-in-Normal-clause-leaf : goal.returns-in_ok-push_moves-in-Normal-clause-leaf
returns-in_ok-push_moves-in-Normal-clause-leaf c = λ n g S f em et l r. leaf_kept n c.args.places.from g S c.of.result c.args.steps.now c.args.moves.now.items _ c.args.first c.args.ended f l (c.in-Normal.is ∙ ap ended.Normal (sym c.of.ensures)) r c.in_ok-push_moves-in-Normal.ensures

pub returns-in_ok-push_moves-in-Normal-clause-join : goal.returns-in_ok-push_moves-in-Normal-clause-join
returns-in_ok-push_moves-in-Normal-clause-join c = λ S1 S2 S f t j r. join_kept c.args.places.from c.args.places.middle c.args.places.to S1 S2 S c.of.result c.args.steps.now c.args.moves.now.items _ c.args.first c.args.ended f t j (c.in-Normal.is ∙ ap ended.Normal (sym c.of.ensures)) r c.in_ok-push_moves-in-Normal.ensures

pub returns-in_ok-push_moves-in-Normal-clause-usable : goal.returns-in_ok-push_moves-in-Normal-clause-usable
returns-in_ok-push_moves-in-Normal-clause-usable c = λ n count S u r. usable_ended n count S c.of.result c.args.steps.now c.args.ended (c.in-Normal.is ∙ ap ended.Normal (sym c.of.ensures)) u r

pub returns-in_ok-evidence-in-Over-clause-leaf : goal.returns-in_ok-evidence-in-Over-clause-leaf
returns-in_ok-evidence-in-Over-clause-leaf c = λ n g S f em et l r. leaf_passed n c.args.places.from c.args.places.middle c.args.places.to g S c.in-Over.sum c.in-Over.passed c.args.steps.now c.args.moves.now.items _ c.args.first c.args.ended _ f em et l c.in-Over.is r c.in_ok-push_moves-in-Over.ensures c.in_ok-evidence-in-Over.ensures

pub returns-in_ok-evidence-in-Over-clause-join : goal.returns-in_ok-evidence-in-Over-clause-join
returns-in_ok-evidence-in-Over-clause-join c = λ S1 S2 S f t j r. join_step_passed c.args.places.from c.args.places.middle c.args.places.to S1 S2 S c.in-Over.sum c.in-Over.passed c.args.steps.now c.args.moves.now.items _ c.args.first c.args.ended _ f t j c.in-Over.is r c.in_ok-push_moves-in-Over.ensures c.in_ok-evidence-in-Over.ensures
