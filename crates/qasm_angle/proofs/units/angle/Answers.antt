use Rattle.std.proofs.Common.{sym, ◌∙◌}
use Rattle.qasm_angle.proofs.Reals.{num_zero}
use Rattle.qasm_angle.proofs.Turning.{no_units, angle_positive, angle_negative}
use Rattle.qasm_angle.proofs.units.angle.Goals as goal

pub returns-then-pair-gt30 : goal.returns-then-pair-gt30
returns-then-pair-gt30 c = (num_zero c.args.pair.r c.if-pair-ne0.false, no_units c.args.pair c.if-pair-gt30.true)

pub returns-then-is_negative : goal.returns-then-is_negative
returns-then-is_negative c = angle_negative c.args.pair c.magnitude.result c.two_to.result c.if-pair-gt30.false c.magnitude.ensures.value c.two_to.ensures c.of.result (num_zero c.args.pair.r c.if-pair-ne0.false) (sym c.is_negative.ensures ∙ c.if-is_negative.true) c.of.ensures

pub returns-else-is_negative : goal.returns-else-is_negative
returns-else-is_negative c = angle_positive c.args.pair c.magnitude.result c.two_to.result c.if-pair-gt30.false c.magnitude.ensures.value c.two_to.ensures c.of-else-is_negative.result (num_zero c.args.pair.r c.if-pair-ne0.false) (sym c.is_negative.ensures ∙ c.if-is_negative.false) c.of-else-is_negative.ensures
