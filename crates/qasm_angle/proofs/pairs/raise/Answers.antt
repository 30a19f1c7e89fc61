use Rattle.std.proofs.Common.{sym, ◌∙◌}
use Rattle.qasm_angle.specs.Fractions.{PowerIs, InverseIs}
use Rattle.qasm_angle.proofs.Reals.{on_real, power_positive, power_zero, power_negative, num_zero, num_some}
use Rattle.qasm_angle.proofs.pairs.raise.Goals as goal

pub returns-then-not-is_negative : goal.returns-then-not-is_negative
returns-then-not-is_negative c =
    let x = c.args.x.now in let y = c.args.y.now in let n = c.magnitude-size.result in
    power_positive x y (num_zero x.s c.if-x-ne0.false) (num_zero y.s c.if-y-ne0.false) c.if-y-ne0-2.false n c.magnitude-size.ensures.value c.if-size-gt64.false c.real.result (sym c.is_negative.ensures ∙ c.if-not-is_negative.true)
    (on_real (PowerIs x.r n) c.raised.result c.real.result c.raised.ensures c.real.ensures)

pub returns-then-x-eq0 : goal.returns-then-x-eq0
returns-then-x-eq0 c =
    let x = c.args.x.now in let y = c.args.y.now in let n = c.magnitude-size.result in
    power_zero x y (num_zero x.s c.if-x-ne0.false) (num_zero y.s c.if-y-ne0.false) c.if-y-ne0-2.false n c.magnitude-size.ensures.value c.if-size-gt64.false (sym c.is_negative.ensures ∙ c.if-not-is_negative.false) (num_zero x.r c.if-x-eq0.true)

pub returns : goal.returns
returns c =
    let x = c.args.x.now in let y = c.args.y.now in let n = c.magnitude-size.result in
    power_negative x y (num_zero x.s c.if-x-ne0.false) (num_zero y.s c.if-y-ne0.false) c.if-y-ne0-2.false n c.magnitude-size.ensures.value c.if-size-gt64.false c.real-2.result (sym c.is_negative.ensures ∙ c.if-not-is_negative.false) (num_some x.r c.if-x-eq0.false)
    (on_real (InverseIs x.r n) c.inverse.result c.real-2.result c.inverse.ensures c.real-2.ensures)
