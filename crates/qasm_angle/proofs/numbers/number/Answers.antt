use Rattle.std.proofs.Common.{arith, Err}
use Rattle.qasm_angle.specs.declared.types.AngleFault.TheVariants.{AngleRange}
use Rattle.std.proofs.lemmas.Int.{to_z-of_z}
use mir.Syntax.{w32}
use Rattle.qasm_angle.specs.Fractions.{many}
use Rattle.qasm_angle.proofs.Decimals.{number_below, number_large, number_whole}
use Rattle.qasm_angle.proofs.numbers.number.Goals as goal

pub returns-then-digits-ge-MANY : goal.returns-then-digits-ge-MANY
returns-then-digits-ge-MANY c = many c.if-digits-ge-MANY.true

pub returns-then-ten-lt0 : goal.returns-then-ten-lt0
returns-then-ten-lt0 c = number_below c.args.digits _ c.unsigned_abs-size.result c.decimal.result (omega (arith, c.if-digits-ge-MANY.false)) c.unsigned_abs-size.ensures.value c.args.ten (to_z-of_z w32 c.args.ten c.ranges.ten) c.if-ten-lt0.true c.decimal.ensures

pub returns-then-size-gt18 : goal.returns-then-size-gt18
returns-then-size-gt18 c = number_large c.args.digits _ c.unsigned_abs-size.result (Err AngleRange) (omega (arith, c.if-digits-ge-MANY.false)) c.unsigned_abs-size.ensures.value c.args.ten (to_z-of_z w32 c.args.ten c.ranges.ten) c.if-ten-lt0.false c.if-size-gt18.true

pub returns : goal.returns
returns c = number_whole c.args.digits _ c.unsigned_abs-size.result c.whole.result (omega (arith, c.if-digits-ge-MANY.false)) c.unsigned_abs-size.ensures.value c.args.ten (to_z-of_z w32 c.args.ten c.ranges.ten) c.if-ten-lt0.false (omega (arith, c.if-size-gt18.false)) c.whole.ensures
