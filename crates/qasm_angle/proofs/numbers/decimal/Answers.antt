use Rattle.std.proofs.Common.{◌<◌, arith, subst, sym}
use Rattle.qasm_angle.proofs.Decimals.{decimal_zero, decimal_deep, decimal_broken, decimal_divided, fives_small}
use Rattle.qasm_angle.proofs.Raising.{power_some}
use Rattle.qasm_angle.proofs.numbers.decimal.Goals as goal

pub returns-then-digits-eq0 : goal.returns-then-digits-eq0
returns-then-digits-eq0 c = decimal_zero c.args.digits c.args.places c.fraction.result c.if-digits-eq0.true c.fraction.ensures

pub returns-then-places-gt25 : goal.returns-then-places-gt25
returns-then-places-gt25 c = decimal_deep c.args.digits c.args.places c.requires.small c.if-digits-eq0.false c.if-places-gt25.true

pub pow-fives-requires : goal.pow-fives-requires
pow-fives-requires c = fives_small c.args.places (omega (arith, c.if-places-gt25.false))

pub nonzero_rem-digits : goal.nonzero_rem-digits
nonzero_rem-digits c = subst (λ x. 0 < x) (sym c.pow-fives.ensures) (power_some 5 c.args.places (omega arith))

pub returns-then-digits-fives-ne0 : goal.returns-then-digits-fives-ne0
returns-then-digits-fives-ne0 c = decimal_broken c.args.digits c.args.places c.pow-fives.result c.pow-fives.ensures c.if-digits-fives-ne0.true

pub returns : goal.returns
returns c = decimal_divided c.args.digits c.args.places c.pow-fives.result c.fraction-2.result c.pow-fives.ensures c.if-digits-fives-ne0.false c.fraction-2.ensures
