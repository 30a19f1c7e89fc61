use Rattle.std.proofs.Common.{◌*◌, ◌^◌, subst, sym, ap, ◌∙◌}
use Rattle.qasm_angle.specs.Fractions.{Exactly, signed, below_zero}
use Rattle.qasm_angle.proofs.Raising.{no_inverse, inverse_is, inverse_large, odd_times}
use Rattle.qasm_angle.proofs.powers.inverse.Goals as goal

pub returns-then-odd-ne1 : goal.returns-then-odd-ne1
returns-then-odd-ne1 c = no_inverse c.args.base.now c.args.exponent c.odd_part-odd.result.0 c.odd_part-odd.result.1 (sym c.magnitude.ensures.value ∙ c.odd_part-odd.ensures.product) c.odd_part-odd.ensures.odd c.if-odd-ne1.true c.requires.positive

pub returns-then-base-exponent-ge62 : goal.returns-then-base-exponent-ge62
returns-then-base-exponent-ge62 c =
    let a = c.args.base.now in let t = c.odd_part-odd.result.1 in
    inverse_large a c.args.exponent t (sym c.magnitude.ensures.value ∙ c.odd_part-odd.ensures.product ∙ ap (λ x. x * 2 ^ t) c.if-odd-ne1.false) (below_zero a.num) c.if-base-exponent-ge62.true

pub returns : goal.returns
returns c =
    let a = c.args.base.now in let t = c.odd_part-odd.result.1 in
    inverse_is a c.args.exponent t (sym c.magnitude.ensures.value ∙ c.odd_part-odd.ensures.product ∙ ap (λ x. x * 2 ^ t) c.if-odd-ne1.false) c.is_power_negative.result c.fraction.result
    (c.is_power_negative.ensures ∙ ap (λ b. odd_times b c.args.exponent) c.is_negative.ensures)
    (subst (λ x. Exactly (signed c.is_power_negative.result x) (t * c.args.exponent) c.fraction.result) c.two_to.ensures c.fraction.ensures)
