use Rattle.std.proofs.Common.{◌*◌, arith, subst, sym, ap, ◌∙◌, inl, inr}
use Rattle.qasm_angle.specs.Fractions.{Exactly, signed}
use Rattle.qasm_angle.proofs.Raising.{too_large, power_is, raised_zero, odd_times}
use Rattle.qasm_angle.proofs.powers.raised.Goals as goal

pub returns-then-top-eq0 : goal.returns-then-top-eq0
returns-then-top-eq0 c = raised_zero c.args.base.now c.args.exponent c.magnitude-top.result c.zero_raised.result c.magnitude-top.ensures.value c.if-top-eq0.true c.zero_raised.ensures

pub returns-then-twos-exponent-ge62 : goal.returns-then-twos-exponent-ge62
returns-then-twos-exponent-ge62 c = too_large c.args.base.now c.args.exponent c.odd_part-odd.result.0 c.odd_part-odd.result.1 (sym c.magnitude-top.ensures.value ∙ c.odd_part-odd.ensures.product) (let h = c.odd_part-odd.ensures.odd in omega arith) (inr c.if-twos-exponent-ge62.true)

pub returns-in-Some : goal.returns-in-Some
returns-in-Some c =
    let a = c.args.base.now in let o = c.odd_part-odd.result.0 in let t = c.odd_part-odd.result.1 in let n = c.args.exponent in
    power_is a.num n o t c.in-Some.power (a.shift * n) c.is_power_negative.result c.fraction.result
    (c.is_power_negative.ensures ∙ ap (λ b. odd_times b n) c.is_negative.ensures) (sym c.magnitude-top.ensures.value ∙ c.odd_part-odd.ensures.product) c.in-Some.ensures.value.0
    (subst (λ x. Exactly (signed c.is_power_negative.result (c.in-Some.power * x)) (a.shift * n) c.fraction.result) c.two_to.ensures c.fraction.ensures)

pub returns-in-None : goal.returns-in-None
returns-in-None c = too_large c.args.base.now c.args.exponent c.odd_part-odd.result.0 c.odd_part-odd.result.1 (sym c.magnitude-top.ensures.value ∙ c.odd_part-odd.ensures.product) (let h = c.odd_part-odd.ensures.odd in omega arith) (inl c.in-None.ensures.large)
