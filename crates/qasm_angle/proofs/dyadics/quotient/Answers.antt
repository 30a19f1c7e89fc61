use Rattle.std.proofs.Common.{◌≡◌, ◌+◌, ◌*◌, ◌/◌, ◌%◌, arith, subst, sym, ap, ◌∙◌}
use Rattle.std.specs.Prelude.{ℤ}
use Rattle.std.proofs.lemmas.Nat.{div-add-mod'}
use Rattle.qasm_angle.specs.Fractions.{Exactly}
use Rattle.qasm_angle.proofs.Signs.{signs_of}
use Rattle.qasm_angle.proofs.Ratios.{no_ratio, ratio_is}
use Rattle.qasm_angle.proofs.dyadics.quotient.Goals as goal

pub returns-then-top-odd-ne0 : goal.returns-then-top-odd-ne0
returns-then-top-odd-ne0 c =
    let o = c.odd_part-odd.result.0 in
    no_ratio c.args.a.now.num c.args.b.now.num c.args.a.now.shift c.args.b.now.shift o c.odd_part-odd.result.1 c.odd_part-odd.ensures.odd (sym c.magnitude.ensures.value ∙ c.odd_part-odd.ensures.product)
    (λ e. c.if-top-odd-ne0.true (ap (λ x. x % o) c.magnitude-top.ensures.value ∙ e))

pub returns : goal.returns
returns c =
    let a = c.args.a.now in let b = c.args.b.now in
    let o = c.odd_part-odd.result.0 in let t = c.odd_part-odd.result.1 in let top = c.magnitude-top.result in
    let e : top / o * o + top % o ≡ top = div-add-mod' top o in
    ratio_is a.num b.num a.shift b.shift o t (top / o) (let h = c.odd_part-odd.ensures.odd in omega arith) (sym c.magnitude-top.ensures.value ∙ sym e ∙ omega (arith, c.if-top-odd-ne0.false)) (sym c.magnitude.ensures.value ∙ c.odd_part-odd.ensures.product) c.fraction.result
    (subst (λ (z : ℤ). Exactly z (a.shift + t) c.fraction.result) (signs_of _ _ _ _ _ _ c.is_negative.ensures c.is_negative-2.ensures (ap (λ x. top / o * x) c.two_to.ensures)) c.fraction.ensures)
