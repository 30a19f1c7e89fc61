use Rattle.std.proofs.Common.{◌≡◌, ℕ, ◌+◌, arith, subst, ap, ◌∙◌, rules}
use Rattle.std.specs.Prelude.{ℤ, pos, ◌+ℤ◌, ◌*ℤ◌}
use Rattle.std.proofs.lemmas.Int.{ints, to_z-of_z}
use mir.Val.{to_z, of_z, SFits}
use mir.Syntax.{w128, w64}
use Rattle.qasm_angle.specs.Fractions.{Exactly}
use Rattle.qasm_angle.proofs.Signs.{signed_total}
use Rattle.qasm_angle.proofs.dyadics.sum.Goals as goal

same_sum : (a b x y : ℤ) (p q : ℕ) → SFits w64 a → SFits w64 b → x ≡ to_z w64 (of_z w64 a) *ℤ pos p → y ≡ to_z w64 (of_z w64 b) *ℤ pos q → x +ℤ y ≡ a *ℤ pos p +ℤ b *ℤ pos q
same_sum a b x y p q f g e d =
    ap (λ z. z +ℤ y) (e ∙ ap (λ z. z *ℤ pos p) (to_z-of_z w64 a f))
    ∙ ap (λ z. a *ℤ pos p +ℤ z) (d ∙ ap (λ z. z *ℤ pos q) (to_z-of_z w64 b g))

pub returns : goal.returns
returns c =
    let x = c.scaled.result in let y = c.scaled-2.result in
    let p = c.scaled.ensures.bound in let q = c.scaled-2.ensures.bound in
    let f : SFits w64 c.args.a.now.num = search rules in
    let g : SFits w64 c.args.b.now.num = search rules in
    let t : ℤ = to_z w128 (of_z w128 (to_z w128 (of_z w128 x) +ℤ to_z w128 (of_z w128 y))) in
    let e : t ≡ x +ℤ y = omega (arith, ints) in
    subst (λ (z : ℤ). Exactly z (c.args.a.now.shift + c.args.b.now.shift) c.fraction.result)
    (signed_total t _ c.unsigned_abs.result c.unsigned_abs.ensures.value (e ∙ same_sum c.args.a.now.num c.args.b.now.num x y _ _ f g c.scaled.ensures.value c.scaled-2.ensures.value)) c.fraction.ensures
