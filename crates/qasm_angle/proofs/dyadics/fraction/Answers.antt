use Rattle.std.proofs.Common.{◌≡◌, ◌^◌, arith, inl, inr, sym, ap}
use Rattle.std.proofs.Common.{◌∙◌, true, false}
use Rattle.std.specs.Prelude.{pos, neg_ℤ, ◌-ℤ◌, ◌*ℤ◌}
use Rattle.std.proofs.lemmas.Int.{ints}
use mir.Val.{to_z, of_z}
use mir.Syntax.{w64}
use Rattle.qasm_angle.specs.Fractions.{signed}
use Rattle.qasm_angle.proofs.Lowest.{beyond, reduced_stands}
use Rattle.qasm_angle.proofs.dyadics.fraction.Goals as goal
use Rattle.qasm_angle.proofs.dyadics.fraction.Goals.{then-m-ge-TOP-via-then-m-ge-TOP, then-m-ge-TOP-via-else-m-ge-TOP+then-s-gt62}

pub returns-then-m-ge-TOP : goal.returns-then-m-ge-TOP
returns-then-m-ge-TOP c =
    beyond c.args.negative c.args.top c.args.shift c.reduce-m.result.0 c.reduce-m.result.1 c.reduce-m.ensures
    (elim c.then-m-ge-TOP.branch [ then-m-ge-TOP-via-then-m-ge-TOP w ↦ inl (omega arith) | then-m-ge-TOP-via-else-m-ge-TOP+then-s-gt62 w ↦ inr (omega arith) ])

pub returns-then-negative : goal.returns-then-negative
returns-then-negative c =
    let m = c.reduce-m.result.0 in let s = c.reduce-m.result.1 in
    let e : to_z w64 (of_z w64 (pos 0 -ℤ to_z w64 m)) ≡ neg_ℤ (pos m) = omega (arith, ints, c.if-m-ge-TOP.false) in
    ap (λ z. z *ℤ pos (2 ^ c.args.shift)) e ∙ reduced_stands true c.args.top c.args.shift m s c.reduce-m.ensures ∙ ap (λ b. signed b c.args.top *ℤ pos (2 ^ s)) (sym c.if-negative.true)

pub returns-else-negative : goal.returns-else-negative
returns-else-negative c =
    let m = c.reduce-m.result.0 in let s = c.reduce-m.result.1 in
    let e : to_z w64 m ≡ pos m = omega (arith, ints, c.if-m-ge-TOP.false) in
    ap (λ z. z *ℤ pos (2 ^ c.args.shift)) e ∙ reduced_stands false c.args.top c.args.shift m s c.reduce-m.ensures ∙ ap (λ b. signed b c.args.top *ℤ pos (2 ^ s)) (sym c.if-negative.false)
