use Rattle.std.proofs.Common.{◌≡◌, suc, ◌*◌, ◌^◌, ◌≤◌, arith, ap}
use Rattle.std.proofs.Math.Nat.{pow-suc, pow-le-pow_right}
use Rattle.qasm_angle.proofs.powers.small_power.Goals as goal

pub returns-then-power-ge-TOP-clause-large : goal.returns-then-power-ge-TOP-clause-large
returns-then-power-ge-TOP-clause-large c =
    let b = c.args.base in let s = c.loop-step.step in
    let e : b ^ suc s ≡ b ^ s * b = pow-suc b s in
    let f : c.loop-step.power * b ≡ b ^ s * b = ap (λ x. x * b) c.loop-step.invariant.value in
    let g : b ^ suc s ≤ b ^ c.args.exponent = pow-le-pow_right {n = b} c.requires.some {i = suc s} {j = c.args.exponent} (omega arith) in
    omega (arith, e, f, g, c.if-power-ge-TOP.true)
