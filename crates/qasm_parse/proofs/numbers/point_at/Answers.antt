use Rattle.std.proofs.Common.{◌≡◌, length, arith, sym}
use Rattle.std.proofs.lemmas.List.Sums.{position_or_len_is}
use Rattle.qasm_parse.specs.Numbers.{is_point}
use Rattle.qasm_parse.proofs.Numerals.{point_byte}
use Rattle.qasm_parse.proofs.numbers.point_at.Goals as goal

pub returns-then-mantissa-at-eq46 : goal.returns-then-mantissa-at-eq46
returns-then-mantissa-at-eq46 c = sym (position_or_len_is is_point c.args.mantissa.now c.loop-at.at 0 c.loop-at.invariant.within c.loop-at.invariant.none (λ _. point_byte _ c.if-mantissa-at-eq46.true))

pub returns : goal.returns
returns c =
    let w = c.loop-at.invariant.within in
    let e : c.loop-at.at ≡ length c.args.mantissa.now = omega arith in
    sym (position_or_len_is is_point c.args.mantissa.now (length c.args.mantissa.now) 0 (omega arith) (λ k lt. c.loop-at.invariant.none k (omega arith)) (λ lt. absurd (omega arith)))
