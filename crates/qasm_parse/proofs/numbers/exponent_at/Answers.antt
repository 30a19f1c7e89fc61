use Rattle.std.proofs.Common.{◌≡◌, true, get_or, length, arith, sym}
use Rattle.std.proofs.lemmas.List.Sums.{position_or_len_is}
use Rattle.qasm_lex.specs.Tokens.{is_exponent_byte}
use Rattle.qasm_parse.proofs.Numerals.{exponent_lower, exponent_upper}
use Rattle.qasm_parse.proofs.numbers.exponent_at.Goals as goal
use Rattle.qasm_parse.proofs.numbers.exponent_at.Goals.{then-text-at-eq101-via-then-text-at-eq101, then-text-at-eq101-via-else-text-at-eq101+then-text-at-eq69}

pub returns-then-text-at-eq101 : goal.returns-then-text-at-eq101
returns-then-text-at-eq101 c =
    let h : is_exponent_byte (get_or c.args.text.now c.loop-at.at 0) ≡ true = elim c.then-text-at-eq101.branch [ then-text-at-eq101-via-then-text-at-eq101 w ↦ exponent_lower _ w.if-text-at-eq101.true | then-text-at-eq101-via-else-text-at-eq101+then-text-at-eq69 w ↦ exponent_upper _ w.if-text-at-eq69.true ] in
    sym (position_or_len_is is_exponent_byte c.args.text.now c.loop-at.at 0 c.loop-at.invariant.within c.loop-at.invariant.none (λ _. h))

pub returns : goal.returns
returns c =
    let w = c.loop-at.invariant.within in
    let e : c.loop-at.at ≡ length c.args.text.now = omega arith in
    sym (position_or_len_is is_exponent_byte c.args.text.now (length c.args.text.now) 0 (omega arith) (λ k lt. c.loop-at.invariant.none k (omega arith)) (λ lt. absurd (omega arith)))
