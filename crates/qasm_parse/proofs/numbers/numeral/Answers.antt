use Rattle.std.proofs.Common.{◌≡◌, ◌+◌, ◌-◌, min, ◌<◌, ◌∙◌, ap, rules, take, drop, get_or, nat_eq, length, filter}
use Rattle.std.proofs.lemmas.Int.{to_z-of_z}
use mir.Val.{SFits}
use mir.Syntax.{w32}
use Rattle.std.specs.List.{position_or_len}
use Rattle.qasm_lex.specs.Tokens.{is_digit_byte}
use Rattle.qasm_parse.specs.Numbers.{mantissa, decimal, is_point}
use Rattle.qasm_parse.proofs.Numerals.{none_numeral, some_numeral, rest_of, part_short, behind_short}
use Rattle.qasm_parse.proofs.numbers.numeral.Goals as goal

pub returns-then-digits-eq0 : goal.returns-then-digits-eq0
returns-then-digits-eq0 c = none_numeral c.args.text.now (take c.exponent_at-split.result c.args.text.now) c.significant-end.result c.decimal-digits.result (ap (λ n. take n c.args.text.now) c.exponent_at-split.ensures) c.significant-end.ensures.within c.significant-end.ensures.rest c.decimal-digits.ensures c.if-digits-eq0.true

pub returns : goal.returns
returns c =
    let text = c.args.text.now in
    let fits : SFits w32 c.held-ten.result = search rules in
    let x = c.behind-exponent.ensures ∙ ap (λ n. drop (n + 1) text) c.exponent_at-split.ensures in
    let ms = take c.exponent_at-split.result text in
    let m : ms ≡ mantissa text = ap (λ n. take n text) c.exponent_at-split.ensures in
    let short : c.count-zeros.result < 4294967296 = part_short text c.exponent_at-split.result c.significant-end.result c.count-zeros.result (length ms - c.significant-end.result) c.requires c.count-zeros.ensures.few in
    let near : c.places-after_point.result < 4294967296 = behind_short text c.exponent_at-split.result (position_or_len is_point ms + 1) c.places-after_point.result c.requires c.places-after_point.ensures in
    some_numeral text ms c.significant-end.result c.decimal-digits.result c.count-zeros.result c.places-after_point.result c.decimal-size.result c.is_negative.result _
    m c.significant-end.ensures.within c.significant-end.ensures.rest c.significant-end.ensures.last c.decimal-digits.ensures c.if-digits-eq0.false
    (c.count-zeros.ensures.value ∙ ap (λ ys. length (filter is_digit_byte ys)) (rest_of ms c.significant-end.result)) short (c.places-after_point.ensures ∙ ap (λ ys. length (drop (position_or_len is_point ys + 1) ys)) m) near
    (c.is_negative.ensures ∙ ap (λ ys. nat_eq (get_or ys 0 0) 45) x) (c.decimal-size.ensures ∙ ap (λ ys. min (decimal ys) 1000000000000000000) x) (to_z-of_z w32 c.held-ten.result fits ∙ c.held-ten.ensures)
