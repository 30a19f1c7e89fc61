use Rattle.std.proofs.Common.{◌≡◌, ◌+◌, true, false}
use Rattle.qasm_lex.specs.Tokens.{byte, is_digit_byte, is_exponent_byte, is_plus_minus_byte}
use Rattle.qasm_lex.proofs.Longest.{exponent_short, exponent_plain, exponent_signed, front_run, not_sign_digit}
use Rattle.qasm_lex.proofs.cutting.exponent_end.Goals as goal

pub returns-then-is_digit : goal.returns-then-is_digit
returns-then-is_digit c =
    let bytes = c.args.bytes.now in let m = c.args.at in
    let e : is_exponent_byte (byte bytes m) ≡ true = cc in
    let g : is_plus_minus_byte (byte bytes (m + 1)) ≡ true = cc in
    let d : is_digit_byte (byte bytes (m + 2)) ≡ true = cc in
    exponent_signed bytes m c.run_end.result e g (front_run bytes (m + 2) c.run_end.result c.run_end.ensures d) c.run_end.ensures

pub returns-then-is_plus_minus : goal.returns-then-is_plus_minus
returns-then-is_plus_minus c =
    let bytes = c.args.bytes.now in let m = c.args.at in
    let g : is_plus_minus_byte (byte bytes (m + 1)) ≡ true = cc in
    let d : is_digit_byte (byte bytes (m + 2)) ≡ false = cc in
    exponent_short bytes m c.requires (λ _ h. cc) (λ h. not_sign_digit (byte bytes (m + 1)) g h)

pub returns-then-is_digit-2 : goal.returns-then-is_digit-2
returns-then-is_digit-2 c =
    let bytes = c.args.bytes.now in let m = c.args.at in
    let e : is_exponent_byte (byte bytes m) ≡ true = cc in
    let d : is_digit_byte (byte bytes (m + 1)) ≡ true = cc in
    exponent_plain bytes m c.run_end-then-is_digit-2.result e d (front_run bytes (m + 1) c.run_end-then-is_digit-2.result c.run_end-then-is_digit-2.ensures d) c.run_end-then-is_digit-2.ensures

pub returns-else-is_digit-2 : goal.returns-else-is_digit-2
returns-else-is_digit-2 c =
    let bytes = c.args.bytes.now in let m = c.args.at in
    let g : is_plus_minus_byte (byte bytes (m + 1)) ≡ false = cc in
    let d : is_digit_byte (byte bytes (m + 1)) ≡ false = cc in
    exponent_short bytes m c.requires (λ h _. cc) (λ h. cc)
