use Rattle.std.proofs.Common.{◌≡◌, true}
use Rattle.qasm_lex.specs.Tokens.{byte, is_letter_byte}
use Rattle.qasm_lex.proofs.Longest.{longest_word}
use Rattle.qasm_lex.proofs.cutting.token_at.Goals as goal

pub returns-then-is_letter-clause-stands : goal.returns-then-is_letter-clause-stands
returns-then-is_letter-clause-stands c =
    let h : is_letter_byte (byte c.args.bytes.now c.args.at) ≡ true = cc in
    (c.requires.gap, longest_word c.args.bytes.now c.args.at c.run_end.result h c.run_end.ensures, tt)
