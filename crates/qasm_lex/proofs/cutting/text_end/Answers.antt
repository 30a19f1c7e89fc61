use Rattle.std.proofs.Common.{◌≡◌, arith, ◌∙◌}
use Rattle.qasm_lex.specs.Tokens.{byte}
use Rattle.qasm_lex.proofs.Longest.{longest_text, open_text}
use Rattle.qasm_lex.proofs.cutting.text_end.Goals as goal

pub returns-then-byte_at-eq34 : goal.returns-then-byte_at-eq34
returns-then-byte_at-eq34 c =
    let q = c.run_end-to.result in
    let e : byte c.args.bytes.now q ≡ 34 = cc in
    let low = c.run_end-to.ensures.run.ordered in
    let h = c.byte_at.ensures.inside in
    (longest_text c.args.bytes.now c.args.at q c.requires.quote c.run_end-to.ensures e, omega arith, omega arith)

pub returns-else-byte_at-eq34 : goal.returns-else-byte_at-eq34
returns-else-byte_at-eq34 c = open_text c.args.bytes.now c.args.at c.run_end-to.result c.requires.quote c.run_end-to.ensures (λ e. c.if-byte_at-eq34.false (c.byte_at.ensures.value ∙ e))
