use Rattle.std.proofs.Common.{sym, ◌∙◌, ap, Vec, Global}
use Rattle.qasm_parse.specs.declared.program.Statement.{Statement}
use Rattle.qasm_parse.specs.declared.whence.Whence.TheVariants.{Text as TextWhence}
use Rattle.qasm_parse.specs.Sorts.{is_version}
use Rattle.qasm_parse.specs.Statements.{IsProgram, IsText, no_word, no_version, no_sign, text}
use Rattle.qasm_parse.proofs.Passing.{listing_weaker}
use Rattle.qasm_parse.proofs.text.text.Goals as goal

pub returns-in_default : goal.returns-in_default
returns-in_default c = no_word (λ e. c.in_default.not-OpenQasm (c.sort_at.ensures.value ∙ e))

pub returns-then-not-is_version : goal.returns-then-not-is_version
returns-then-not-is_version c = no_version (sym c.in-OpenQasm.ensures.value) (ap is_version (sym c.token_text.ensures.value) ∙ sym c.is_version.ensures ∙ c.if-not-is_version.true)

pub returns-in_default-sort_at : goal.returns-in_default-sort_at
returns-in_default-sort_at c = no_sign (sym c.in-OpenQasm.ensures.value) (ap is_version (sym c.token_text.ensures.value) ∙ sym c.is_version.ensures ∙ c.if-not-is_version.false) (λ e. c.in_default-sort_at.not-Semicolon (c.sort_at-2.ensures.value ∙ e))

pub returns : goal.returns
returns c =
    let bytes = c.args.bytes.now in let tk = c.args.tokens.now in let ts = c.args.sorts.now in
    listing_weaker (λ (v : Vec Statement Global). v.items) (IsProgram bytes tk ts TextWhence 3) (IsText bytes tk ts) c.statements.result (λ g h. text (sym c.in-OpenQasm.ensures.value) (ap is_version (sym c.token_text.ensures.value) ∙ sym c.is_version.ensures ∙ c.if-not-is_version.false) (sym c.in-Semicolon.ensures.value) h) c.statements.ensures
