use Rattle.std.proofs.Common.{◌+◌, ◌∙◌, sym, ap}
use Rattle.std.proofs.lemmas.Result.{err_from_is_err_and}
use Rattle.qasm_parse.specs.declared.sort.Sort.TheVariants.{Semicolon}
use Rattle.qasm_parse.specs.declared.program.Statement.TheVariants.{Include}
use Rattle.qasm_parse.specs.Phrases.{after, elsewhere, span_of}
use Rattle.qasm_parse.specs.Statements.{IsDeclaration, includes, other_text, no_text}
use Rattle.qasm_parse.proofs.Passing.{told_not, got_same}
use Rattle.qasm_parse.proofs.declarations.include.Goals as goal

pub returns-in_err-behind-in-Library-clause-reads : goal.returns-in_err-behind-in-Library-clause-reads
returns-in_err-behind-in-Library-clause-reads c =
    let bytes = c.args.bytes.now in let tk = c.args.tokens.now in let ts = c.args.sorts.now in
    told_not (IsDeclaration bytes tk ts c.args.at) ts Semicolon (c.args.at + 2) c.in_err-behind-in-Library.field-0.0 c.from_residual.result (err_from_is_err_and c.from_residual.result c.from_residual.ensures.1)
    (λ n. includes c.requires.begins (sym c.in-Library.ensures.value) (elsewhere n)) c.in_err-behind-in-Library.ensures

pub returns-in_ok-behind-in-Library-clause-reads : goal.returns-in_ok-behind-in-Library-clause-reads
returns-in_ok-behind-in-Library-clause-reads c =
    let bytes = c.args.bytes.now in let tk = c.args.tokens.now in let ts = c.args.sorts.now in
    includes c.requires.begins (sym c.in-Library.ensures.value) (after c.in_ok-behind-in-Library.ensures.0 (got_same (Include c.span.result) (Include (span_of tk (c.args.at + 1))) c.in_ok-behind-in-Library.behind (c.args.at + 2 + 1) (ap Include c.span.ensures) c.in_ok-behind-in-Library.ensures.1))

pub returns-in-Text-clause-reads : goal.returns-in-Text-clause-reads
returns-in-Text-clause-reads c = other_text c.requires.begins (sym c.in-Text.ensures.value)

pub returns-in_default : goal.returns-in_default
returns-in_default c = let v = c.sort_at.ensures.value in record { reads = no_text c.requires.begins (λ e. c.in_default.not-Library (v ∙ e)) (λ e. c.in_default.not-Text (v ∙ e)); goes_on = tt }
