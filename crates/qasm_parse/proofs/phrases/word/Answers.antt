use Rattle.std.proofs.lemmas.Result.{err_from_is_err_and}
use Rattle.qasm_parse.specs.Phrases.{IsSpan, other}
use Rattle.qasm_parse.proofs.Passing.{told_not, span_there}
use Rattle.qasm_parse.proofs.phrases.word.Goals as goal

pub returns-in_err-to-clause-reads : goal.returns-in_err-to-clause-reads
returns-in_err-to-clause-reads c =
    told_not (IsSpan c.args.tokens.now c.args.sorts.now c.args.sort c.args.at) c.args.sorts.now c.args.sort c.args.at c.in_err-to.field-0.0 c.from_residual.result
    (err_from_is_err_and c.from_residual.result c.from_residual.ensures.1) (λ n. other n) c.in_err-to.ensures

pub returns-clause-reads : goal.returns-clause-reads
returns-clause-reads c = span_there c.args.tokens.now c.args.sorts.now c.args.sort c.args.at c.span.result c.in_ok-to.to c.in_ok-to.ensures.0 c.span.ensures c.in_ok-to.ensures.1
