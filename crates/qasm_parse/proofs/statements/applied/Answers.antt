use Rattle.std.proofs.Common.{◌+◌, Vec, Global}
use Rattle.std.proofs.lemmas.Result.{err_from_is_err_and}
use Rattle.qasm_parse.specs.declared.sort.Sort.TheVariants.{Semicolon}
use Rattle.qasm_parse.specs.declared.program.Formula.{Formula}
use Rattle.qasm_parse.specs.declared.program.Arg.{Arg}
use Rattle.qasm_parse.specs.declared.program.Called.TheVariants.{Named}
use Rattle.qasm_parse.specs.Phrases.{IsArg, Listed, Enclosed, then, missed, after, elsewhere, span_of}
use Rattle.qasm_parse.specs.Formulas.{IsFormula}
use Rattle.qasm_parse.specs.Statements.{IsCall, applied}
use Rattle.qasm_parse.proofs.Passing.{told_on, told_not, told_from, call_same}
use Rattle.qasm_parse.proofs.statements.applied.Goals as goal

pub returns-in_err-params-clause-reads : goal.returns-in_err-params-clause-reads
returns-in_err-params-clause-reads c =
    let bytes = c.args.bytes.now in let tk = c.args.tokens.now in let ts = c.args.sorts.now in
    told_on (IsCall bytes tk ts c.args.form c.args.at) (Enclosed ts (IsFormula bytes tk ts) (c.args.at + 1)) c.in_err-params.field-0.0 c.from_residual.result (err_from_is_err_and c.from_residual.result c.from_residual.ensures.1)
    (λ f h. applied c.requires.begins (missed h)) (told_from (λ (v : Vec Formula Global). v.items) (Enclosed ts (IsFormula bytes tk ts) (c.args.at + 1)) c.in_err-params.field-0.0 c.in_err-params.ensures.reads)

pub returns-in_err-list-clause-reads : goal.returns-in_err-list-clause-reads
returns-in_err-list-clause-reads c =
    let bytes = c.args.bytes.now in let tk = c.args.tokens.now in let ts = c.args.sorts.now in
    told_on (IsCall bytes tk ts c.args.form c.args.at) (Listed ts (IsArg tk ts c.args.form) c.in_ok-params.to) c.in_err-list.field-0.0 c.from_residual-in_err-list.result (err_from_is_err_and c.from_residual-in_err-list.result c.from_residual-in_err-list.ensures.1)
    (λ f h. applied c.requires.begins (then c.in_ok-params.ensures.reads (missed h))) (told_from (λ (v : Vec Arg Global). v.items) (Listed ts (IsArg tk ts c.args.form) c.in_ok-params.to) c.in_err-list.field-0.0 c.in_err-list.ensures.reads)

pub returns-in_err-behind-clause-reads : goal.returns-in_err-behind-clause-reads
returns-in_err-behind-clause-reads c =
    let bytes = c.args.bytes.now in let tk = c.args.tokens.now in let ts = c.args.sorts.now in
    told_not (IsCall bytes tk ts c.args.form c.args.at) ts Semicolon c.in_ok-list.end c.in_err-behind.field-0.0 c.from_residual-in_err-behind.result (err_from_is_err_and c.from_residual-in_err-behind.result c.from_residual-in_err-behind.ensures.1)
    (λ n. applied c.requires.begins (then c.in_ok-params.ensures.reads (then c.in_ok-list.ensures.reads (elsewhere n)))) c.in_err-behind.ensures

pub returns-clause-reads : goal.returns-clause-reads
returns-clause-reads c =
    let bytes = c.args.bytes.now in let tk = c.args.tokens.now in let ts = c.args.sorts.now in
    applied c.requires.begins (then c.in_ok-params.ensures.reads (then c.in_ok-list.ensures.reads (after c.in_ok-behind.ensures.0 (call_same Named c.span.result (span_of tk c.args.at) c.new.result c.in_ok-params.params.items c.new-2.result c.in_ok-list.list.items c.in_ok-behind.behind (c.in_ok-list.end + 1) c.span.ensures c.new.ensures c.new-2.ensures c.in_ok-behind.ensures.1))))
