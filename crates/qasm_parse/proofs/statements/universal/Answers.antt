use Rattle.std.proofs.Common.{◌+◌, ◌∙◌, ap, Vec, Global, [], ◌∷◌, ◌++◌}
use Rattle.std.proofs.lemmas.Result.{err_from_is_err_and}
use Rattle.qasm_parse.specs.declared.sort.Sort.TheVariants.{Open, Close, Semicolon}
use Rattle.qasm_parse.specs.declared.program.Formula.{Formula}
use Rattle.qasm_parse.specs.declared.program.Called.TheVariants.{U}
use Rattle.qasm_parse.specs.Phrases.{IsArg, Listed, then, missed, after, elsewhere, span_of}
use Rattle.qasm_parse.specs.Formulas.{IsFormula}
use Rattle.qasm_parse.specs.Statements.{IsCall, universal}
use Rattle.qasm_parse.proofs.Passing.{told_on, told_not, told_from, after_at, call_same}
use Rattle.qasm_parse.proofs.statements.universal.Goals as goal

pub returns-in_err-open-clause-reads : goal.returns-in_err-open-clause-reads
returns-in_err-open-clause-reads c =
    let bytes = c.args.bytes.now in let tk = c.args.tokens.now in let ts = c.args.sorts.now in
    told_not (IsCall bytes tk ts c.args.form c.args.at) ts Open (c.args.at + 1) c.in_err-open.field-0.0 c.from_residual.result (err_from_is_err_and c.from_residual.result c.from_residual.ensures.1)
    (λ n. universal c.requires.begins (elsewhere n)) c.in_err-open.ensures

pub returns-in_err-params-clause-reads : goal.returns-in_err-params-clause-reads
returns-in_err-params-clause-reads c =
    let bytes = c.args.bytes.now in let tk = c.args.tokens.now in let ts = c.args.sorts.now in
    told_on (IsCall bytes tk ts c.args.form c.args.at) (Listed ts (IsFormula bytes tk ts) c.in_ok-open.open) c.in_err-params.field-0.0 c.from_residual-in_err-params.result (err_from_is_err_and c.from_residual-in_err-params.result c.from_residual-in_err-params.ensures.1)
    (λ f h. universal c.requires.begins (after_at c.in_ok-open.ensures.0 c.in_ok-open.ensures.1 (missed h))) (told_from (λ (v : Vec Formula Global). v.items) (Listed ts (IsFormula bytes tk ts) c.in_ok-open.open) c.in_err-params.field-0.0 c.in_err-params.ensures.reads)

pub returns-in_err-close-clause-reads : goal.returns-in_err-close-clause-reads
returns-in_err-close-clause-reads c =
    let bytes = c.args.bytes.now in let tk = c.args.tokens.now in let ts = c.args.sorts.now in
    told_not (IsCall bytes tk ts c.args.form c.args.at) ts Close c.in_ok-params.to c.in_err-close.field-0.0 c.from_residual-in_err-close.result (err_from_is_err_and c.from_residual-in_err-close.result c.from_residual-in_err-close.ensures.1)
    (λ n. universal c.requires.begins (after_at c.in_ok-open.ensures.0 c.in_ok-open.ensures.1 (then c.in_ok-params.ensures.reads (elsewhere n)))) c.in_err-close.ensures

pub returns-in_err-one-clause-reads : goal.returns-in_err-one-clause-reads
returns-in_err-one-clause-reads c =
    let bytes = c.args.bytes.now in let tk = c.args.tokens.now in let ts = c.args.sorts.now in
    told_on (IsCall bytes tk ts c.args.form c.args.at) (IsArg tk ts c.args.form c.in_ok-close.close) c.in_err-one.field-0.0 c.from_residual-in_err-one.result (err_from_is_err_and c.from_residual-in_err-one.result c.from_residual-in_err-one.ensures.1)
    (λ f h. universal c.requires.begins (after_at c.in_ok-open.ensures.0 c.in_ok-open.ensures.1 (then c.in_ok-params.ensures.reads (after_at c.in_ok-close.ensures.0 c.in_ok-close.ensures.1 (missed h))))) c.in_err-one.ensures.reads

pub returns-in_err-behind-clause-reads : goal.returns-in_err-behind-clause-reads
returns-in_err-behind-clause-reads c =
    let bytes = c.args.bytes.now in let tk = c.args.tokens.now in let ts = c.args.sorts.now in
    told_not (IsCall bytes tk ts c.args.form c.args.at) ts Semicolon c.in_ok-one.end c.in_err-behind.field-0.0 c.from_residual-in_err-behind.result (err_from_is_err_and c.from_residual-in_err-behind.result c.from_residual-in_err-behind.ensures.1)
    (λ n. universal c.requires.begins (after_at c.in_ok-open.ensures.0 c.in_ok-open.ensures.1 (then c.in_ok-params.ensures.reads (after_at c.in_ok-close.ensures.0 c.in_ok-close.ensures.1 (then c.in_ok-one.ensures.reads (elsewhere n)))))) c.in_err-behind.ensures

pub returns-clause-reads : goal.returns-clause-reads
returns-clause-reads c =
    let bytes = c.args.bytes.now in let tk = c.args.tokens.now in let ts = c.args.sorts.now in
    universal c.requires.begins (after_at c.in_ok-open.ensures.0 c.in_ok-open.ensures.1 (then c.in_ok-params.ensures.reads (after_at c.in_ok-close.ensures.0 c.in_ok-close.ensures.1 (then c.in_ok-one.ensures.reads (after c.in_ok-behind.ensures.0 (call_same U c.span.result (span_of tk c.args.at) c.new.result c.in_ok-params.params.items c.new-2.result (c.in_ok-one.one ∷ []) c.in_ok-behind.behind (c.in_ok-one.end + 1) c.span.ensures c.new.ensures (c.new-2.ensures ∙ c.in_ok-push.ensures.items ∙ ap (λ xs. xs ++ (c.in_ok-one.one ∷ [])) c.new-list.ensures.items) c.in_ok-behind.ensures.1))))))
