use Rattle.std.proofs.Common.{◌+◌, ◌∙◌, ap, [], ◌∷◌, ◌++◌}
use Rattle.std.proofs.lemmas.Result.{err_from_is_err_and}
use Rattle.qasm_parse.specs.declared.sort.Sort.TheVariants.{Semicolon, Comma}
use Rattle.qasm_parse.specs.declared.program.Called.TheVariants.{Cx}
use Rattle.qasm_parse.specs.Phrases.{IsArg, then, missed, after, elsewhere, span_of}
use Rattle.qasm_parse.specs.Statements.{IsCall, controlled}
use Rattle.qasm_parse.proofs.Passing.{told_on, told_not, after_at, call_same}
use Rattle.qasm_parse.proofs.statements.controlled.Goals as goal

pub returns-in_err-control-clause-reads : goal.returns-in_err-control-clause-reads
returns-in_err-control-clause-reads c =
    let bytes = c.args.bytes.now in let tk = c.args.tokens.now in let ts = c.args.sorts.now in
    told_on (IsCall bytes tk ts c.args.form c.args.at) (IsArg tk ts c.args.form (c.args.at + 1)) c.in_err-control.field-0.0 c.from_residual.result (err_from_is_err_and c.from_residual.result c.from_residual.ensures.1)
    (λ f h. controlled c.requires.begins (missed h)) c.in_err-control.ensures.reads

pub returns-in_err-comma-clause-reads : goal.returns-in_err-comma-clause-reads
returns-in_err-comma-clause-reads c =
    let bytes = c.args.bytes.now in let tk = c.args.tokens.now in let ts = c.args.sorts.now in
    told_not (IsCall bytes tk ts c.args.form c.args.at) ts Comma c.in_ok-control.to c.in_err-comma.field-0.0 c.from_residual-in_err-comma.result (err_from_is_err_and c.from_residual-in_err-comma.result c.from_residual-in_err-comma.ensures.1)
    (λ n. controlled c.requires.begins (then c.in_ok-control.ensures.reads (elsewhere n))) c.in_err-comma.ensures

pub returns-in_err-target-clause-reads : goal.returns-in_err-target-clause-reads
returns-in_err-target-clause-reads c =
    let bytes = c.args.bytes.now in let tk = c.args.tokens.now in let ts = c.args.sorts.now in
    told_on (IsCall bytes tk ts c.args.form c.args.at) (IsArg tk ts c.args.form c.in_ok-comma.comma) c.in_err-target.field-0.0 c.from_residual-in_err-target.result (err_from_is_err_and c.from_residual-in_err-target.result c.from_residual-in_err-target.ensures.1)
    (λ f h. controlled c.requires.begins (then c.in_ok-control.ensures.reads (after_at c.in_ok-comma.ensures.0 c.in_ok-comma.ensures.1 (missed h)))) c.in_err-target.ensures.reads

pub returns-in_err-behind-clause-reads : goal.returns-in_err-behind-clause-reads
returns-in_err-behind-clause-reads c =
    let bytes = c.args.bytes.now in let tk = c.args.tokens.now in let ts = c.args.sorts.now in
    told_not (IsCall bytes tk ts c.args.form c.args.at) ts Semicolon c.in_ok-target.end c.in_err-behind.field-0.0 c.from_residual-in_err-behind.result (err_from_is_err_and c.from_residual-in_err-behind.result c.from_residual-in_err-behind.ensures.1)
    (λ n. controlled c.requires.begins (then c.in_ok-control.ensures.reads (after_at c.in_ok-comma.ensures.0 c.in_ok-comma.ensures.1 (then c.in_ok-target.ensures.reads (elsewhere n))))) c.in_err-behind.ensures

pub returns-clause-reads : goal.returns-clause-reads
returns-clause-reads c =
    let bytes = c.args.bytes.now in let tk = c.args.tokens.now in let ts = c.args.sorts.now in
    controlled c.requires.begins (then c.in_ok-control.ensures.reads (after_at c.in_ok-comma.ensures.0 c.in_ok-comma.ensures.1 (then c.in_ok-target.ensures.reads (after c.in_ok-behind.ensures.0 (call_same Cx c.span.result (span_of tk c.args.at) c.new.result [] c.new-2.result (c.in_ok-control.control ∷ (c.in_ok-target.target ∷ [])) c.in_ok-behind.behind (c.in_ok-target.end + 1) c.span.ensures (c.new.ensures ∙ c.new-params.ensures.items) (c.new-2.ensures ∙ c.in_ok-push-2.ensures.items ∙ ap (λ xs. xs ++ (c.in_ok-target.target ∷ [])) (c.in_ok-push.ensures.items ∙ ap (λ xs. xs ++ (c.in_ok-control.control ∷ [])) c.new-list.ensures.items)) c.in_ok-behind.ensures.1)))))
