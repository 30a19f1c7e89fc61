use Rattle.std.proofs.Common.{◌+◌}
use Rattle.std.proofs.lemmas.Result.{err_from_is_err_and}
use Rattle.qasm_parse.specs.declared.sort.Sort.TheVariants.{Id, Whole, Semicolon, OpenBracket, CloseBracket}
use Rattle.qasm_parse.specs.Phrases.{IsSpan, then, missed, after, elsewhere}
use Rattle.qasm_parse.specs.Statements.{IsRegister, made}
use Rattle.qasm_parse.proofs.Passing.{told_on, told_not, after_at, got_same}
use Rattle.qasm_parse.proofs.declarations.register.Goals as goal

pub returns-in_err-name-clause-reads : goal.returns-in_err-name-clause-reads
returns-in_err-name-clause-reads c =
    let tk = c.args.tokens.now in let ts = c.args.sorts.now in
    told_on (IsRegister tk ts (made c.args.bits) c.args.at) (IsSpan tk ts Id c.args.at) c.in_err-name.field-0.0 c.from_residual.result (err_from_is_err_and c.from_residual.result c.from_residual.ensures.1)
    (λ f h. (missed h)) c.in_err-name.ensures.reads

pub returns-in_err-open-clause-reads : goal.returns-in_err-open-clause-reads
returns-in_err-open-clause-reads c =
    let tk = c.args.tokens.now in let ts = c.args.sorts.now in
    told_not (IsRegister tk ts (made c.args.bits) c.args.at) ts OpenBracket c.in_ok-name.to c.in_err-open.field-0.0 c.from_residual-in_err-open.result (err_from_is_err_and c.from_residual-in_err-open.result c.from_residual-in_err-open.ensures.1)
    (λ n. (then c.in_ok-name.ensures.reads (elsewhere n))) c.in_err-open.ensures

pub returns-in_err-size-clause-reads : goal.returns-in_err-size-clause-reads
returns-in_err-size-clause-reads c =
    let tk = c.args.tokens.now in let ts = c.args.sorts.now in
    told_on (IsRegister tk ts (made c.args.bits) c.args.at) (IsSpan tk ts Whole c.in_ok-open.open) c.in_err-size.field-0.0 c.from_residual-in_err-size.result (err_from_is_err_and c.from_residual-in_err-size.result c.from_residual-in_err-size.ensures.1)
    (λ f h. (then c.in_ok-name.ensures.reads (after_at c.in_ok-open.ensures.0 c.in_ok-open.ensures.1 (missed h)))) c.in_err-size.ensures.reads

pub returns-in_err-close-clause-reads : goal.returns-in_err-close-clause-reads
returns-in_err-close-clause-reads c =
    let tk = c.args.tokens.now in let ts = c.args.sorts.now in
    told_not (IsRegister tk ts (made c.args.bits) c.args.at) ts CloseBracket c.in_ok-size.next c.in_err-close.field-0.0 c.from_residual-in_err-close.result (err_from_is_err_and c.from_residual-in_err-close.result c.from_residual-in_err-close.ensures.1)
    (λ n. (then c.in_ok-name.ensures.reads (after_at c.in_ok-open.ensures.0 c.in_ok-open.ensures.1 (then c.in_ok-size.ensures.reads (elsewhere n))))) c.in_err-close.ensures

pub returns-in_err-behind-clause-reads : goal.returns-in_err-behind-clause-reads
returns-in_err-behind-clause-reads c =
    let tk = c.args.tokens.now in let ts = c.args.sorts.now in
    told_not (IsRegister tk ts (made c.args.bits) c.args.at) ts Semicolon c.in_ok-close.close c.in_err-behind.field-0.0 c.from_residual-in_err-behind.result (err_from_is_err_and c.from_residual-in_err-behind.result c.from_residual-in_err-behind.ensures.1)
    (λ n. (then c.in_ok-name.ensures.reads (after_at c.in_ok-open.ensures.0 c.in_ok-open.ensures.1 (then c.in_ok-size.ensures.reads (after_at c.in_ok-close.ensures.0 c.in_ok-close.ensures.1 (elsewhere n)))))) c.in_err-behind.ensures

pub returns-clause-reads : goal.returns-clause-reads
returns-clause-reads c =
    let tk = c.args.tokens.now in let ts = c.args.sorts.now in
    (then c.in_ok-name.ensures.reads (after_at c.in_ok-open.ensures.0 c.in_ok-open.ensures.1 (then c.in_ok-size.ensures.reads (after_at c.in_ok-close.ensures.0 c.in_ok-close.ensures.1 (after c.in_ok-behind.ensures.0 (got_same c.declared.result (made c.args.bits c.in_ok-name.name c.in_ok-size.size) c.in_ok-behind.behind (c.in_ok-close.close + 1) c.declared.ensures c.in_ok-behind.ensures.1))))))
