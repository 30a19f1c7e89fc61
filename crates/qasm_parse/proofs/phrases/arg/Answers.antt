use Rattle.std.proofs.Common.{◌+◌, ◌∙◌, sym, ap, subst, refl, Some, None}
use Rattle.std.proofs.lemmas.Result.{err_from_is_err_and}
use Rattle.qasm_parse.specs.declared.sort.Sort.TheVariants.{Id, Whole, CloseBracket}
use Rattle.qasm_parse.specs.declared.program.Arg.{Arg}
use Rattle.qasm_parse.specs.declared.fault.ParseFault.TheVariants.{Syntax}
use Rattle.qasm_parse.specs.Phrases.{IsArg, IsSpan, bare, plain, indexed, then, missed, after, elsewhere, got, miss}
use Rattle.qasm_parse.proofs.Passing.{told_on, told_not, arg_missed}
use Rattle.qasm_parse.proofs.phrases.arg.Goals as goal

pub returns-in_err-name-clause-reads : goal.returns-in_err-name-clause-reads
returns-in_err-name-clause-reads c =
    let tk = c.args.tokens.now in let ts = c.args.sorts.now in
    told_on (IsArg tk ts c.args.form c.args.at) (IsSpan tk ts Id c.args.at) c.in_err-name.field-0.0 c.from_residual.result
    (err_from_is_err_and c.from_residual.result c.from_residual.ensures.1) (λ f h. arg_missed tk ts c.args.form c.args.at f h) c.in_err-name.ensures.reads

pub returns-in_err-index-in-OpenBracket-clause-reads : goal.returns-in_err-index-in-OpenBracket-clause-reads
returns-in_err-index-in-OpenBracket-clause-reads c =
    let tk = c.args.tokens.now in let ts = c.args.sorts.now in
    told_on (IsArg tk ts c.args.form c.args.at) (IsSpan tk ts Whole (c.in_ok-name.to + 1)) c.in_err-index-in-OpenBracket.field-0.0 c.from_residual-in_err-index-in-OpenBracket.result
    (err_from_is_err_and c.from_residual-in_err-index-in-OpenBracket.result c.from_residual-in_err-index-in-OpenBracket.ensures.1)
    (λ f h. subst (λ k. IsArg tk ts k c.args.at (miss f)) (sym c.in-Indexed.is) (indexed c.in_ok-name.ensures.reads (sym c.in-OpenBracket.ensures.value) (missed h))) c.in_err-index-in-OpenBracket.ensures.reads

pub returns-in_err-behind-in-OpenBracket-clause-reads : goal.returns-in_err-behind-in-OpenBracket-clause-reads
returns-in_err-behind-in-OpenBracket-clause-reads c =
    let tk = c.args.tokens.now in let ts = c.args.sorts.now in
    told_not (IsArg tk ts c.args.form c.args.at) ts CloseBracket c.in_ok-index-in-OpenBracket.end c.in_err-behind-in-OpenBracket.field-0.0 c.from_residual-in_err-behind-in-OpenBracket.result
    (err_from_is_err_and c.from_residual-in_err-behind-in-OpenBracket.result c.from_residual-in_err-behind-in-OpenBracket.ensures.1)
    (λ n. subst (λ k. IsArg tk ts k c.args.at (miss (Syntax c.in_ok-index-in-OpenBracket.end))) (sym c.in-Indexed.is) (indexed c.in_ok-name.ensures.reads (sym c.in-OpenBracket.ensures.value) (then c.in_ok-index-in-OpenBracket.ensures.reads (elsewhere n)))) c.in_err-behind-in-OpenBracket.ensures

pub returns-in-Bare-clause-reads : goal.returns-in-Bare-clause-reads
returns-in-Bare-clause-reads c =
    let tk = c.args.tokens.now in let ts = c.args.sorts.now in
    subst (λ k. IsArg tk ts k c.args.at (got (record { name = c.in_ok-name.name; index = None }) c.in_ok-name.to)) (sym c.in-Bare.is) (bare (then c.in_ok-name.ensures.reads refl))

pub returns-in_ok-behind-in-OpenBracket-clause-reads : goal.returns-in_ok-behind-in-OpenBracket-clause-reads
returns-in_ok-behind-in-OpenBracket-clause-reads c =
    let tk = c.args.tokens.now in let ts = c.args.sorts.now in
    let a : Arg = record { name = c.in_ok-name.name; index = Some c.in_ok-index-in-OpenBracket.index } in
    subst (λ k. IsArg tk ts k c.args.at (got a c.in_ok-behind-in-OpenBracket.behind)) (sym c.in-Indexed.is)
    (indexed c.in_ok-name.ensures.reads (sym c.in-OpenBracket.ensures.value) (then c.in_ok-index-in-OpenBracket.ensures.reads (after c.in_ok-behind-in-OpenBracket.ensures.0 (ap (λ j. got a j) c.in_ok-behind-in-OpenBracket.ensures.1))))

pub returns-in_default : goal.returns-in_default
returns-in_default c =
    let tk = c.args.tokens.now in let ts = c.args.sorts.now in
    record {
      reads = subst (λ k. IsArg tk ts k c.args.at (got (record { name = c.in_ok-name.name; index = None }) c.in_ok-name.to)) (sym c.in-Indexed.is) (plain c.in_ok-name.ensures.reads (λ e. c.in_default.not-OpenBracket (c.sort_at.ensures.value ∙ e)));
      goes_on = c.in_ok-name.ensures.goes_on;
    }
