use Rattle.std.proofs.Common.{◌+◌, ap, Vec, Global}
use Rattle.std.proofs.lemmas.Result.{err_from_is_err_and}
use Rattle.qasm_parse.specs.declared.sort.Sort.TheVariants.{Semicolon}
use Rattle.qasm_parse.specs.declared.program.Arg.{Arg}
use Rattle.qasm_parse.specs.declared.program.Statement.TheVariants.{Barrier}
use Rattle.qasm_parse.specs.declared.phrases.Form.TheVariants.{Indexed}
use Rattle.qasm_parse.specs.Phrases.{IsArg, Listed, then, missed, after, elsewhere}
use Rattle.qasm_parse.specs.Statements.{IsStatement, barrier}
use Rattle.qasm_parse.proofs.Passing.{told_on, told_not, told_from, got_same}
use Rattle.qasm_parse.proofs.text.barrier.Goals as goal

pub returns-in_err-list-clause-reads : goal.returns-in_err-list-clause-reads
returns-in_err-list-clause-reads c =
    let bytes = c.args.bytes.now in let tk = c.args.tokens.now in let ts = c.args.sorts.now in
    told_on (IsStatement bytes tk ts c.args.whence c.args.at) (Listed ts (IsArg tk ts Indexed) (c.args.at + 1)) c.in_err-list.field-0.0 c.from_residual.result (err_from_is_err_and c.from_residual.result c.from_residual.ensures.1)
    (λ f h. barrier c.requires.begins (missed h)) (told_from (λ (v : Vec Arg Global). v.items) (Listed ts (IsArg tk ts Indexed) (c.args.at + 1)) c.in_err-list.field-0.0 c.in_err-list.ensures.reads)

pub returns-in_err-behind-clause-reads : goal.returns-in_err-behind-clause-reads
returns-in_err-behind-clause-reads c =
    let bytes = c.args.bytes.now in let tk = c.args.tokens.now in let ts = c.args.sorts.now in
    told_not (IsStatement bytes tk ts c.args.whence c.args.at) ts Semicolon c.in_ok-list.to c.in_err-behind.field-0.0 c.from_residual-in_err-behind.result (err_from_is_err_and c.from_residual-in_err-behind.result c.from_residual-in_err-behind.ensures.1)
    (λ n. barrier c.requires.begins (then c.in_ok-list.ensures.reads (elsewhere n))) c.in_err-behind.ensures

pub returns-clause-reads : goal.returns-clause-reads
returns-clause-reads c =
    let bytes = c.args.bytes.now in let tk = c.args.tokens.now in let ts = c.args.sorts.now in
    barrier c.requires.begins (then c.in_ok-list.ensures.reads (after c.in_ok-behind.ensures.0 (got_same (Barrier c.new.result) (Barrier c.in_ok-list.list.items) c.in_ok-behind.behind (c.in_ok-list.to + 1) (ap Barrier c.new.ensures) c.in_ok-behind.ensures.1)))
