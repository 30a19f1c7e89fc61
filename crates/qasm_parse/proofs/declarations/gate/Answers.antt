use Rattle.std.proofs.Common.{◌+◌, Vec, Global}
use Rattle.std.proofs.lemmas.Result.{err_from_is_err_and}
use Rattle.qasm_parse.specs.declared.sort.Sort.TheVariants.{Id, OpenBrace}
use Rattle.qasm_parse.specs.declared.program.Span.{Span}
use Rattle.qasm_parse.specs.declared.program.Inner.{Inner}
use Rattle.qasm_parse.specs.Phrases.{IsSpan, Listed, Enclosed, then, missed, elsewhere}
use Rattle.qasm_parse.specs.Statements.{IsDeclaration, IsBody, defines}
use Rattle.qasm_parse.proofs.Passing.{gate_same, told_on, told_not, told_from, after_at}
use Rattle.qasm_parse.proofs.declarations.gate.Goals as goal

pub returns-in_err-name-clause-reads : goal.returns-in_err-name-clause-reads
returns-in_err-name-clause-reads c =
    let bytes = c.args.bytes.now in let tk = c.args.tokens.now in let ts = c.args.sorts.now in
    told_on (IsDeclaration bytes tk ts c.args.at) (IsSpan tk ts Id (c.args.at + 1)) c.in_err-name.field-0.0 c.from_residual.result (err_from_is_err_and c.from_residual.result c.from_residual.ensures.1)
    (λ f h. defines c.requires.begins (missed h)) c.in_err-name.ensures.reads

pub returns-in_err-params-clause-reads : goal.returns-in_err-params-clause-reads
returns-in_err-params-clause-reads c =
    let bytes = c.args.bytes.now in let tk = c.args.tokens.now in let ts = c.args.sorts.now in
    told_on (IsDeclaration bytes tk ts c.args.at) (Enclosed ts (IsSpan tk ts Id) c.in_ok-name.to) c.in_err-params.field-0.0 c.from_residual-in_err-params.result (err_from_is_err_and c.from_residual-in_err-params.result c.from_residual-in_err-params.ensures.1)
    (λ f h. defines c.requires.begins (then c.in_ok-name.ensures.reads (missed h))) (told_from (λ (v : Vec Span Global). v.items) (Enclosed ts (IsSpan tk ts Id) c.in_ok-name.to) c.in_err-params.field-0.0 c.in_err-params.ensures.reads)

pub returns-in_err-list-clause-reads : goal.returns-in_err-list-clause-reads
returns-in_err-list-clause-reads c =
    let bytes = c.args.bytes.now in let tk = c.args.tokens.now in let ts = c.args.sorts.now in
    told_on (IsDeclaration bytes tk ts c.args.at) (Listed ts (IsSpan tk ts Id) c.in_ok-params.next) c.in_err-list.field-0.0 c.from_residual-in_err-list.result (err_from_is_err_and c.from_residual-in_err-list.result c.from_residual-in_err-list.ensures.1)
    (λ f h. defines c.requires.begins (then c.in_ok-name.ensures.reads (then c.in_ok-params.ensures.reads (missed h)))) (told_from (λ (v : Vec Span Global). v.items) (Listed ts (IsSpan tk ts Id) c.in_ok-params.next) c.in_err-list.field-0.0 c.in_err-list.ensures.reads)

pub returns-in_err-open-clause-reads : goal.returns-in_err-open-clause-reads
returns-in_err-open-clause-reads c =
    let bytes = c.args.bytes.now in let tk = c.args.tokens.now in let ts = c.args.sorts.now in
    told_not (IsDeclaration bytes tk ts c.args.at) ts OpenBrace c.in_ok-list.end c.in_err-open.field-0.0 c.from_residual-in_err-open.result (err_from_is_err_and c.from_residual-in_err-open.result c.from_residual-in_err-open.ensures.1)
    (λ n. defines c.requires.begins (then c.in_ok-name.ensures.reads (then c.in_ok-params.ensures.reads (then c.in_ok-list.ensures.reads (elsewhere n))))) c.in_err-open.ensures

pub returns-in_err-inside-clause-reads : goal.returns-in_err-inside-clause-reads
returns-in_err-inside-clause-reads c =
    let bytes = c.args.bytes.now in let tk = c.args.tokens.now in let ts = c.args.sorts.now in
    told_on (IsDeclaration bytes tk ts c.args.at) (IsBody bytes tk ts c.in_ok-open.open) c.in_err-inside.field-0.0 c.from_residual-in_err-inside.result (err_from_is_err_and c.from_residual-in_err-inside.result c.from_residual-in_err-inside.ensures.1)
    (λ f h. defines c.requires.begins (then c.in_ok-name.ensures.reads (then c.in_ok-params.ensures.reads (then c.in_ok-list.ensures.reads (after_at c.in_ok-open.ensures.0 c.in_ok-open.ensures.1 (missed h)))))) (told_from (λ (v : Vec Inner Global). v.items) (IsBody bytes tk ts c.in_ok-open.open) c.in_err-inside.field-0.0 c.in_err-inside.ensures.reads)

pub returns-clause-reads : goal.returns-clause-reads
returns-clause-reads c =
    let bytes = c.args.bytes.now in let tk = c.args.tokens.now in let ts = c.args.sorts.now in
    defines c.requires.begins (then c.in_ok-name.ensures.reads (then c.in_ok-params.ensures.reads (then c.in_ok-list.ensures.reads (after_at c.in_ok-open.ensures.0 c.in_ok-open.ensures.1 (then c.in_ok-inside.ensures.reads (gate_same c.in_ok-name.name c.new.result c.in_ok-params.params.items c.new-2.result c.in_ok-list.list.items c.new-3.result c.in_ok-inside.inside.items c.in_ok-inside.behind c.new.ensures c.new-2.ensures c.new-3.ensures))))))
