use Rattle.std.proofs.Common.{◌+◌, ◌∙◌, sym, ap, refl, Vec, Global}
use Rattle.std.proofs.lemmas.Result.{err_from_is_err_and}
use Rattle.qasm_parse.specs.declared.sort.Sort.TheVariants.{Id, Semicolon}
use Rattle.qasm_parse.specs.declared.program.Span.{Span}
use Rattle.qasm_parse.specs.declared.program.Inner.TheVariants.{Barrier as BarrierInner}
use Rattle.qasm_parse.specs.declared.phrases.Form.TheVariants.{Bare}
use Rattle.qasm_parse.specs.Phrases.{IsSpan, Listed, then, missed, after, elsewhere}
use Rattle.qasm_parse.proofs.Beginnings.{not_inner}
use Rattle.qasm_parse.specs.Statements.{IsCall, IsInner, applies, separates, not_unitary, is_opaque, wrong}
use Rattle.qasm_parse.proofs.Passing.{told_on, told_not, told_from, got_same}
use Rattle.qasm_parse.proofs.statements.inner.Goals as goal

pub returns-in_err-found-in-Universal-clause-reads : goal.returns-in_err-found-in-Universal-clause-reads
returns-in_err-found-in-Universal-clause-reads c =
    let bytes = c.args.bytes.now in let tk = c.args.tokens.now in let ts = c.args.sorts.now in
    told_on (IsInner bytes tk ts c.args.at) (IsCall bytes tk ts Bare c.args.at) c.in_err-found-in-Universal.field-0.0 c.from_residual.result (err_from_is_err_and c.from_residual.result c.from_residual.ensures.1)
    (λ f h. applies (missed h)) c.in_err-found-in-Universal.ensures.reads

pub returns-in_ok-found-in-Universal-clause-reads : goal.returns-in_ok-found-in-Universal-clause-reads
returns-in_ok-found-in-Universal-clause-reads c =
    let bytes = c.args.bytes.now in let tk = c.args.tokens.now in let ts = c.args.sorts.now in
    applies (then c.in_ok-found-in-Universal.ensures.reads (refl))

pub returns-in_err-list-in-Barrier-clause-reads : goal.returns-in_err-list-in-Barrier-clause-reads
returns-in_err-list-in-Barrier-clause-reads c =
    let bytes = c.args.bytes.now in let tk = c.args.tokens.now in let ts = c.args.sorts.now in
    told_on (IsInner bytes tk ts c.args.at) (Listed ts (IsSpan tk ts Id) (c.args.at + 1)) c.in_err-list-in-Barrier.field-0.0 c.from_residual-in_err-list-in-Barrier.result (err_from_is_err_and c.from_residual-in_err-list-in-Barrier.result c.from_residual-in_err-list-in-Barrier.ensures.1)
    (λ f h. separates (sym c.in-Barrier.ensures.value) (missed h)) (told_from (λ (v : Vec Span Global). v.items) (Listed ts (IsSpan tk ts Id) (c.args.at + 1)) c.in_err-list-in-Barrier.field-0.0 c.in_err-list-in-Barrier.ensures.reads)

pub returns-in_err-behind-in-Barrier-clause-reads : goal.returns-in_err-behind-in-Barrier-clause-reads
returns-in_err-behind-in-Barrier-clause-reads c =
    let bytes = c.args.bytes.now in let tk = c.args.tokens.now in let ts = c.args.sorts.now in
    told_not (IsInner bytes tk ts c.args.at) ts Semicolon c.in_ok-list-in-Barrier.to c.in_err-behind-in-Barrier.field-0.0 c.from_residual-in_err-behind-in-Barrier.result (err_from_is_err_and c.from_residual-in_err-behind-in-Barrier.result c.from_residual-in_err-behind-in-Barrier.ensures.1)
    (λ n. separates (sym c.in-Barrier.ensures.value) (then c.in_ok-list-in-Barrier.ensures.reads (elsewhere n))) c.in_err-behind-in-Barrier.ensures

pub returns-in_ok-behind-in-Barrier-clause-reads : goal.returns-in_ok-behind-in-Barrier-clause-reads
returns-in_ok-behind-in-Barrier-clause-reads c =
    let bytes = c.args.bytes.now in let tk = c.args.tokens.now in let ts = c.args.sorts.now in
    separates (sym c.in-Barrier.ensures.value) (then c.in_ok-list-in-Barrier.ensures.reads (after c.in_ok-behind-in-Barrier.ensures.0 (got_same (BarrierInner c.new.result) (BarrierInner c.in_ok-list-in-Barrier.list.items) c.in_ok-behind-in-Barrier.behind (c.in_ok-list-in-Barrier.to + 1) (ap BarrierInner c.new.ensures) c.in_ok-behind-in-Barrier.ensures.1)))

pub returns-in-Outside-clause-reads : goal.returns-in-Outside-clause-reads
returns-in-Outside-clause-reads c = not_unitary (sym c.in-Outside.ensures.value)

pub returns-in-Opaque-clause-reads : goal.returns-in-Opaque-clause-reads
returns-in-Opaque-clause-reads c = is_opaque (sym c.in-Opaque.ensures.value)

pub returns-in_default : goal.returns-in_default
returns-in_default c =
    let v = c.sort_at.ensures.value in let d = c.in_default in
    record { reads = wrong (not_inner _ (λ e. d.not-Universal (v ∙ e)) (λ e. d.not-Cx (v ∙ e)) (λ e. d.not-Id (v ∙ e)) (λ e. d.not-Barrier (v ∙ e)) (λ e. d.not-Outside (v ∙ e)) (λ e. d.not-Opaque (v ∙ e))); goes_on = tt }
