use Rattle.std.proofs.Common.{◌<◌, ◌∙◌, sym, arith, length, Vec, Global}
use Rattle.std.proofs.lemmas.Result.{err_from_is_err_and}
use Rattle.qasm_parse.specs.declared.program.Span.{Span}
use Rattle.qasm_parse.specs.declared.sort.Sort.TheVariants.{Id}
use Rattle.qasm_parse.specs.Phrases.{Listed, IsSpan, miss, missing}
use Rattle.qasm_parse.proofs.Passing.{one_more, the_last, listing_on}
use Rattle.qasm_parse.proofs.phrases.names.Goals as goal

pub returns-in_err-one-clause-reads : goal.returns-in_err-one-clause-reads
returns-in_err-one-clause-reads c =
    let ts = c.args.sorts.now in
    listing_on (λ (v : Vec Span Global). v.items) (Listed ts (IsSpan c.args.tokens.now ts Id) c.args.at) (IsSpan c.args.tokens.now ts Id c.loop-out.from) c.in_err-one.field-0.0 c.from_residual.result
    (err_from_is_err_and c.from_residual.result c.from_residual.ensures.1)
    (λ f h. c.loop-out.invariant.rest (miss f) (missing h)) c.in_err-one.ensures.reads

pub loop-out-preserved : goal.loop-out-preserved
loop-out-preserved c =
    let ts = c.args.sorts.now in
    let on = c.in_ok-one.ensures.goes_on in
    let low = c.loop-out.invariant.ordered in
    let h : c.in_ok-one.to < length ts = c.in-Comma.ensures.inside (λ e. cc) in
    record {
      within = omega arith;
      ordered = omega arith;
      rest = one_more ts (IsSpan c.args.tokens.now ts Id) c.args.at c.loop-out.from c.in_ok-one.to c.loop-out.out.items c.push.new.self.items c.in_ok-one.one c.loop-out.invariant.rest c.in_ok-one.ensures.reads (sym c.in-Comma.ensures.value) c.in_ok-push.ensures.items;
    }

pub returns-in_default : goal.returns-in_default
returns-in_default c =
    let ts = c.args.sorts.now in
    let on = c.in_ok-one.ensures.goes_on in
    let low = c.loop-out.invariant.ordered in
    record {
      reads = the_last ts (IsSpan c.args.tokens.now ts Id) c.args.at c.loop-out.from c.in_ok-one.to c.loop-out.out.items c.push.new.self.items c.in_ok-one.one c.loop-out.invariant.rest c.in_ok-one.ensures.reads (λ e. c.in_default.not-Comma (c.sort_at.ensures.value ∙ e)) c.in_ok-push.ensures.items;
      goes_on = (omega arith, on.1);
    }
