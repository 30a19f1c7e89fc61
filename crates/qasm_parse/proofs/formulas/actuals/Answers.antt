use Rattle.std.proofs.Common.{◌+◌, ◌∙◌, sym, ap, subst, arith, Vec, Global, List}
use Rattle.std.proofs.lemmas.Result.{err_from_is_err_and}
use Rattle.qasm_parse.specs.declared.sort.Sort.TheVariants.{Close}
use Rattle.qasm_parse.specs.declared.program.Formula.{Formula}
use Rattle.qasm_parse.specs.Phrases.{Listed, Enclosed, absent, empty, full, then, missed, after, elsewhere, got}
use Rattle.qasm_parse.specs.Formulas.{IsFormula}
use Rattle.qasm_parse.proofs.Passing.{listing_on, listing_not, told_from, back_err}
use Rattle.qasm_parse.proofs.formulas.actuals.Goals as goal

pub returns-in_default : goal.returns-in_default
returns-in_default c =
    let ts = c.args.sorts.now in let thing = IsFormula c.args.bytes.now c.args.tokens.now ts in
    record {
      reads = subst (λ (xs : List Formula). Enclosed ts thing c.args.at (got xs c.args.at)) (sym c.new.ensures.items) (absent (λ e. c.in_default.not-Open (c.sort_at.ensures.value ∙ e)));
      goes_on = (omega arith, c.requires.inside);
    }

pub returns-in-Close-clause-reads : goal.returns-in-Close-clause-reads
returns-in-Close-clause-reads c =
    let ts = c.args.sorts.now in let thing = IsFormula c.args.bytes.now c.args.tokens.now ts in
    subst (λ (xs : List Formula). Enclosed ts thing c.args.at (got xs (c.args.at + 2))) (sym c.new-in-Close.ensures.items) (empty (sym c.in-Open.ensures.value) (sym c.in-Close.ensures.value))

pub returns-in_err-list-in_default-sort_at : goal.returns-in_err-list-in_default-sort_at
returns-in_err-list-in_default-sort_at c =
    let ts = c.args.sorts.now in let thing = IsFormula c.args.bytes.now c.args.tokens.now ts in
    let x = c.in_err-list-in_default-sort_at.field-0.0 in
    let p = err_from_is_err_and c.from_residual.result c.from_residual.ensures.1 in
    record {
      reads = listing_on (λ (v : Vec Formula Global). v.items) (Enclosed ts thing c.args.at) (Listed ts thing (c.args.at + 1)) x c.from_residual.result p
          (λ f h. full (sym c.in-Open.ensures.value) (λ e. c.in_default-sort_at.not-Close (c.sort_at-2.ensures.value ∙ e)) (missed h)) (told_from (λ (v : Vec Formula Global). v.items) (Listed ts thing (c.args.at + 1)) x c.in_err-list-in_default-sort_at.ensures.reads);
      goes_on = back_err ts c.args.at x c.from_residual.result p;
    }

pub returns-in_err-end-in_default-sort_at : goal.returns-in_err-end-in_default-sort_at
returns-in_err-end-in_default-sort_at c =
    let ts = c.args.sorts.now in let thing = IsFormula c.args.bytes.now c.args.tokens.now ts in
    let x = c.in_err-end-in_default-sort_at.field-0.0 in
    let p = err_from_is_err_and c.from_residual-in_err-end-in_default-sort_at.result c.from_residual-in_err-end-in_default-sort_at.ensures.1 in
    record {
      reads = listing_not (λ (v : Vec Formula Global). v.items) (Enclosed ts thing c.args.at) ts Close c.in_ok-list-in_default-sort_at.to x c.from_residual-in_err-end-in_default-sort_at.result p
          (λ n. full (sym c.in-Open.ensures.value) (λ e. c.in_default-sort_at.not-Close (c.sort_at-2.ensures.value ∙ e)) (then c.in_ok-list-in_default-sort_at.ensures.reads (elsewhere n))) c.in_err-end-in_default-sort_at.ensures;
      goes_on = back_err ts c.args.at x c.from_residual-in_err-end-in_default-sort_at.result p;
    }

pub returns-in_ok-end-in_default-sort_at : goal.returns-in_ok-end-in_default-sort_at
returns-in_ok-end-in_default-sort_at c =
    let ts = c.args.sorts.now in let xs = c.in_ok-list-in_default-sort_at.list.items in
    let on = c.in_ok-list-in_default-sort_at.ensures.goes_on in let end = c.in_ok-end-in_default-sort_at.ensures in
    record {
      reads = full (sym c.in-Open.ensures.value) (λ e. c.in_default-sort_at.not-Close (c.sort_at-2.ensures.value ∙ e)) (then c.in_ok-list-in_default-sort_at.ensures.reads (after end.0 (ap (λ j. got xs j) end.1)));
      goes_on = (omega (arith, end.1), end.2);
    }
