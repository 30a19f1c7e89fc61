use Rattle.std.proofs.Common.{ap, sym, ◌∙◌, arith, length}
use Rattle.ps_overlap.proofs.Turning.{none_constant, one_constant, more_turn, terms_at, no_terms, some_terms}
use Rattle.ps_overlap.proofs.points.constant_phase.Goals as goal

pub returns-then-is_empty : goal.returns-then-is_empty
returns-then-is_empty c =
    let e = ap length c.terms-terms.ensures.value in
    none_constant c.args.sum.now.phase c.of.result (sym e ∙ no_terms (length c.terms-terms.result.now) c.is_empty.result c.is_empty.ensures c.if-is_empty.true) c.of.ensures

pub returns-then-terms-gt1 : goal.returns-then-terms-gt1
returns-then-terms-gt1 c = let e = ap length c.terms-terms.ensures.value in more_turn c.args.sum.now.phase c.terms-terms.ensures.form (omega arith)

pub returns-then-degree-eq0 : goal.returns-then-degree-eq0
returns-then-degree-eq0 c =
    let e = ap length c.terms-terms.ensures.value in
    let s = some_terms (length c.terms-terms.result.now) c.is_empty.result c.is_empty.ensures c.if-is_empty.false in
    one_constant c.args.sum.now.phase c.index-terms-0.result (omega arith) (terms_at _ _ 0 _ c.terms-terms.ensures.value c.index-terms-0.is) (sym c.degree.ensures ∙ c.if-degree-eq0.true)
