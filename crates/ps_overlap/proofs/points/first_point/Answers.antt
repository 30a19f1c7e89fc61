use Rattle.std.proofs.Common.{ap, sym, ◌∙◌}
use Rattle.ps_phase.specs.declared.terms.Term.{Term}
use Rattle.ps_overlap.proofs.LeastPoints.{first_point_not_one, unscaled_point, scaled_point, scale_zero, scale_other}
use Rattle.ps_overlap.proofs.points.first_point.Goals as goal

pub returns-then-sum-eq0-clause-point : goal.returns-then-sum-eq0-clause-point
returns-then-sum-eq0-clause-point c = unscaled_point c.args.sum.now c.terms-terms.result.now c.index-terms-0.result c.true_in.result (scale_zero c.args.sum.now c.if-sum-eq0.true) c.terms-terms.ensures.value c.terms-terms.ensures.form (c.requires.not_unit (scale_zero c.args.sum.now c.if-sum-eq0.true)) c.index-terms-0.is (c.true_in.ensures ∙ ap (λ (x : Term). x.mono) (sym c.index-terms-0.is))

pub returns-then-sum-eq0-clause-not_one : goal.returns-then-sum-eq0-clause-not_one
returns-then-sum-eq0-clause-not_one c = first_point_not_one c.args.sum.now c.true_in.result c.requires.plain (returns-then-sum-eq0-clause-point c)

pub returns-else-sum-eq0-clause-point : goal.returns-else-sum-eq0-clause-point
returns-else-sum-eq0-clause-point c = scaled_point c.args.sum.now c.zero.result (scale_other c.args.sum.now c.if-sum-eq0.false) c.zero.ensures

pub returns-else-sum-eq0-clause-not_one : goal.returns-else-sum-eq0-clause-not_one
returns-else-sum-eq0-clause-not_one c = first_point_not_one c.args.sum.now c.zero.result c.requires.plain (returns-else-sum-eq0-clause-point c)
