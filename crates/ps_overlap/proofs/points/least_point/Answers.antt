use Rattle.ps_overlap.proofs.LeastPoints.{vanishing_zero, vanishing_not_one, quotient_point}
use Rattle.ps_overlap.proofs.points.least_point.Goals as goal

pub returns-clause-point : goal.returns-clause-point
returns-clause-point c = quotient_point c.args.sum.now c.args.y c.terms.result.now c.first_quotient.result c.true_in.result c.terms.ensures.value c.true_in.ensures c.first_quotient.ensures

pub returns-clause-zero : goal.returns-clause-zero
returns-clause-zero c = vanishing_zero c.args.sum.now c.args.y c.true_in.result c.requires (returns-clause-point c)

pub returns-clause-not_one : goal.returns-clause-not_one
returns-clause-not_one c = vanishing_not_one c.args.sum.now c.args.y c.true_in.result c.requires (returns-clause-point c)
