use Rattle.ps_bool.proofs.Merges.{merge_value, merge_poly}
use Rattle.ps_bool.proofs.Flips.{one_poly}
use Rattle.ps_bool.proofs.Variables.{occurs-merge}
use Rattle.ps_bool.proofs.poly.BoolPoly.flipped.Goals as goal

pub invariant_of-result : goal.invariant_of-result
invariant_of-result c = rw (c.in_ok-monos.ensures) (merge_poly _ _ c.self.invariant one_poly)

pub returns-clause-value : goal.returns-clause-value
returns-clause-value c = λ a. rw (c.in_ok-monos.ensures, ← c.self.view_is) (merge_value _ _ a)

pub returns-clause-variables : goal.returns-clause-variables
returns-clause-variables c = λ v. rw (c.in_ok-monos.ensures, ← c.self.view_is) (occurs-merge v _ _)

pub returns-clause-form : goal.returns-clause-form
returns-clause-form c = rw (c.in_ok-monos.ensures) (merge_poly _ _ c.self.invariant one_poly)
