use Rattle.ps_bool.proofs.Values.{equal_lists, equal_values}
use Rattle.ps_bool.proofs.poly.BoolPoly.same.Goals as goal

pub returns-clause-list : goal.returns-clause-list
returns-clause-list c = equal_lists _ _ _ _ _ c.eq.ensures c.self.view_is c.other.view_is

pub returns-clause-values : goal.returns-clause-values
returns-clause-values c = equal_values _ _ _ _ _ c.eq.ensures c.self.view_is c.other.view_is c.self.invariant c.other.invariant
