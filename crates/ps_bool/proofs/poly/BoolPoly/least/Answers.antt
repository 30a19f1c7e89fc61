use Rattle.std.proofs.Common.{◌<◌, length, rules}
use Rattle.ps_bool.proofs.Values.{least_value}
use Rattle.ps_bool.proofs.poly.BoolPoly.least.Goals as goal

pub returns-clause-point : goal.returns-clause-point
returns-clause-point c =
    let some : 0 < length c.self.inside.monos.items = search rules in
    least_value _ _ c.index-mono.result.now c.self.view_is c.self.invariant some c.index-mono.ensures
