use Rattle.std.proofs.Common.{ap, sym, ◌∙◌, ◌%◌, ◌^◌}
use lib.Count.{count_trailing_zeros}
use Rattle.ps_ring.proofs.Divisors.{trailing_divides, trailing_greatest}
use Rattle.ps_ring.proofs.phase.Phase.power.Goals as goal

pub returns-clause-divides : goal.returns-clause-divides
returns-clause-divides c = ap (λ n. n % 2 ^ count_trailing_zeros 32 c.self.inside.units) (sym c.self.view_is) ∙ trailing_divides 32 c.self.inside.units

pub returns-clause-greatest : goal.returns-clause-greatest
returns-clause-greatest c v h e = trailing_greatest 32 c.self.inside.units v h (ap (λ n. n % 2 ^ v) c.self.view_is ∙ e)
