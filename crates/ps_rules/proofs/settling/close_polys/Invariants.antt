use Rattle.std.proofs.Common.{◌≡◌}
use Rattle.ps_rules.specs.Closing.{closed_monos}
use Rattle.ps_rules.proofs.Mapped.{so_far}
use Rattle.ps_rules.proofs.settling.close_polys.Given as goal

abbrev pub invariant-loop-poly : goal.invariant-loop-poly
invariant-loop-poly l = l.poly-items ≡ so_far (λ f. closed_monos l.closing.gone f) l.fn.polys.items l.poly-index
