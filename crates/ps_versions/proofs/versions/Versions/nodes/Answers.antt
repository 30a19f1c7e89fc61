use Rattle.std.proofs.Common.{length, ap, arith}
use Rattle.ps_versions.proofs.Lookups.{length-kept}
use Rattle.ps_versions.proofs.versions.Versions.nodes.Goals as goal

pub returns-clause-kept : goal.returns-clause-kept
returns-clause-kept g c = omega (arith, ap (λ h. length h.kept) c.self.view_is, length-kept c.self.inside.records.items, c.self.invariant.recorded, ap (λ h. length h.nodes) c.self.view_is)
