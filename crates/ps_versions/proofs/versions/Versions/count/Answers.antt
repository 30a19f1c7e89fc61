use Rattle.std.proofs.Common.{length, ap, arith}
use Rattle.ps_versions.proofs.Lookups.{length-circuits}
use Rattle.ps_versions.proofs.versions.Versions.count.Goals as goal

pub returns-clause-value : goal.returns-clause-value
returns-clause-value g c = omega (arith, c.len.ensures, ap (λ h. length h.circuits) c.self.view_is, length-circuits c.self.inside.names.keys c.self.inside.courses.items c.self.invariant.named, c.self.inside.courses.ok.0)
