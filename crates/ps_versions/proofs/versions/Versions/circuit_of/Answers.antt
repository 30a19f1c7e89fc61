use Rattle.std.proofs.Common.{sym, ap, ◌∙◌, subst}
use Rattle.ps_versions.specs.Lookup.{version_in}
use Rattle.ps_versions.specs.Lives.{IsLive}
use Rattle.ps_versions.specs.Told.{about}
use Rattle.ps_versions.proofs.versions.Versions.circuit_of.Goals as goal

pub returns-in-Some-clause-about : goal.returns-in-Some-clause-about
returns-in-Some-clause-about g c = c.course.ensures.about ∙ sym (ap about c.in-Some.ensures.found.1)

pub returns-in-Some-clause-latest : goal.returns-in-Some-clause-latest
returns-in-Some-clause-latest g c = subst (λ o. IsLive (version_in o c.course.result.latest)) (sym c.in-Some.ensures.found.1) c.course.ensures.latest
