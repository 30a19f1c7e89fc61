use Rattle.std.proofs.Common.{ap, ◌∙◌}
use Rattle.ps_versions.specs.Lookup.{place_of}
use Rattle.ps_versions.proofs.Lookups.{place_found, place-fields}
use Rattle.ps_versions.proofs.versions.Versions.place_of.Goals as goal

pub returns-clause-place : goal.returns-clause-place
returns-clause-place g c =
    c.get_index_of.ensures.index ∙ place-fields c.self.inside.names.keys c.self.inside.courses.items c.args.name.now c.self.invariant.named ∙ ap (λ h. place_of h.circuits c.args.name.now) c.self.view_is

pub returns-clause-found : goal.returns-clause-found
returns-clause-found g c =
    place_found c.args.self.now.circuits c.args.name.now c.get_index_of.result (c.get_index_of.ensures.index ∙ place-fields c.self.inside.names.keys c.self.inside.courses.items c.args.name.now c.self.invariant.named ∙ ap (λ h. place_of h.circuits c.args.name.now) c.self.view_is)
