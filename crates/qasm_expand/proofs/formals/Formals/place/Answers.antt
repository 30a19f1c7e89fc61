use Rattle.std.proofs.Common.{◌∙◌, ap}
use Rattle.qasm_expand.specs.Gates.{place_of}
use Rattle.qasm_expand.proofs.Lookups.{place_of_keys}
use Rattle.qasm_expand.proofs.formals.Formals.place.Goals as goal

pub returns : goal.returns
returns c = c.get_index_of.ensures.index ∙ place_of_keys c.self.inside.table.keys c.args.name.now ∙ ap (λ b. place_of b c.args.name.now) c.self.view_is
