use Rattle.std.proofs.Common.{◌∙◌}
use Rattle.qasm_expand.proofs.Sounding.{nothing_sound}
use Rattle.qasm_expand.proofs.circuits.nothing.Goals as goal

pub returns-clause-sound : goal.returns-clause-sound
returns-clause-sound c = nothing_sound _ c.new.ensures (c.from_vec.ensures ∙ c.new-2.ensures.items) c.new-3.ensures c.new-4.ensures
