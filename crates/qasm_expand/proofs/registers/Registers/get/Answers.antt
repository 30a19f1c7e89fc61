use Rattle.std.proofs.Common.{ap, ◌∙◌, option_map}
use Rattle.qasm_expand.specs.Tables.{register_of}
use Rattle.qasm_expand.specs.Maps.{extent_of}
use Rattle.qasm_expand.proofs.Registering.{found}
use Rattle.qasm_expand.proofs.registers.Registers.get.Goals as goal

pub returns : goal.returns
returns c = c.copied.ensures ∙ c.get.ensures.value ∙ found c.args.name.now c.self.inside.table.entries ∙ ap (λ l. option_map extent_of (register_of l c.args.name.now)) c.self.view_is
