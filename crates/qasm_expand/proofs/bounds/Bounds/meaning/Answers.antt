use Rattle.std.proofs.Common.{◌∙◌, ap}
use Rattle.qasm_expand.specs.Tables.{meaning}
use Rattle.qasm_expand.proofs.Lookups.{meaning_of_entries}
use Rattle.qasm_expand.proofs.bounds.Bounds.meaning.Goals as goal

pub returns : goal.returns
returns c = c.copied.ensures ∙ c.get.ensures.value ∙ meaning_of_entries c.self.inside.table.entries c.args.name.now ∙ ap (λ b. meaning b c.args.name.now) c.self.view_is
