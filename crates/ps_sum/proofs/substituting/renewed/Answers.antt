use Rattle.std.proofs.Common.{ap, sym, ◌∙◌, ◌%◌}
use Rattle.ps_mono.specs.Truth.{times}
use Rattle.ps_bool.specs.Polys.{bool_value}
use Rattle.ps_sum.proofs.substituting.renewed.Goals as goal

pub returns-then-units-clause-value : goal.returns-then-units-clause-value
returns-then-units-clause-value c = λ a. c.requires.value a ∙ ap (λ n. times (bool_value c.args.by.now a) n % 4294967296) (sym c.units-2.ensures ∙ sym c.if-units.true ∙ c.units.ensures)
