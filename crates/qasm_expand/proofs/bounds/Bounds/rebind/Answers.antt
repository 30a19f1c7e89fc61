use Rattle.std.proofs.Common.{◌∙◌, ap, map}
use Rattle.qasm_expand.specs.Tables.{rebound}
use Rattle.qasm_expand.specs.Maps.{bound_of}
use Rattle.qasm_expand.proofs.Lookups.{rebound_entries}
use Rattle.qasm_expand.proofs.bounds.Bounds.rebind.Goals as goal

pub returns : goal.returns
returns c =
    record { bound = ap (map bound_of) c.in_ok-insert.ensures.entries ∙ rebound_entries c.self.inside.table.entries c.in_ok-to_vec.field-0 c.args.def ∙ ap (λ b. rebound b c.in_ok-to_vec.field-0.items c.args.def) c.self.view_is ∙ ap (λ n. rebound c.args.self.now n c.args.def) (c.in_ok-to_vec.ensures.items_if_clones_equal (λ x y e. e)) }
