use Rattle.std.proofs.Common.{◌+◌, sym, ap, ◌∙◌, if◌then◌else◌}
use Rattle.std.specs.Prelude.{map}
use Rattle.qasm_expand.specs.Tables.{Register, qubit_count}
use Rattle.qasm_expand.specs.Maps.{register_with}
use Rattle.qasm_expand.proofs.Registering.{declared, counted_more}
use Rattle.qasm_expand.proofs.registers.Registers.push.Goals as goal

pub returns : goal.returns
returns c =
    declared c.self.inside.table.entries c.insert.new.self.entries c.in_ok-to_vec.field-0 c.args.extent c.args.name.now c.args.self.now
    c.self.view_is (c.in_ok-to_vec.ensures.items_if_clones_equal (λ x y e. e)) c.requires.new c.in_ok-insert.ensures.entries

pub invariant_of-self-2 : goal.invariant_of-self-2
invariant_of-self-2 c =
    let r : Register = record { name = c.args.name.now; quantum = c.args.extent.quantum; first = c.args.extent.first; size = c.args.extent.size } in
    ap (λ q. q + c.qubits.result) c.self.invariant ∙ ap (λ q. qubit_count (map register_with c.self.inside.table.entries) + q) c.qubits.ensures
    ∙ ap (λ l. qubit_count l + (if c.args.extent.quantum then c.args.extent.size else 0)) c.self.view_is
    ∙ sym (counted_more c.args.self.now r) ∙ sym (ap qubit_count (declared c.self.inside.table.entries c.insert.new.self.entries c.in_ok-to_vec.field-0 c.args.extent c.args.name.now c.args.self.now
    c.self.view_is (c.in_ok-to_vec.ensures.items_if_clones_equal (λ x y e. e)) c.requires.new c.in_ok-insert.ensures.entries))
