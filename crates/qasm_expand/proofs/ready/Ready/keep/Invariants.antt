use Rattle.std.proofs.Common.{List, ◌-◌, length}
use Rattle.qasm_expand.specs.declared.defs.Def.{Def}
use Rattle.qasm_expand.specs.Ready.{AreExpansions}
use Rattle.qasm_expand.proofs.ready.Ready.keep.Given as goal

abbrev pub invariant-slots : goal.invariant-slots
invariant-slots l = record { known : (defs : List Def) → AreExpansions defs l.fn.self.slots.items → AreExpansions defs l.self.slots.items }

abbrev pub decreases-slots : goal.decreases-slots
decreases-slots l = 64 - length l.self.slots.items
