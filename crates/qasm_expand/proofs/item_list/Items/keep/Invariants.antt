use Rattle.std.proofs.Common.{◌≡◌, ◌-◌, length}
use Rattle.qasm_expand.proofs.item_list.Items.keep.Given as goal

abbrev pub invariant-slots : goal.invariant-slots
invariant-slots l = l.self-inside.list ≡ l.initial.self-inside.list

abbrev pub decreases-slots : goal.decreases-slots
decreases-slots l = 4096 - length l.self-inside.made.items
