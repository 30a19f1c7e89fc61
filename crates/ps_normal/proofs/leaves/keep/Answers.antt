use Rattle.std.proofs.Common.{sym, subst}
use Rattle.ps_normal.specs.Keeping.{IsKept, IsTable}
use Rattle.ps_normal.proofs.Tables.{table_push, table_set}
use Rattle.ps_normal.proofs.leaves.keep.Goals as goal

pub slots-preserved : goal.slots-preserved
slots-preserved c = record { table = λ n t. subst (IsTable n) (sym c.in_ok-push.ensures.items) (table_push n c.slots.leaves.items (c.slots.invariant.table n t)) }

pub returns : goal.returns
returns c = λ n t k. table_set n c.slots.leaves.items c.slot_of-slot.result c.in_ok-new.field-0 (c.slots.invariant.table n t) (subst (λ x. IsKept n x.prim x) (sym c.in_ok-new.ensures.ok) k)
