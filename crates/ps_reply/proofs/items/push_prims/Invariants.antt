use Rattle.std.proofs.Common.{◌≡◌, ◌++◌, take}
use Rattle.std.specs.List.{flat_map}
use Rattle.ps_reply.specs.Items.{next_prim}
use Rattle.ps_reply.proofs.items.push_prims.Given as goal

abbrev pub invariant-loop-prim : goal.invariant-loop-prim
invariant-loop-prim l = l.text.items ≡ l.fn.text.items ++ flat_map next_prim (take l.prim-index l.fn.prims)
