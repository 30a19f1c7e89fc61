use Rattle.std.proofs.Common.{◌≡◌, ◌++◌, take, map}
use Rattle.ps_reach.specs.Runs.{prims_of}
use Rattle.ps_reply.specs.Items.{item_lines}
use Rattle.ps_reply.proofs.items.push_items.Given as goal

abbrev pub invariant-loop-item : goal.invariant-loop-item
invariant-loop-item l = l.text.items ≡ l.fn.text.items ++ item_lines (map prims_of (take l.item-index l.fn.items))
