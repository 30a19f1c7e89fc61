use Rattle.std.proofs.Common.{◌≡◌, length}
use Rattle.ps_sum.proofs.TableWorths.{AllZero}
use Rattle.ps_probe.proofs.Tables.{Filled}
use Rattle.ps_probe.proofs.phases.marked.Given as goal

abbrev pub invariant-loop-filled : goal.invariant-loop-filled
invariant-loop-filled l = (length l.table.items ≡ l.filled) × AllZero l.table.items

abbrev pub invariant-loop-term : goal.invariant-loop-term
invariant-loop-term l = Filled l.names l.all l.terms l.term-index l.table.items
