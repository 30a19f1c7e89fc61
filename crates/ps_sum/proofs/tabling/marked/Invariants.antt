use Rattle.std.proofs.Common.{◌≡◌, length}
use Rattle.ps_sum.proofs.TableWorths.{Marked, AllZero}
use Rattle.ps_sum.proofs.tabling.marked.Given as goal

abbrev pub invariant-loop-filled : goal.invariant-loop-filled
invariant-loop-filled l = (length l.table.items ≡ l.filled) × AllZero l.table.items

abbrev pub invariant-loop-mono : goal.invariant-loop-mono
invariant-loop-mono l = Marked l.names l.monos l.mono-index l.table.items
