use Rattle.std.proofs.Common.{◌≡◌, ◌+◌, ◌-◌, ◌*◌, ◌<◌, ◌≤◌, length, List, ◌++◌}
use Rattle.qasm_parse.specs.declared.sort.Mark.{Mark}
use Rattle.qasm_parse.specs.Grammar.{Found, front, Reads, chain, tail}
use Rattle.qasm_parse.proofs.Rank.{rank}
use Rattle.qasm_parse.proofs.expr.+expr.Given as goal

abbrev pub decreases-atom : goal.decreases-atom
decreases-atom l = 8 * (length l.sorts.now - l.at) + 1

abbrev pub decreases-call : goal.decreases-call
decreases-call l = 8 * (length l.sorts.now - l.at)

abbrev pub decreases-chain : goal.decreases-chain
decreases-chain l = 8 * (length l.sorts.now - l.at) + 5 + rank l.level

abbrev pub decreases-exponent : goal.decreases-exponent
decreases-exponent l = 8 * (length l.sorts.now - l.from) + 4

abbrev pub decreases-negated : goal.decreases-negated
decreases-negated l = 8 * (length l.sorts.now - l.at) + 4

abbrev pub decreases-group : goal.decreases-group
decreases-group l = 8 * (length l.sorts.now - l.at)

abbrev pub decreases-operand : goal.decreases-operand
decreases-operand l = 8 * (length l.sorts.now - l.at) + 4 + rank l.level

abbrev pub decreases-power : goal.decreases-power
decreases-power l = 8 * (length l.sorts.now - l.at) + 2

abbrev pub decreases-signed : goal.decreases-signed
decreases-signed l = 8 * (length l.sorts.now - l.at) + 3

-- whatever follows from here on completes the chain
abbrev pub invariant-chain-loop-op : goal.invariant-chain-loop-op
invariant-chain-loop-op l = record {
  ordered : l.fn.at < l.to;
  within : l.to ≤ length l.sorts;
  rest : (es : List Mark) × (l.ops.items ≡ l.fn.ops.items ++ es) × ((r : Found) → Reads l.sorts (tail l.level) l.room l.to r → Reads l.sorts (chain l.level) l.room l.fn.at (front es r));
}

abbrev pub decreases-chain-loop-op : goal.decreases-chain-loop-op
decreases-chain-loop-op l = length l.sorts - l.to
