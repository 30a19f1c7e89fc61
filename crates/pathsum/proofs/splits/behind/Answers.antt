use Rattle.std.proofs.Common.{◌-◌, arith, drop, length, length-drop}
use Rattle.std.proofs.lemmas.List.{take_all}
use Rattle.pathsum.proofs.Splitting.{weaker, separates_at, not_marked, not_begun}
use Rattle.pathsum.proofs.Verdicts.{untrue}
use Rattle.pathsum.proofs.splits.behind.Goals as goal

pub returns-then-begins_line : goal.returns-then-begins_line
returns-then-begins_line c =
    let e = length-drop c.args.at c.args.bytes.now in
    weaker c.behind_mark.result (not_marked c.args.bytes.now c.args.at) (λ r m. separates_at c.args.bytes.now r.now c.args.at (c.begins_line.ensures.0 c.if-begins_line.true) m) (rw (take_all (length c.args.bytes.now - c.args.at) (drop c.args.at c.args.bytes.now) (omega arith)) at c.behind_mark.ensures)

pub returns-else-begins_line : goal.returns-else-begins_line
returns-else-begins_line c = not_begun c.args.bytes.now c.args.at (λ l. untrue c.if-begins_line.false (c.begins_line.ensures.1 l))
