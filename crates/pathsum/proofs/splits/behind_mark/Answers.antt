use Rattle.pathsum.proofs.Splitting.{weaker, mark_plain, mark_returned, no_plain, no_returned}
use Rattle.pathsum.proofs.splits.behind_mark.Goals as goal

pub returns-in-None-after : goal.returns-in-None-after
returns-in-None-after c = weaker c.behind_end.result (no_plain c.args.bytes.now c.in-Some.line.now c.in-Some.ensures c.in-None-after.ensures) (λ r e. mark_plain c.args.bytes.now c.in-Some.line.now r.now c.in-Some.ensures e) c.behind_end.ensures

pub returns-in-Some-after : goal.returns-in-Some-after
returns-in-Some-after c = weaker c.behind_end-in-Some-after.result (no_returned c.args.bytes.now c.in-Some.line.now c.in-Some-after.line.now c.in-Some.ensures c.in-Some-after.ensures) (λ r e. mark_returned c.args.bytes.now c.in-Some.line.now c.in-Some-after.line.now r.now c.in-Some.ensures c.in-Some-after.ensures e) c.behind_end-in-Some-after.ensures
