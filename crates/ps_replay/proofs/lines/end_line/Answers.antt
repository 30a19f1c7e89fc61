use Rattle.std.proofs.Common.{◌≡◌, Bool, true, false}
use Rattle.ps_replay.proofs.Stacking.{end_count, end_does, end_open}
use Rattle.ps_replay.proofs.lines.end_line.Goals as goal

clash : {c : Bool} → c ≡ true → c ≡ false → ⊥
clash x y = cc

pub returns-then-held-ne1 : goal.returns-then-held-ne1
returns-then-held-ne1 c = λ n A B. end_count n A B c.args.held.now c.if-held-ne1.true

pub returns-then-is_overlap : goal.returns-then-is_overlap
returns-then-is_overlap c = λ n A B. end_does n A B c.args.held.now c.index-held-0.result c.if-held-ne1.false c.index-held-0.is (c.is_overlap.ensures.0 c.if-is_overlap.true)

pub returns-else-is_overlap : goal.returns-else-is_overlap
returns-else-is_overlap c = λ n A B. end_open n A B c.args.held.now c.index-held-0.result c.if-held-ne1.false c.index-held-0.is (λ p. clash (c.is_overlap.ensures.1 p) c.if-is_overlap.false)
