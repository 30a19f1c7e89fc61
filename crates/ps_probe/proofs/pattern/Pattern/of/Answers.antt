use Rattle.std.proofs.Common.{◌∙◌, get_or, refl, arith}
use Rattle.std.proofs.lemmas.List.{get_or_default}
use Rattle.ps_probe.proofs.Marks.{marked_start, marked_one, marked_zero, marked_free, no_mark}
use Rattle.ps_probe.proofs.pattern.Pattern.of.Goals as goal
use Rattle.ps_probe.proofs.pattern.Pattern.of.Goals.{then-mark-eq49, else-mark-eq49+then-mark-eq48, else-mark-eq49+else-mark-eq48+else-mark-ne45}

pub loop-i-init : goal.loop-i-init
loop-i-init c = marked_start c.args.word.now

pub returns-then-mark-ne45-clause-none : goal.returns-then-mark-ne45-clause-none
returns-then-mark-ne45-clause-none c = (λ e v. no_mark c.args.word.now c.loop-i.i (get_or c.args.word.now c.loop-i.i 0) c.loop-i-test.true (get_or_default c.args.word.now c.loop-i.i 0 45 c.loop-i-test.true) c.if-mark-eq49.false c.if-mark-eq48.false c.if-mark-ne45.true v, λ n. refl)

pub loop-i-preserved : goal.loop-i-preserved
loop-i-preserved c =
    let l = c.loop-i-test.true in
    let f = c.if-word-gt64.false in
    elim c.if-mark-eq49.branch [
      | then-mark-eq49 w ↦ marked_one c.args.word.now c.loop-i.i c.loop-i.fixed c.loop-i.ones c.if-mark-eq49.fixed c.if-mark-eq49.ones (omega (arith, l, f)) (get_or_default c.args.word.now c.loop-i.i 45 0 l ∙ w.if-mark-eq49.true) w.fixed-is w.ones-is c.loop-i.invariant
      | else-mark-eq49+then-mark-eq48 w ↦ marked_zero c.args.word.now c.loop-i.i c.loop-i.fixed c.loop-i.ones c.if-mark-eq49.fixed c.if-mark-eq49.ones (omega (arith, l, f)) (get_or_default c.args.word.now c.loop-i.i 45 0 l ∙ w.if-mark-eq48.true) w.fixed-is w.ones-is c.loop-i.invariant
      | else-mark-eq49+else-mark-eq48+else-mark-ne45 w ↦ marked_free c.args.word.now c.loop-i.i c.loop-i.fixed c.loop-i.ones c.if-mark-eq49.fixed c.if-mark-eq49.ones (omega (arith, l, f)) (get_or_default c.args.word.now c.loop-i.i 45 0 l ∙ w.if-mark-ne45.false) w.fixed-is w.ones-is c.loop-i.invariant
    ]
