use Rattle.std.proofs.Common.{arith, refl, ◌∙◌}
use Rattle.std.specs.Int.Count.{ones-le}
use Rattle.ps_mono.proofs.Counts.{count_more, count_all, count_none, count_skip}
use Rattle.ps_mono.proofs.words.count_vars.Goals as goal
use Rattle.ps_mono.proofs.words.count_vars.Goals.{then-word-ne0, else-word-ne0}

pub loop-i-init : goal.loop-i-init
loop-i-init c = record { small = omega arith; counted = count_none _ }

pub loop-i-preserved : goal.loop-i-preserved
loop-i-preserved c = elim c.if-word-ne0.branch [
  | then-word-ne0 w ↦ record {
    small = omega (arith, w.count-is, ones-le 64 _ (c.requires.small c.loop-i.i), c.loop-i.invariant.small);
    counted = w.count-is ∙ count_more _ c.loop-i.i _ _ c.requires c.loop-i.invariant.counted refl;
  }
  | else-word-ne0 w ↦ record {
    small = omega (arith, w.count-is, c.loop-i.invariant.small);
    counted = w.count-is ∙ count_skip _ c.loop-i.i _ c.requires c.loop-i.invariant.counted w.if-word-ne0.false;
  }
]

pub returns : goal.returns
returns c = count_all _ _ c.loop-i.i _ refl c.loop-i-test.false (omega arith) c.loop-i.invariant.counted
