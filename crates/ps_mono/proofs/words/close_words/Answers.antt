use Rattle.std.proofs.Common.{◌*◌, ◌/◌, arith, ap, ◌∙◌}
use Rattle.ps_mono.specs.Sets.{is_set}
use Rattle.ps_mono.proofs.Closings.{none_below, shift_start, shift_more, shift_end}
use Rattle.ps_mono.proofs.words.close_words.Goals as goal

pub loop-i-init : goal.loop-i-init
loop-i-init c = record {
  above = omega arith;
  shifting = shift_more c.args.v (c.args.v / 64) c.word_below.result c.closed_word.result c.args.words.now c.args.words.now (let h = c.requires.inside in let k = c.requires.used in omega arith) c.closed_word.ensures.small c.word_below.ensures.bits c.closed_word.ensures.below c.closed_word.ensures.above
      (λ e. c.closed_word.ensures.top e ∙ ap (λ x. is_set x 0) c.word_after.ensures.value) (shift_start c.args.v c.args.words.now c.requires.words);
}

pub loop-i-preserved : goal.loop-i-preserved
loop-i-preserved c = record {
  above = (let h = c.loop-i.invariant.above in omega arith);
  shifting = shift_more c.args.v c.loop-i.i 0 c.closed_word-in-loop-i.result c.args.words.now c.loop-i.words (let h = c.loop-i-test.true in let k = c.requires.used in omega arith) c.closed_word-in-loop-i.ensures.small (λ j l. none_below c.args.v (64 * c.loop-i.i) j c.loop-i.invariant.above) c.closed_word-in-loop-i.ensures.below c.closed_word-in-loop-i.ensures.above
      (λ e. c.closed_word-in-loop-i.ensures.top e ∙ ap (λ x. is_set x 0) c.word_after-in-loop-i.ensures.value) c.loop-i.invariant.shifting;
}

pub returns-clause-bits : goal.returns-clause-bits
returns-clause-bits c = shift_end c.args.v c.loop-i.i c.args.used c.args.words.now c.loop-i.words c.requires.inside c.loop-i-test.false c.requires.empty c.loop-i.invariant.shifting
