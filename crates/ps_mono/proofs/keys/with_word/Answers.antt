use Rattle.std.proofs.Common.{arith, ◌-◌, ◌∙◌}
use Rattle.std.proofs.lemmas.Nat.{and_le_l}
use Rattle.ps_mono.proofs.KeyOrders.{word_room, word_more, key_whole}
use Rattle.ps_mono.proofs.keys.with_word.Goals as goal

pub overflow_mul-key : goal.overflow_mul-key
overflow_mul-key c = omega (arith, word_room c.loop-rest.rest c.args.start c.loop-rest.key _ c.loop-rest-test.true c.loop-rest.invariant.small c.loop-rest.invariant.same, c.requires)

pub overflow_add-key : goal.overflow_add-key
overflow_add-key c = omega (arith, word_room c.loop-rest.rest c.args.start c.loop-rest.key _ c.loop-rest-test.true c.loop-rest.invariant.small c.loop-rest.invariant.same, c.requires, c.from.ensures)

pub overflow_add-key-in-loop-rest : goal.overflow_add-key-in-loop-rest
overflow_add-key-in-loop-rest c = omega (arith, word_room c.loop-rest.rest c.args.start c.loop-rest.key _ c.loop-rest-test.true c.loop-rest.invariant.small c.loop-rest.invariant.same, c.requires, c.from.ensures)

pub loop-rest-preserved : goal.loop-rest-preserved
loop-rest-preserved c = record {
  small = omega (arith, and_le_l c.loop-rest.rest (c.loop-rest.rest - 1), c.loop-rest.invariant.small);
  same = word_more c.loop-rest.rest c.args.start _ c.loop-rest.key _ c.loop-rest-test.true c.loop-rest.invariant.small c.loop-rest.invariant.same (omega (arith, c.from.ensures));
}

pub returns : goal.returns
returns c = key_whole c.loop-rest.rest c.args.start c.loop-rest.key (omega arith) ∙ c.loop-rest.invariant.same
