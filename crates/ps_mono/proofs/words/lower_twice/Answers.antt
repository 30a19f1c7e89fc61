use Rattle.std.proofs.Common.{arith}
use Rattle.ps_mono.proofs.Pairs.{lowering_start, lowering_more}
use Rattle.ps_mono.proofs.words.lower_twice.Goals as goal

pub loop-i-init : goal.loop-i-init
loop-i-init c = record { most = c.requires.order; lowering = lowering_start 2 c.args.from c.args.words.now c.requires.fits }

pub loop-i-preserved : goal.loop-i-preserved
loop-i-preserved c = record {
  most = (let h = c.loop-i-test.true in omega arith);
  lowering = lowering_more 2 c.args.from c.loop-i.i c.two_lower.result c.args.words.now c.loop-i.words (let h = c.loop-i-test.true in let k = c.requires.inside in omega arith) c.two_lower.ensures.small c.two_lower.ensures.bits c.loop-i.invariant.lowering;
}
