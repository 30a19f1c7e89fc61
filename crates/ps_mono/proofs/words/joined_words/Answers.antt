use Rattle.ps_mono.proofs.Calls.{union_fits, union_more}
use Rattle.ps_mono.proofs.words.joined_words.Goals as goal

pub loop-i-preserved : goal.loop-i-preserved
loop-i-preserved c = record {
  fits = union_fits _ _ _ _ c.requires.first c.requires.second c.loop-i.invariant.fits c.loop-i-test.true;
  done = union_more _ _ _ _ c.loop-i.invariant.fits c.loop-i-test.true c.loop-i.invariant.done;
}
