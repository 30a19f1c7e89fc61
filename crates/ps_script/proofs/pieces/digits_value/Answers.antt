use Rattle.ps_script.proofs.WordLemmas.{value_step, value_end}
use Rattle.ps_script.proofs.pieces.digits_value.Goals as goal

pub loop-b-preserved : goal.loop-b-preserved
loop-b-preserved c = value_step c.args.bytes.now c.loop-b.value c.loop-b.b-index _ c.loop-b-test.true c.from-digit.ensures c.loop-b.invariant

pub returns : goal.returns
returns c = value_end c.args.bytes.now c.loop-b.value c.loop-b.b-index c.loop-b-test.false c.loop-b.invariant
