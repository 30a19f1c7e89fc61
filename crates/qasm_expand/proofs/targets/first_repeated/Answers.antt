use Rattle.qasm_expand.specs.Gates.{arg_names}
use Rattle.qasm_expand.proofs.Aiming.{repeat_found, repeat_next, repeat_end}
use Rattle.qasm_expand.proofs.targets.first_repeated.Goals as goal

pub repeated-requires-clause-within : goal.repeated-requires-clause-within
repeated-requires-clause-within c = c.requires.within c.loop-index.index c.loop-index-test.true

pub returns-in-Some : goal.returns-in-Some
returns-in-Some c = repeat_found c.args.targets.now (arg_names c.args.args.now) c.loop-index.index c.args.count c.in-Some.place _ c.loop-index-test.true c.loop-index.invariant c.in-Some.ensures

pub loop-index-preserved : goal.loop-index-preserved
loop-index-preserved c = repeat_next c.args.targets.now (arg_names c.args.args.now) c.loop-index.index c.args.count _ c.loop-index-test.true c.loop-index.invariant c.in-None.ensures

pub returns : goal.returns
returns c = repeat_end c.args.targets.now (arg_names c.args.args.now) c.loop-index.index c.args.count _ c.loop-index-test.false c.loop-index.invariant
