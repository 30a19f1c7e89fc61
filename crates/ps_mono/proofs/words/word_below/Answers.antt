use Rattle.std.proofs.Common.{arith, ◌*◌}
use Rattle.ps_mono.proofs.Closings.{none_below, all_below, some_below}
use Rattle.ps_mono.proofs.words.word_below.Goals as goal

pub returns-then-v-start-clause-bits : goal.returns-then-v-start-clause-bits
returns-then-v-start-clause-bits c j h = none_below c.args.v (64 * c.args.i) j (omega (arith, c.if-v-start.true))

pub returns-then-v-start-ge64-clause-bits : goal.returns-then-v-start-ge64-clause-bits
returns-then-v-start-ge64-clause-bits c j h = all_below c.args.v (64 * c.args.i) j h (omega (arith, c.if-v-start.false)) (omega (arith, c.if-v-start-ge64.true))

pub returns-else-v-start-ge64-clause-bits : goal.returns-else-v-start-ge64-clause-bits
returns-else-v-start-ge64-clause-bits c j h = some_below c.args.v (64 * c.args.i) j h (omega (arith, c.if-v-start.false)) (omega (arith, c.if-v-start-ge64.false))
