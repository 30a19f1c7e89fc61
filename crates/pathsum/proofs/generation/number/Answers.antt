use Rattle.std.proofs.Common.{arith}
use Rattle.std.proofs.lemmas.Fmt.{parse-decimal}
use Rattle.pathsum.proofs.GenerationLemmas.{misspelled}
use Rattle.pathsum.proofs.generation.number.Goals as goal

pub returns-in_default : goal.returns-in_default
returns-in_default c = λ n i. c.in_default.not-Ok n (parse-decimal 32 n c.args.word.now c.parse.result i.below (omega (arith, i.below)) i.spelled c.parse.ensures.value.0)

pub returns-else-eq : goal.returns-else-eq
returns-else-eq c = λ n i.
    misspelled c.parse.result c.args.word.now c.format.result.now c.in-Ok.value n c.eq.result c.in-Ok.is
    (parse-decimal 32 n c.args.word.now c.parse.result i.below (omega (arith, i.below)) i.spelled c.parse.ensures.value.0) c.format.ensures.text i.spelled c.eq.ensures c.if-eq.false
