use Rattle.std.proofs.Common.{refl}
use Rattle.ps_mono.proofs.Pairs.{lower1_at, lower1_small}
use Rattle.ps_mono.proofs.words.one_lower.Goals as goal

pub returns-clause-bits : goal.returns-clause-bits
returns-clause-bits c = lower1_at c.args.words.now c.args.i _ c.word_after.result refl c.word_after.ensures.value (c.requires.fits.small c.args.i)

pub returns-clause-small : goal.returns-clause-small
returns-clause-small c = lower1_small _ c.word_after.result (c.requires.fits.small c.args.i)
