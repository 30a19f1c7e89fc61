use Rattle.std.proofs.Common.{refl}
use Rattle.ps_mono.proofs.Pairs.{lower2_at, lower2_small}
use Rattle.ps_mono.proofs.words.two_lower.Goals as goal

pub returns-clause-bits : goal.returns-clause-bits
returns-clause-bits c = lower2_at c.args.words.now c.args.i _ c.word_after.result refl c.word_after.ensures.value (c.requires.fits.small c.args.i)

pub returns-clause-small : goal.returns-clause-small
returns-clause-small c = lower2_small _ c.word_after.result (c.requires.fits.small c.args.i)
