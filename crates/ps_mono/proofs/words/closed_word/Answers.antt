use Rattle.ps_mono.proofs.Closings.{bits_below, bits_above, bits_top, bits_small}
use Rattle.ps_mono.proofs.words.closed_word.Goals as goal

pub returns-clause-below : goal.returns-clause-below
returns-clause-below c j h e = bits_below c.args.word c.args.next c.args.kept j c.ranges.kept.fits h e

pub returns-clause-above : goal.returns-clause-above
returns-clause-above c j h e = bits_above c.args.word c.args.next c.args.kept j c.ranges.kept.fits h e

pub returns-clause-top : goal.returns-clause-top
returns-clause-top c e = bits_top c.args.word c.args.next c.args.kept c.ranges.kept.fits c.ranges.word.fits e

pub returns-clause-small : goal.returns-clause-small
returns-clause-small c = bits_small c.args.word c.args.next c.args.kept c.ranges.word.fits
