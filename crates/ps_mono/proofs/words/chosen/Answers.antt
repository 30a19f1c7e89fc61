use Rattle.ps_mono.proofs.Pairs.{choice_on, choice_off, choice_small}
use Rattle.ps_mono.proofs.words.chosen.Goals as goal

pub returns-clause-on : goal.returns-clause-on
returns-clause-on c j h e = choice_on c.args.mask c.args.first c.args.second j c.ranges.mask.fits h e

pub returns-clause-off : goal.returns-clause-off
returns-clause-off c j h e = choice_off c.args.mask c.args.first c.args.second j c.ranges.mask.fits h e

pub returns-clause-small : goal.returns-clause-small
returns-clause-small c = choice_small c.args.mask c.args.first c.args.second c.ranges.first.fits c.ranges.second.fits
