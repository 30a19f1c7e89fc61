use Rattle.std.proofs.Common.{refl}
use Rattle.ps_normal.proofs.Finding.{closed_ended, found_shown, found_over}
use Rattle.ps_normal.proofs.comparing.reduced.Goals as goal

pub shown-requires : goal.shown-requires
shown-requires c = closed_ended c.args.sum c.in-Normal.sum _ c.in_ok-sum.field-0 c.in-Normal.is c.in_ok-sum.ensures.ended c.requires.closed

pub returns-in-Normal : goal.returns-in-Normal
returns-in-Normal c = found_shown c.args.mode c.args.sum c.in-Normal.sum _ c.in_ok-sum.field-0 c.shown.result c.in-Normal.is c.in_ok-sum.ensures.ended refl c.shown.ensures

pub returns-in_ok-evidence-in-Over : goal.returns-in_ok-evidence-in-Over
returns-in_ok-evidence-in-Over c = found_over c.args.mode c.args.sum c.in-Over.sum c.in-Over.passed _ c.in_ok-sum.field-0 c.in_ok-evidence-in-Over.evidence c.in-Over.is c.in_ok-sum.ensures.ended refl c.in_ok-evidence-in-Over.ensures
