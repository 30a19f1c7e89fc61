use Rattle.ps_rules.proofs.Keeps.{applied_keeps, applied_width}
use Rattle.ps_rules.proofs.applying.advance.Goals as goal

pub returns-in-Ok-taken-clause-kept : goal.returns-in-Ok-taken-clause-kept
returns-in-Ok-taken-clause-kept c = applied_keeps c.args.sum c.in-Ok-taken.done c.args.step c.args.sum.formed.0 c.requires.applies c.in-Ok-taken.ensures

pub returns-in-Ok-taken-clause-width : goal.returns-in-Ok-taken-clause-width
returns-in-Ok-taken-clause-width c = applied_width c.args.sum c.in-Ok-taken.done c.args.step c.in-Ok-taken.ensures
