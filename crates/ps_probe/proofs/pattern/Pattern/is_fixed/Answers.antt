use Rattle.ps_probe.proofs.Marks.{fixed_at}
use Rattle.ps_probe.proofs.pattern.Pattern.is_fixed.Goals as goal

pub returns-then-i-self : goal.returns-then-i-self
returns-then-i-self c = fixed_at c.args.self.now c.args.i c.if-i-self.true
