use Rattle.std.proofs.Common.{subst, ◌+◌}
use Rattle.ps_rules.specs.declared.sights.Kind.{Kind}
use Rattle.ps_rules.specs.Sights.{SeenAs}
use Rattle.ps_rules.proofs.Deciding.{spoilt_none}
use Rattle.ps_rules.proofs.choosing.step_at.Goals as goal

pub returns-in-Other : goal.returns-in-Other
returns-in-Other c = spoilt_none c.args.sum.now c.args.y (subst (λ (k : Kind). SeenAs k (c.args.sum.now.n + c.args.y) c.args.sum.now.outs c.args.sum.now.phase c.args.sight.now.pairs c.args.sight.now.wide) c.in-Other.is c.requires.seen)
