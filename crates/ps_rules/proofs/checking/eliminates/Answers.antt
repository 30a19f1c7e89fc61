use Rattle.std.proofs.Common.{◌≡◌, ◌+◌, subst}
use Rattle.ps_rules.specs.declared.sights.Kind.{Kind}
use Rattle.ps_rules.specs.declared.sights.Kind.TheVariants.{Free, Quarter, Other}
use Rattle.ps_rules.specs.Sights.{SeenAs}
use Rattle.ps_rules.proofs.Deciding.{refused, elim_kind}
use Rattle.ps_rules.proofs.checking.eliminates.Goals as goal

pub returns-in-Quarter : goal.returns-in-Quarter
returns-in-Quarter c = refused _ (λ a. let e : Quarter ≡ Free = elim_kind c.args.sum.now c.args.y0 Quarter c.sight_of.result.pairs c.sight_of.result.wide c.if-y0-sum.false (subst (λ (k : Kind). SeenAs k (c.args.sum.now.n + c.args.y0) c.args.sum.now.outs c.args.sum.now.phase c.sight_of.result.pairs c.sight_of.result.wide) c.in-Quarter.is c.sight_of.ensures) a in cc)

pub returns-in-Other : goal.returns-in-Other
returns-in-Other c = refused _ (λ a. let e : Other ≡ Free = elim_kind c.args.sum.now c.args.y0 Other c.sight_of.result.pairs c.sight_of.result.wide c.if-y0-sum.false (subst (λ (k : Kind). SeenAs k (c.args.sum.now.n + c.args.y0) c.args.sum.now.outs c.args.sum.now.phase c.sight_of.result.pairs c.sight_of.result.wide) c.in-Other.is c.sight_of.ensures) a in cc)
