use Rattle.std.proofs.Common.{◌≡◌, ◌+◌, subst}
use Rattle.ps_rules.specs.declared.sights.Kind.{Kind}
use Rattle.ps_rules.specs.declared.sights.Kind.TheVariants.{Free, Halves, Quarter, Other}
use Rattle.ps_rules.specs.Sights.{SeenAs}
use Rattle.ps_rules.proofs.Deciding.{refused, omega_kind}
use Rattle.ps_rules.proofs.checking.quarters.Goals as goal

pub returns-in-Free : goal.returns-in-Free
returns-in-Free c = refused _ (λ a. let e : Free ≡ Quarter = omega_kind c.args.sum.now c.args.y0 Free c.sight_of.result.pairs c.sight_of.result.wide c.if-y0-sum.false (subst (λ (k : Kind). SeenAs k (c.args.sum.now.n + c.args.y0) c.args.sum.now.outs c.args.sum.now.phase c.sight_of.result.pairs c.sight_of.result.wide) c.in-Free.is c.sight_of.ensures) a in cc)

pub returns-in-Halves : goal.returns-in-Halves
returns-in-Halves c = refused _ (λ a. let e : Halves ≡ Quarter = omega_kind c.args.sum.now c.args.y0 Halves c.sight_of.result.pairs c.sight_of.result.wide c.if-y0-sum.false (subst (λ (k : Kind). SeenAs k (c.args.sum.now.n + c.args.y0) c.args.sum.now.outs c.args.sum.now.phase c.sight_of.result.pairs c.sight_of.result.wide) c.in-Halves.is c.sight_of.ensures) a in cc)

pub returns-in-Other : goal.returns-in-Other
returns-in-Other c = refused _ (λ a. let e : Other ≡ Quarter = omega_kind c.args.sum.now c.args.y0 Other c.sight_of.result.pairs c.sight_of.result.wide c.if-y0-sum.false (subst (λ (k : Kind). SeenAs k (c.args.sum.now.n + c.args.y0) c.args.sum.now.outs c.args.sum.now.phase c.sight_of.result.pairs c.sight_of.result.wide) c.in-Other.is c.sight_of.ensures) a in cc)
