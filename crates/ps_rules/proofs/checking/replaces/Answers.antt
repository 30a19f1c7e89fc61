use Rattle.std.proofs.Common.{◌≡◌, ◌+◌, subst}
use Rattle.ps_rules.specs.declared.sights.Kind.{Kind}
use Rattle.ps_rules.specs.declared.sights.Kind.TheVariants.{Free, Halves, Quarter, Other}
use Rattle.ps_rules.specs.Sights.{SeenAs}
use Rattle.ps_rules.proofs.Deciding.{refused, hh_kind, hh_answer}
use Rattle.ps_rules.proofs.checking.replaces.Goals as goal

pub returns-in-Free : goal.returns-in-Free
returns-in-Free c = refused _ (λ a. let e : Free ≡ Halves = hh_kind c.args.sum.now c.args.y0 c.args.y1 Free c.sight_of-sight.result.pairs c.sight_of-sight.result.wide c.if-y0-sum.false (subst (λ (k : Kind). SeenAs k (c.args.sum.now.n + c.args.y0) c.args.sum.now.outs c.args.sum.now.phase c.sight_of-sight.result.pairs c.sight_of-sight.result.wide) c.in-Free.is c.sight_of-sight.ensures) a in cc)

pub returns-in-Quarter : goal.returns-in-Quarter
returns-in-Quarter c = refused _ (λ a. let e : Quarter ≡ Halves = hh_kind c.args.sum.now c.args.y0 c.args.y1 Quarter c.sight_of-sight.result.pairs c.sight_of-sight.result.wide c.if-y0-sum.false (subst (λ (k : Kind). SeenAs k (c.args.sum.now.n + c.args.y0) c.args.sum.now.outs c.args.sum.now.phase c.sight_of-sight.result.pairs c.sight_of-sight.result.wide) c.in-Quarter.is c.sight_of-sight.ensures) a in cc)

pub returns-in-Other : goal.returns-in-Other
returns-in-Other c = refused _ (λ a. let e : Other ≡ Halves = hh_kind c.args.sum.now c.args.y0 c.args.y1 Other c.sight_of-sight.result.pairs c.sight_of-sight.result.wide c.if-y0-sum.false (subst (λ (k : Kind). SeenAs k (c.args.sum.now.n + c.args.y0) c.args.sum.now.outs c.args.sum.now.phase c.sight_of-sight.result.pairs c.sight_of-sight.result.wide) c.in-Other.is c.sight_of-sight.ensures) a in cc)

pub returns-in-Halves : goal.returns-in-Halves
returns-in-Halves c = hh_answer c.args.sum.now c.args.y0 c.args.y1 c.pairs_with.result c.sight_of-sight.result.pairs c.sight_of-sight.result.wide c.if-y0-sum.false
    (subst (λ (k : Kind). SeenAs k (c.args.sum.now.n + c.args.y0) c.args.sum.now.outs c.args.sum.now.phase c.sight_of-sight.result.pairs c.sight_of-sight.result.wide) c.in-Halves.is c.sight_of-sight.ensures) c.pairs_with.ensures
