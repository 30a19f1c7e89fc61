use Rattle.std.proofs.Common.{sym, subst, ◌++◌, ◌∷◌, []}
use Rattle.ps_rules.specs.declared.sights.Kind.{Kind}
use Rattle.ps_rules.specs.Sights.{SeenAs}
use Rattle.ps_rules.proofs.Seeing.{spoilt_more, free_halves, halves_halves}
use Rattle.ps_rules.proofs.sights.seen.Goals as goal

pub returns-in-Other : goal.returns-in-Other
returns-in-Other c = λ v outs ts p s h. subst (λ (k : Kind). SeenAs k v outs (ts ++ c.args.term.now ∷ []) c.args.sight.now.pairs c.args.sight.now.wide) (sym c.in-Other.is)
    (spoilt_more v outs ts (c.args.term.now ∷ []) (subst (λ (k : Kind). SeenAs k v outs ts c.args.sight.now.pairs c.args.sight.now.wide) c.in-Other.is h))

pub returns-in-Quarter : goal.returns-in-Quarter
returns-in-Quarter c = λ v outs ts p s h. c.with_quarter.ensures v outs ts p s (subst (λ (k : Kind). SeenAs k v outs ts c.args.sight.now.pairs c.args.sight.now.wide) c.in-Quarter.is h)

pub returns-in-Free : goal.returns-in-Free
returns-in-Free c = λ v outs ts p s h. c.with_halves.ensures v outs ts p s (free_halves v outs ts c.args.sight.now.pairs c.args.sight.now.wide (subst (λ (k : Kind). SeenAs k v outs ts c.args.sight.now.pairs c.args.sight.now.wide) c.in-Free.is h))

pub returns-in-Halves : goal.returns-in-Halves
returns-in-Halves c = λ v outs ts p s h. c.with_halves-in-Halves.ensures v outs ts p s (halves_halves v outs ts c.args.sight.now.pairs c.args.sight.now.wide (subst (λ (k : Kind). SeenAs k v outs ts c.args.sight.now.pairs c.args.sight.now.wide) c.in-Halves.is h))
