use Rattle.std.proofs.Common.{◌∙◌, sym, subst, ◌++◌, ◌∷◌, []}
use Rattle.ps_rules.specs.declared.sights.Kind.{Kind}
use Rattle.ps_rules.specs.Sights.{SeenAs}
use Rattle.ps_rules.proofs.Seeing.{quartered_half, quartered_other}
use Rattle.ps_rules.proofs.sights.with_quarter.Goals as goal

pub returns-then-units : goal.returns-then-units
returns-then-units c = λ v outs ts p s q. quartered_other v outs ts c.args.term.now p s (λ e. c.if-units.true (c.units.ensures ∙ e)) q

pub returns-else-units : goal.returns-else-units
returns-else-units c = λ v outs ts p s q. subst (λ (k : Kind). SeenAs k v outs (ts ++ c.args.term.now ∷ []) c.args.sight.now.pairs c.args.sight.now.wide) (sym c.requires) (quartered_half v outs ts c.args.term.now (sym c.units.ensures ∙ c.if-units.false) q)
