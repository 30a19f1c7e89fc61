use Rattle.std.proofs.Common.{arith, refl, sym, ◌∙◌, ap, ◌-◌}
use Rattle.ps_phase.specs.declared.terms.Term.{Term}
use Rattle.ps_phase.proofs.Weaves.{wove_both, wove_none}
use Rattle.ps_phase.proofs.weaving.met.Goals as goal

pub returns-then-units-eq0 : goal.returns-then-units-eq0
returns-then-units-eq0 c xs ys fx fy e s = (
  wove_none xs ys c.args.place.left c.args.place.more c.args.place.from (c.args.place.left - 1) (c.args.place.more - 1) c.add-phase.result c.index.result.now c.args.other.now c.args.terms.now.items
      (omega (arith, c.requires.some)) (omega (arith, c.requires.more)) c.index.ensures e (ap (λ (t : Term). t.mono) c.index.ensures ∙ c.requires.same c.index.result.now) c.add-phase.ensures (sym c.units.ensures ∙ c.if-units-eq0.true) s,
  omega (arith, c.requires.some),
  omega (arith, c.requires.more),
)

pub returns : goal.returns
returns c xs ys fx fy e s = (
  wove_both xs ys c.args.place.left c.args.place.more c.args.place.from (c.args.place.left - 1) (c.args.place.more - 1) (c.args.place.from - 1) c.add-phase.result c.index.result.now c.args.other.now c.args.terms.now.items _ fx fy
      (omega (arith, c.requires.some)) (omega (arith, c.requires.more)) (omega (arith, c.requires.more, c.requires.left)) c.index.ensures e (ap (λ (t : Term). t.mono) c.index.ensures ∙ c.requires.same c.index.result.now) c.add-phase.ensures
      (λ z. c.if-units-eq0.false (c.units.ensures ∙ z)) refl s,
  omega (arith, c.requires.some),
  omega (arith, c.requires.more),
)
