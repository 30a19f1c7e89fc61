use Rattle.std.proofs.Common.{ap, sym, ◌∙◌, subst, length}
use Rattle.ps_phase.specs.declared.terms.Term.{Term}
use Rattle.ps_overlap.specs.Overlapping.{HasVariable}
use Rattle.ps_overlap.proofs.Turning.{second_turning, first_turning, some_behind, some_there, turning_no_turn, terms_at}
use Rattle.ps_overlap.proofs.points.turning_point.Goals as goal

pub bounds-terms-0 : goal.bounds-terms-0
bounds-terms-0 c = some_there _ (subst HasVariable (sym c.terms-terms.ensures.value) c.requires)

pub bounds-terms-1 : goal.bounds-terms-1
bounds-terms-1 c = some_behind _ c.index-terms-0.result (subst HasVariable (sym c.terms-terms.ensures.value) c.requires) c.index-terms-0.is (ap (λ (x : Term). length x.mono) c.index-terms-0.is ∙ sym c.degree.ensures ∙ c.if-degree-eq0.true)

pub returns-then-degree-eq0-clause-point : goal.returns-then-degree-eq0-clause-point
returns-then-degree-eq0-clause-point c =
    second_turning c.args.sum.now.phase c.index-terms-0.result c.index-terms-1.result c.true_in.result c.terms-terms.ensures.form
    (some_behind c.args.sum.now.phase c.index-terms-0.result c.requires (terms_at _ _ 0 _ c.terms-terms.ensures.value c.index-terms-0.is) (ap (λ (x : Term). length x.mono) c.index-terms-0.is ∙ sym c.degree.ensures ∙ c.if-degree-eq0.true))
    (terms_at _ _ 0 _ c.terms-terms.ensures.value c.index-terms-0.is) (terms_at _ _ 1 _ c.terms-terms.ensures.value c.index-terms-1.is) (ap (λ (x : Term). length x.mono) c.index-terms-0.is ∙ sym c.degree.ensures ∙ c.if-degree-eq0.true) (c.true_in.ensures ∙ ap (λ (x : Term). x.mono) (sym c.index-terms-1.is))

pub returns-then-degree-eq0-clause-apart : goal.returns-then-degree-eq0-clause-apart
returns-then-degree-eq0-clause-apart c m o p h g = turning_no_turn c.args.sum.now c.true_in.result p o m (returns-then-degree-eq0-clause-point c) h g

pub returns-else-degree-eq0-clause-point : goal.returns-else-degree-eq0-clause-point
returns-else-degree-eq0-clause-point c =
    first_turning c.args.sum.now.phase c.index-terms-0.result c.true_in-else-degree-eq0.result c.terms-terms.ensures.form (some_there c.args.sum.now.phase c.requires)
    (terms_at _ _ 0 _ c.terms-terms.ensures.value c.index-terms-0.is) (λ z. c.if-degree-eq0.false (c.degree.ensures ∙ ap (λ (x : Term). length x.mono) (sym c.index-terms-0.is) ∙ z)) (c.true_in-else-degree-eq0.ensures ∙ ap (λ (x : Term). x.mono) (sym c.index-terms-0.is))

pub returns-else-degree-eq0-clause-apart : goal.returns-else-degree-eq0-clause-apart
returns-else-degree-eq0-clause-apart c m o p h g = turning_no_turn c.args.sum.now c.true_in-else-degree-eq0.result p o m (returns-else-degree-eq0-clause-point c) h g
