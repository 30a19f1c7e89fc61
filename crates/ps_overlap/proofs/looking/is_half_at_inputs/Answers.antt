use Rattle.std.proofs.Common.{inl, inr, refl, sym, ◌∙◌}
use Rattle.ps_overlap.proofs.Halves.{half_is, no_half}
use Rattle.ps_overlap.proofs.looking.is_half_at_inputs.Goals as goal
use Rattle.ps_overlap.proofs.looking.is_half_at_inputs.Goals.{then-degree-eq0-via-then-degree-eq0, then-degree-eq0-via-else-degree-eq0+then-units}

pub returns-then-degree-eq0 : goal.returns-then-degree-eq0
returns-then-degree-eq0 c = λ v l s.
    elim c.then-degree-eq0.branch [
      | then-degree-eq0-via-then-degree-eq0 w ↦ no_half c.args.n v c.args.term.now c.degree-degree.result c.args.term.now.phase c.degree-degree.ensures refl s (inl w.if-degree-eq0.true)
      | then-degree-eq0-via-else-degree-eq0+then-units w ↦ no_half c.args.n v c.args.term.now c.degree-degree.result w.units.result c.degree-degree.ensures w.units.ensures s (inr w.if-units.true)
    ]

pub returns : goal.returns
returns c = λ v l s. half_is c.args.n v c.args.term.now c.args.inputs.now c.removed.result c.var_at-last.result c.degree-degree.result c.holds.result c.known.ensures l s (sym c.units.ensures ∙ c.if-units.false) c.degree-degree.ensures c.var_at-last.ensures.value c.requires c.removed.ensures.members c.holds.ensures
