use Rattle.std.proofs.Common.{◌≡◌, ◌∙◌, ap, sym, subst, true, List}
use Rattle.ps_steps.specs.declared.lines.Line.{Line}
use Rattle.ps_steps.specs.Steps.{is_derivation}
use Rattle.ps_reach.specs.declared.record.Record.{Record}
use Rattle.ps_reach.specs.Runs.{AllItems}
use Rattle.ps_normal.proofs.Ordered.{judged_ordered}
use Rattle.ps_normal.proofs.Derived.{derivation_holds}
use Rattle.ps_normal.proofs.derivations.derive.Goals as goal

pub invariant_of-result : goal.invariant_of-result
invariant_of-result c = record {
  form = subst (λ (ls : List Line). is_derivation ls ≡ true) (sym c.in_ok-lines.ensures)
      (judged_ordered c.args.judged.now c.requires.yes
      (subst AllItems (c.deref-2.ensures ∙ ap (λ (r : Record). r.items.value) c.deref.ensures) c.as_slice-first.ensures.bounded)
      (subst AllItems (c.deref-4.ensures ∙ ap (λ (r : Record). r.items.value) c.deref-3.ensures) c.as_slice-second.ensures.bounded));
}

pub returns-clause-holds : goal.returns-clause-holds
returns-clause-holds c = derivation_holds c.args.judged.now c.in_ok-lines.lines c.in_ok-lines.ensures c.requires.yes
