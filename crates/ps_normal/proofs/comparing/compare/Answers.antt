use Rattle.std.proofs.Common.{◌≡◌, ap, sym, ◌∙◌, subst}
use Rattle.ps_reach.specs.declared.record.Record.{Record}
use Rattle.ps_reach.specs.Judging.{IsJudged}
use Rattle.ps_normal.proofs.Finding.{judged_right, compares_at}
use Rattle.ps_normal.proofs.comparing.compare.Goals as goal

pub invariant_of-result : goal.invariant_of-result
invariant_of-result c =
    let e : c.in_ok-first.first.value.n ≡ c.in_ok-second.second.value.n = ap (λ (r : Record). r.n) c.in_ok-first.ensures ∙ c.requires.same ∙ sym (ap (λ (r : Record). r.n) c.in_ok-second.ensures) in
    record {
      same = e;
      right = subst (λ ss. ∥ IsJudged c.in_ok-first.first.value c.in_ok-second.second.value c.args.mode ss c.in_ok-found.found.verdict ∥₁) (sym c.from_vec.ensures)
          (judged_right c.args.mode c.in_ok-first.first.value c.in_ok-second.second.value _ c.in_ok-found.found.verdict e
          (compares_at c.args.mode _ _ c.in_ok-first.first.value c.in_ok-second.second.value _ _ (c.deref.ensures ∙ sym c.in_ok-first.ensures) (c.deref-2.ensures ∙ sym c.in_ok-second.ensures) c.in_ok-found.ensures));
    }
