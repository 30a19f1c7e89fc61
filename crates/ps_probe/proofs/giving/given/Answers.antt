use Rattle.std.proofs.Common.{subst, ap, sym, ◌∙◌, refl}
use Rattle.std.proofs.lemmas.Result.{IfOk-weaker}
use Rattle.ps_reach.specs.Runs.{AllItems}
use Rattle.ps_reach.specs.declared.record.Record.{Record}
use Rattle.ps_normal.proofs.Finding.{records_comparable}
use Rattle.ps_normal.proofs.Pairs.{record_usable}
use Rattle.ps_probe.specs.Giving.{found_by}
use Rattle.ps_probe.proofs.Shown.{first_passed, second_passed, both_sums, records_justified}
use Rattle.ps_probe.proofs.giving.given.Goals as goal

pub overlapped-requires-clause-sums : goal.overlapped-requires-clause-sums
overlapped-requires-clause-sums c = records_comparable c.args.first.now.value c.args.second.now.value c.in-Sum.before c.in-Sum-body.behind c.requires.same
    (subst AllItems (c.deref-2.ensures ∙ ap (λ (r : Record). r.items.value) c.deref.ensures) c.as_slice-first.ensures.bounded) (subst AllItems (c.deref-4.ensures ∙ ap (λ (r : Record). r.items.value) c.deref-3.ensures) c.as_slice-second.ensures.bounded)
    (sym (ap (λ (r : Record). r.body) c.deref-5.ensures) ∙ c.in-Sum.is) (sym (ap (λ (r : Record). r.body) c.deref-in-Sum.ensures) ∙ c.in-Sum-body.is)

pub overlapped-requires-clause-inputs : goal.overlapped-requires-clause-inputs
overlapped-requires-clause-inputs c = c.requires.inputs ∙ sym (record_usable c.args.first.now.value.n c.args.first.now.value c.in-Sum.before refl (sym (ap (λ (r : Record). r.body) c.deref-5.ensures) ∙ c.in-Sum.is)).n_is

pub returns-in_ok-shared-in-Passed-clause-found : goal.returns-in_ok-shared-in-Passed-clause-found
returns-in_ok-shared-in-Passed-clause-found c = first_passed c.args.pattern.now c.args.first.now.value c.args.second.now.value c.in-Passed.evidence _ (sym (ap (λ (r : Record). r.body) c.deref-5.ensures) ∙ c.in-Passed.is) c.in_ok-shared-in-Passed.ensures

pub returns-in_ok-shared-in-Passed-clause-justified : goal.returns-in_ok-shared-in-Passed-clause-justified
returns-in_ok-shared-in-Passed-clause-justified c = records_justified c.args.pattern.now c.args.first.now.value c.args.second.now.value _ c.requires.same c.requires.inputs (returns-in_ok-shared-in-Passed-clause-found c)

pub returns-in_ok-shared-in-Passed-body-clause-found : goal.returns-in_ok-shared-in-Passed-body-clause-found
returns-in_ok-shared-in-Passed-body-clause-found c = second_passed c.args.pattern.now c.args.first.now.value c.args.second.now.value c.in-Sum.before c.in-Passed-body.evidence _ (sym (ap (λ (r : Record). r.body) c.deref-5.ensures) ∙ c.in-Sum.is)
    (sym (ap (λ (r : Record). r.body) c.deref-in-Sum.ensures) ∙ c.in-Passed-body.is) c.in_ok-shared-in-Passed-body.ensures

pub returns-in_ok-shared-in-Passed-body-clause-justified : goal.returns-in_ok-shared-in-Passed-body-clause-justified
returns-in_ok-shared-in-Passed-body-clause-justified c = records_justified c.args.pattern.now c.args.first.now.value c.args.second.now.value _ c.requires.same c.requires.inputs (returns-in_ok-shared-in-Passed-body-clause-found c)

pub returns-in-Sum-body-clause-found : goal.returns-in-Sum-body-clause-found
returns-in-Sum-body-clause-found c = IfOk-weaker c.overlapped.result _ _
    (λ g h. both_sums c.args.pattern.now c.args.first.now.value c.args.second.now.value c.in-Sum.before c.in-Sum-body.behind (found_by g) (sym (ap (λ (r : Record). r.body) c.deref-5.ensures) ∙ c.in-Sum.is) (sym (ap (λ (r : Record). r.body) c.deref-in-Sum.ensures) ∙ c.in-Sum-body.is) h) c.overlapped.ensures

pub returns-in-Sum-body-clause-justified : goal.returns-in-Sum-body-clause-justified
returns-in-Sum-body-clause-justified c = IfOk-weaker c.overlapped.result _ _
    (λ g h. records_justified c.args.pattern.now c.args.first.now.value c.args.second.now.value (found_by g) c.requires.same c.requires.inputs
    (both_sums c.args.pattern.now c.args.first.now.value c.args.second.now.value c.in-Sum.before c.in-Sum-body.behind (found_by g) (sym (ap (λ (r : Record). r.body) c.deref-5.ensures) ∙ c.in-Sum.is) (sym (ap (λ (r : Record). r.body) c.deref-in-Sum.ensures) ∙ c.in-Sum-body.is) h)) c.overlapped.ensures
