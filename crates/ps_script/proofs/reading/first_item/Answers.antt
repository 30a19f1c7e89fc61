use Rattle.std.proofs.Common.{sym, ◌∙◌, arith}
use Rattle.std.proofs.lemmas.Result.{IfOk-weaker, IfErr-weaker}
use Rattle.ps_script.specs.Items.{asked_in}
use Rattle.ps_script.proofs.ReadLaws.{skip_leads, order_leads, form_read, order_fault}
use Rattle.ps_script.proofs.reading.first_item.Goals as goal

pub returns-then-is_skipped-clause-leads : goal.returns-then-is_skipped-clause-leads
returns-then-is_skipped-clause-leads c =
    let first = c.first_line-first in
    skip_leads c.args.number c.args.bytes.now c.requires.some first.result.line.now first.result.rest.now first.ensures.line first.ensures.rest
    (sym c.is_skipped.ensures ∙ c.if-is_skipped.true)

pub returns-in-None-clause-fault : goal.returns-in-None-clause-fault
returns-in-None-clause-fault c =
    let first = c.first_line-first in
    form_read c.args.number c.args.bytes.now c.requires.some first.result.line.now first.result.rest.now first.ensures.line first.ensures.rest
    (sym c.is_skipped.ensures ∙ c.if-is_skipped.false) c.in-None.ensures

pub returns-in-Some-clause-leads : goal.returns-in-Some-clause-leads
returns-in-Some-clause-leads c =
    let first = c.first_line-first in
    let s = c.in-Some.spelled in
    IfOk-weaker c.ordered.result _ _
    (λ i h. order_leads c.args.number c.args.bytes.now c.requires.some first.result.line.now first.result.rest.now first.ensures.line first.ensures.rest
    s.session s.order (asked_in i.line) _ i.rest.now (sym c.is_skipped.ensures ∙ c.if-is_skipped.false) c.in-Some.ensures h)
    c.ordered.ensures.leads

pub returns-in-Some-clause-shorter : goal.returns-in-Some-clause-shorter
returns-in-Some-clause-shorter c =
    let less = c.first_line-first.ensures.shorter in
    IfOk-weaker c.ordered.result _ _ (λ i h. omega (arith, h)) c.ordered.ensures.shorter

pub returns-in-Some-clause-fault : goal.returns-in-Some-clause-fault
returns-in-Some-clause-fault c =
    let first = c.first_line-first in
    let s = c.in-Some.spelled in
    IfErr-weaker c.ordered.result _ _
    (λ e h. order_fault c.args.number c.args.bytes.now c.requires.some first.result.line.now first.result.rest.now first.ensures.line first.ensures.rest
    s.session s.order e (sym c.is_skipped.ensures ∙ c.if-is_skipped.false) c.in-Some.ensures h)
    c.ordered.ensures.fault
