use Rattle.std.proofs.Common.{ℕ, List, refl, ap₂}
use Rattle.ps_script.specs.declared.order.Order.{Order}
use Rattle.ps_script.proofs.ReadLaws.{session_read, block_read, body_leads}
use Rattle.ps_script.proofs.reading.ordered.Goals as goal

pub returns-then-spelled-gt-LAST_SESSION-clause-fault : goal.returns-then-spelled-gt-LAST_SESSION-clause-fault
returns-then-spelled-gt-LAST_SESSION-clause-fault c =
    session_read c.args.number c.args.spelled.now.session c.args.spelled.now.order c.args.bytes.now c.if-spelled-gt-LAST_SESSION.true

pub returns-in-None-clause-fault : goal.returns-in-None-clause-fault
returns-in-None-clause-fault c =
    block_read c.args.number c.args.spelled.now.session c.args.spelled.now.order c.args.bytes.now c.if-spelled-gt-LAST_SESSION.false c.in-None.ensures.body

pub returns-in_ok-command-in-Some-clause-leads : goal.returns-in_ok-command-in-Some-clause-leads
returns-in_ok-command-in-Some-clause-leads c =
    let s = c.args.spelled.now in
    let b = c.in-Some.body in
    let made = c.in_ok-command-in-Some.ensures in
    body_leads c.args.number s.session s.order c.args.bytes.now b.text.now b.lines b.rest.now _ _ c.if-spelled-gt-LAST_SESSION.false c.in-Some.ensures.body
    (ap₂ (λ (o : Order) (text : List ℕ). record { session = s.session; order = o; block = text }) made.order made.block) refl
