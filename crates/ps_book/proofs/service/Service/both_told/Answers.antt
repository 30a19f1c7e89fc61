use Rattle.std.proofs.Common.{ap, ◌∙◌}
use Rattle.std.proofs.lemmas.Result.{IfOk-weaker}
use Rattle.ps_journal.specs.declared.replies.Reply.TheVariants.{Settled}
use Rattle.ps_book.proofs.service.Service.both_told.Goals as goal

pub whole_at-requires-clause-kept : goal.whole_at-requires-clause-kept
whole_at-requires-clause-kept c = c.requires.pinned.first

pub whole_at-requires-clause-settled : goal.whole_at-requires-clause-settled
whole_at-requires-clause-settled c = c.requires.settled.first

pub whole_maybe-requires-clause-kept : goal.whole_maybe-requires-clause-kept
whole_maybe-requires-clause-kept c = c.requires.pinned.second

pub whole_maybe-requires-clause-settled : goal.whole_maybe-requires-clause-settled
whole_maybe-requires-clause-settled c = c.requires.settled.second

pub returns : goal.returns
returns c =
    IfOk-weaker c.shared.result _ _
    (λ told e. record {
      first = c.in_ok-whole_at.field-0.value;
      second = c.in_ok-second.second;
      reply = e ∙ ap (λ a. Settled a c.in_ok-second.second) c.of-first.ensures;
      first_comes = c.in_ok-whole_at.ensures;
      second_comes = c.in_ok-second.ensures;
    })
    c.shared.ensures
