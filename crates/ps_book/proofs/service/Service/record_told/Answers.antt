use Rattle.std.proofs.Common.{ap, ◌∙◌}
use Rattle.std.proofs.lemmas.Result.{IfOk-weaker}
use Rattle.ps_journal.specs.declared.replies.Reply.TheVariants.{SumIs}
use Rattle.ps_book.proofs.service.Service.record_told.Goals as goal

pub returns : goal.returns
returns c = IfOk-weaker c.shared.result _ _ (λ told e. record {
  sum = c.in_ok-record.record.value;
  reply = e
      ∙ ap SumIs c.of.ensures;
  comes = c.in_ok-record.ensures;
}) c.shared.ensures
