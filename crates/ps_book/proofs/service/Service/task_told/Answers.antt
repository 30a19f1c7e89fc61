use Rattle.std.proofs.Common.{◌≡◌, ap, ◌∙◌, refl}
use Rattle.std.proofs.lemmas.Result.{IfOk-weaker}
use Rattle.ps_reach.specs.declared.task.Task.{Task as ATask}
use Rattle.ps_journal.specs.declared.replies.Reply.TheVariants.{Task}
use Rattle.ps_views.specs.Tasks.{TellsTask}
use Rattle.ps_book.specs.Services.{fields_of}
use Rattle.ps_book.proofs.service.Service.task_told.Goals as goal

pub returns : goal.returns
returns c =
    let task : ATask = record { seat = c.args.seat; claim = c.args.number; n = c.qubits_at.result; work = c.in_ok-work.work } in
    IfOk-weaker c.shared.result (λ told. told.reply ≡ Task c.in_ok-new.field-0)
    (λ told. TellsTask (fields_of c.args.self.now) c.args.number c.args.seat c.args.ready.now told.reply)
    (λ told e. record {
      task = task;
      reply = e ∙ ap Task c.in_ok-new.ensures;
      is = record { seat_is = refl; claim_is = refl; qubits = c.qubits_at.ensures; work = c.in_ok-work.ensures };
    })
    c.shared.ensures
