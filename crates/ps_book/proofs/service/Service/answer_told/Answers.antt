use Rattle.std.proofs.Common.{sym, subst}
use Rattle.ps_journal.specs.Summing.{GivesUp}
use Rattle.ps_book.specs.Conclusions.{Concludes}
use Rattle.ps_book.specs.Services.{fields_of}
use Rattle.ps_book.proofs.Concluding.{gives_up, ends_none, wants_memory}
use Rattle.ps_book.proofs.service.Service.answer_told.Goals as goal

pub returns-in-Judged : goal.returns-in-Judged
returns-in-Judged c = subst (λ o. Concludes (fields_of c.args.self.now) c.args.pin.now o c.judged_told.result.reply) (sym c.in-Judged.is) c.judged_told.ensures

pub returns-in-Done : goal.returns-in-Done
returns-in-Done c =
    let f = fields_of c.args.self.now in
    subst (λ o. Concludes f c.args.pin.now o c.plain.result.reply) (sym c.in-Done.is) (ends_none f c.args.pin.now c.plain.result.reply c.plain.ensures)

pub returns-in-Starved : goal.returns-in-Starved
returns-in-Starved c = wants_memory (fields_of c.args.self.now) c.args.pin.now c.args.outcome.now c.plain-in-Starved.result.reply c.plain-in-Starved.ensures

pub returns-in-Crowded : goal.returns-in-Crowded
returns-in-Crowded c =
    let f = fields_of c.args.self.now in
    subst (λ o. Concludes f c.args.pin.now o c.plain-in-Crowded.result.reply) (sym c.in-Crowded.is)
    (gives_up f c.args.pin.now _ _ (subst (GivesUp c.args.pin.now _) (sym c.plain-in-Crowded.ensures) c.crowded_reply.ensures.told))
