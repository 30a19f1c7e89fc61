use Rattle.std.proofs.Common.{sym, subst, refl}
use Rattle.ps_journal.specs.Summing.{GivesUp}
use Rattle.ps_book.specs.Conclusions.{ConcludesSum}
use Rattle.ps_book.specs.Services.{fields_of}
use Rattle.ps_book.proofs.Concluding.{sum_gives_up, sum_judged}
use Rattle.ps_book.proofs.Summed.{sum_starved}
use Rattle.ps_book.proofs.service.Service.sum_told.Goals as goal

pub returns-in-Judged : goal.returns-in-Judged
returns-in-Judged c =
    let f = fields_of c.args.self.now in
    subst (λ o. ConcludesSum f c.args.pin.now o c.plain.result.reply) (sym c.in-Judged.is)
    (sum_judged f c.args.pin.now _ _ c.plain.result.reply c.plain.ensures)

pub done_told-requires : goal.done_told-requires
done_told-requires c = c.requires.first

pub returns-in-Done : goal.returns-in-Done
returns-in-Done c =
    let f = fields_of c.args.self.now in
    subst (λ o. ConcludesSum f c.args.pin.now o c.done_told.result.reply) (sym c.in-Done.is) (c.done_told.ensures c.args.pin.now refl)

pub returns-in-Starved : goal.returns-in-Starved
returns-in-Starved c =
    let f = fields_of c.args.self.now in
    sum_starved f c.args.pin.now c.args.outcome.now c.plain-in-Starved.result.reply c.plain-in-Starved.ensures

pub returns-in-Crowded : goal.returns-in-Crowded
returns-in-Crowded c =
    let f = fields_of c.args.self.now in
    subst (λ o. ConcludesSum f c.args.pin.now o c.plain-in-Crowded.result.reply) (sym c.in-Crowded.is)
    (sum_gives_up f c.args.pin.now _ _ (subst (GivesUp c.args.pin.now _) (sym c.plain-in-Crowded.ensures) c.crowded_reply.ensures.told))
