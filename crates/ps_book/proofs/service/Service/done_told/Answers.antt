use Rattle.std.proofs.Common.{sym, ◌∙◌}
use Rattle.ps_journal.specs.declared.commands.Outcome.TheVariants.{Done}
use Rattle.ps_book.specs.Services.{fields_of}
use Rattle.ps_book.proofs.Giving.{kept_there}
use Rattle.ps_book.proofs.Summed.{done_unsettled, done_settled, sum_starved}
use Rattle.ps_book.proofs.service.Service.done_told.Goals as goal

pub settled-requires : goal.settled-requires
settled-requires c = kept_there (fields_of c.args.self.now) c.args.place.now c.requires

pub missing_of-requires : goal.missing_of-requires
missing_of-requires c = kept_there (fields_of c.args.self.now) c.args.place.now c.requires

pub returns-then-not-settled : goal.returns-then-not-settled
returns-then-not-settled c =
    let s = c.args.self.now in
    done_unsettled (fields_of s) s.sound c.args.place.now c.requires c.missing_of.result c.plain.result.reply c.plain.ensures
    (sym c.settled.ensures ∙ c.if-not-settled.true) c.missing_of.ensures

pub record_told-requires-clause-settled : goal.record_told-requires-clause-settled
record_told-requires-clause-settled c = sym c.settled.ensures ∙ c.if-not-settled.false

pub returns-in-Ok : goal.returns-in-Ok
returns-in-Ok c =
    let s = c.args.self.now in
    done_settled (fields_of s) s.sound c.args.place.now c.requires c.in-Ok.told.reply (sym c.settled.ensures ∙ c.if-not-settled.false) c.in-Ok.ensures

pub returns-in-Err : goal.returns-in-Err
returns-in-Err c = λ pin first. sum_starved (fields_of c.args.self.now) pin Done c.plain-in-Err.result.reply c.plain-in-Err.ensures
