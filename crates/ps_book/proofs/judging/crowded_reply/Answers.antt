use Rattle.ps_journal.specs.Summing as summing
use Rattle.ps_book.proofs.judging.crowded_reply.Goals as goal

pub returns-in-Some-clause-told : goal.returns-in-Some-clause-told
returns-in-Some-clause-told c = summing.crowded c.in-Some.is

pub returns-in-None-clause-told : goal.returns-in-None-clause-told
returns-in-None-clause-told c = summing.not_crowded c.in-None.is
