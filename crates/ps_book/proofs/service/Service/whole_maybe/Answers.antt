use Rattle.std.proofs.Common.{sym, subst}
use Rattle.std.specs.Prelude.{Some, None}
use Rattle.ps_journal.specs.Claiming.{SecondComesTo}
use Rattle.ps_journal.specs.Summing.{ComesToAt}
use Rattle.ps_book.proofs.service.Service.whole_maybe.Goals as goal

pub returns-in-None : goal.returns-in-None
returns-in-None c = λ t so. subst (λ o. SecondComesTo t o None) (sym c.in-None.is) tt

pub whole_at-requires-clause-kept : goal.whole_at-requires-clause-kept
whole_at-requires-clause-kept c = c.requires.kept c.in-Some.place c.in-Some.is

pub whole_at-requires-clause-settled : goal.whole_at-requires-clause-settled
whole_at-requires-clause-settled c = c.requires.settled c.in-Some.place c.in-Some.is

pub returns-in_ok-record-in-Some : goal.returns-in_ok-record-in-Some
returns-in_ok-record-in-Some c =
    λ t so. subst (λ o. SecondComesTo t o (Some c.of.result)) (sym c.in-Some.is)
    (subst (ComesToAt t c.in-Some.place) (sym c.of.ensures) (c.in_ok-record-in-Some.ensures t so))
