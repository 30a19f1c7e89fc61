use Rattle.std.proofs.Common.{◌<◌, length, ap, subst, arith}
use Rattle.ps_journal.specs.History.{IsLegal}
use Rattle.ps_book.specs.Books.{entries}
use Rattle.ps_sessions.proofs.TurnLemmas.{alone_turned, never_refused}
use Rattle.ps_sessions.proofs.seats.AloneTurns.turn.Goals as goal

pub returns-clause-done : goal.returns-clause-done
returns-clause-done c =
    let seat = c.args.self.now in
    let below : length (entries seat.book.now) < 262144 = omega (arith, c.if-journal-ge-MOST_ENTRIES.false, ap length c.journal.ensures.value) in
    let legal : IsLegal (entries seat.book.now) = subst IsLegal c.journal.ensures.value c.journal.ensures.legal in
    alone_turned _ _ c.args.cmd c.apply.result c.apply.ensures.entry (c.apply.ensures.lawful legal) below
    (never_refused seat.refused (length (entries seat.book.now)) seat.late below)
