use Rattle.std.proofs.Common.{sym, subst}
use Rattle.ps_journal.specs.History.{IsLegal}
use Rattle.ps_history.specs.Commits.{CommitsWithin}
use Rattle.ps_history.proofs.CommittedBound.{commits_within}
use Rattle.ps_views.proofs.Once.{leads_one}
use Rattle.ps_book.specs.Services.{fields_of}
use Rattle.ps_book.proofs.Journals.{legal_of}
use Rattle.ps_book.proofs.book.Book.journal.Goals as goal

pub returns-clause-legal : goal.returns-clause-legal
returns-clause-legal c =
    let b = c.args.self.now in
    subst IsLegal (sym c.deref.ensures.value) (legal_of (fields_of b.service) b.journal.items b.lawful)

pub returns-clause-bounded : goal.returns-clause-bounded
returns-clause-bounded c =
    let b = c.args.self.now in
    subst CommitsWithin (sym c.deref.ensures.value) (commits_within leads_one b.journal.items (legal_of (fields_of b.service) b.journal.items b.lawful))
