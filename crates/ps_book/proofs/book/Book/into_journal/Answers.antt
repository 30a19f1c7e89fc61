use Rattle.ps_history.proofs.CommittedBound.{commits_within}
use Rattle.ps_views.proofs.Once.{leads_one}
use Rattle.ps_book.specs.Services.{fields_of}
use Rattle.ps_book.proofs.Journals.{legal_of}
use Rattle.ps_book.proofs.book.Book.into_journal.Goals as goal

pub returns-clause-legal : goal.returns-clause-legal
returns-clause-legal c =
    let b = c.args.self in
    legal_of (fields_of b.service) b.journal.items b.lawful

pub returns-clause-bounded : goal.returns-clause-bounded
returns-clause-bounded c =
    let b = c.args.self in
    commits_within leads_one b.journal.items (legal_of (fields_of b.service) b.journal.items b.lawful)
