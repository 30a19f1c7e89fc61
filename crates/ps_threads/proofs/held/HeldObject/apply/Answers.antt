use Rattle.std.proofs.Common.{rules, ◌≡◌, subst}
use Rattle.ps_journal.specs.History.{IsLegal}
use Rattle.ps_book.specs.Books.{entries}
use Rattle.ps_threads.proofs.held.HeldObject.apply.Goals as goal

pub returns-clause-lawful : goal.returns-clause-lawful
returns-clause-lawful c =
    let same : c.args.self.now.book.value ≡ c.deref_mut.result.now = search rules in
    λ w. c.apply.ensures.lawful (subst (λ b. IsLegal (entries b)) same w)
