use Rattle.std.proofs.Common.{length, ap, sym, subst, arith}
use Rattle.ps_book.specs.Lawful.{IsLawful}
use Rattle.ps_book.specs.Services.{fields_of}
use Rattle.ps_book.proofs.Journals.{lawful_start}
use Rattle.ps_book.proofs.book.Book.new.Goals as goal

pub invariant_of-result : goal.invariant_of-result
invariant_of-result c =
    let f = fields_of c.new.result in
    record {
      few = omega (arith, ap length c.in_ok-journal.ensures.items);
      room = omega (arith, c.in_ok-journal.ensures.capacity);
      lawful = subst (λ es. ∥ IsLawful f es ∥₁) (sym c.in_ok-journal.ensures.items) (lawful_start f c.new.ensures);
    }
