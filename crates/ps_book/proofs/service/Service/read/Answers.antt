use Rattle.std.proofs.Common.{sym, subst}
use Rattle.ps_views.specs.Stands.{Leaves}
use Rattle.ps_book.specs.Services.{fields_of}
use Rattle.ps_book.specs.Wanting.{ReadsOr}
use Rattle.ps_book.proofs.ShownItems.{reads_refused}
use Rattle.ps_book.proofs.service.Service.read.Goals as goal

pub returns-in-Err : goal.returns-in-Err
returns-in-Err c =
    let s = c.args.self.now in
    let p = c.args.place.now in
    λ t so.
    subst (λ r. Leaves (λ new. ReadsOr t p r new) (fields_of s)) (sym c.plain.ensures)
    (record { state = t; does_so = reads_refused (fields_of s) t s.sound so p c.in-Err.reply (c.in-Err.ensures.told t so); stands = so })
