use Rattle.ps_book.specs.Services.{fields_of}
use Rattle.ps_book.proofs.MissingLaws.{stands_there, misses}
use Rattle.ps_book.proofs.book.Book.missing.Goals as goal

pub returns : goal.returns
returns c t leads =
    let b = c.args.self.now in
    let f = fields_of b.service in
    misses f b.service.sound t (record { name = c.args.name; version = c.args.version }) c.missing.result c.missing.ensures
    (stands_there f b.journal.items t leads b.lawful)
