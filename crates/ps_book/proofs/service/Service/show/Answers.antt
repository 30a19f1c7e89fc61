use Rattle.std.proofs.Common.{◌≡◌, ◌≤◌, ◌+◌, length, sym, subst, arith}
use Rattle.ps_journal.specs.State.{with_terms}
use Rattle.ps_views.specs.Stands.{Leaves}
use Rattle.ps_book.specs.Services.{fields_of}
use Rattle.ps_book.specs.Wanting.{ReadsOr}
use Rattle.ps_book.specs.Contents.{contents_at}
use Rattle.ps_book.proofs.Terms.{more_stands}
use Rattle.ps_book.proofs.ShownItems.{length-contents, reads_crowded, reads_shown}
use Rattle.ps_book.proofs.service.Service.show.Goals as goal
use Rattle.ps_book.proofs.service.Service.show.Goals.{After-from}

counted : (c : After-from) → length (contents_at (fields_of c.args.self.now) c.args.place.now) ≡ c.from.result
counted c = omega (arith, c.from.ensures, c.len_at.ensures.value, length-contents (fields_of c.args.self.now) c.args.place.now)

pub returns-then-total-gt-MOST_TERMS : goal.returns-then-total-gt-MOST_TERMS
returns-then-total-gt-MOST_TERMS c =
    let s = c.args.self.now in
    let p = c.args.place.now in
    let total = s.terms + c.from.result in
    let same = counted (goal.at.returns-then-total-gt-MOST_TERMS c).After-from in
    λ t so.
    subst (λ r. Leaves (λ new. ReadsOr t p r new) (fields_of s)) (sym c.plain.ensures)
    (record { state = t; does_so = reads_crowded (fields_of s) t s.sound so p c.requires total (omega (arith, same)) c.if-total-gt-MOST_TERMS.true; stands = so })

pub returns-in-Ok : goal.returns-in-Ok
returns-in-Ok c =
    let s = c.args.self.now in
    let f = fields_of s in
    let p = c.args.place.now in
    let n = length (contents_at f p) in
    let same = counted (goal.at.returns-in-Ok c).After-from in
    let few : s.terms + n ≤ 8388608 = omega (arith, same, c.if-total-gt-MOST_TERMS.false) in
    λ t so.
    subst (λ m. Leaves (λ new. ReadsOr t p c.in-Ok.told.reply new) (record f { terms = f.terms + m })) same
    (record { state = with_terms n t; does_so = reads_shown f t s.sound so p c.requires c.in-Ok.told.reply c.in-Ok.ensures few; stands = more_stands f n t so })
