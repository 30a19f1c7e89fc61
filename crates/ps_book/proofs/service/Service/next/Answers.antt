use Rattle.std.proofs.Common.{◌≡◌, sym, subst}
use Rattle.ps_journal.specs.State.{unclaimed}
use Rattle.ps_views.specs.Stands.{Stands, Leaves}
use Rattle.ps_book.specs.Wanting.{NextsOr}
use Rattle.std.specs.Prelude.{Some}
use Rattle.ps_versions.specs.Choices.{lightest, open_segments}
use Rattle.ps_views.specs.Fields.{passed}
use Rattle.ps_book.specs.Counts.{claims_of}
use Rattle.ps_views.proofs.SeatLaws.{unclaimed_stands}
use Rattle.ps_book.specs.Services.{fields_of}
use Rattle.ps_book.proofs.Giving.{idle_leaves, given_leaves, ready_all, claims_weigh}
use Rattle.ps_book.proofs.service.Service.next.Goals as goal

pub returns-then-pinned : goal.returns-then-pinned
returns-then-pinned c = λ t so. subst (λ b. Leaves (λ new. NextsOr t c.args.number c.args.seat b c.next_pinned.result.reply new)
    (fields_of c.next_pinned.new.self)) (sym c.if-pinned.true)
    (c.next_pinned.ensures t (subst (λ g. Stands g (unclaimed c.args.seat t)) (sym c.unclaim.ensures)
    (unclaimed_stands (fields_of c.args.self.now) t c.args.seat so)))

pub returns-in-None : goal.returns-in-None
returns-in-None c =
    let s = c.unclaim.new.self in
    λ t so. subst (λ b. Leaves (λ new. NextsOr t c.args.number c.args.seat b c.plain.result.reply new) (fields_of s)) (sym c.if-pinned.false)
    (idle_leaves (fields_of s) t c.args.number c.args.seat s.sound
    (subst (λ g. Stands g (unclaimed c.args.seat t)) (sym c.unclaim.ensures) (unclaimed_stands (fields_of c.args.self.now) t c.args.seat so))
    c.plain.result.reply c.plain.ensures (sym c.in-None.ensures.none))

pub give-requires-clause-there : goal.give-requires-clause-there
give-requires-clause-there c =
    let s = c.unclaim.new.self in
    ready_all (fields_of s) s.sound (claims_of s.claims) c.in-Some.ready (sym c.in-Some.ensures.value)

pub returns-in-Some : goal.returns-in-Some
returns-in-Some c =
    let s = c.unclaim.new.self in
    λ t so. subst (λ b. Leaves (λ new. NextsOr t c.args.number c.args.seat b c.give.result.reply new) (fields_of c.give.new.self)) (sym c.if-pinned.false)
    (given_leaves (fields_of s) t c.args.number c.args.seat s.sound
    (subst (λ g. Stands g (unclaimed c.args.seat t)) (sym c.unclaim.ensures) (unclaimed_stands (fields_of c.args.self.now) t c.args.seat so))
    c.in-Some.ready c.give.result.reply (fields_of c.give.new.self)
    (subst (λ w. lightest w (open_segments passed s.versions) ≡ Some c.in-Some.ready) (claims_weigh s.claims s.sound.seats.1)
    (sym c.in-Some.ensures.value)) c.give.ensures)
