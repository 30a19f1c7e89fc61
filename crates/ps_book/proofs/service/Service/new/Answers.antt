use Rattle.std.proofs.Common.{◌≡◌, sym, subst}
use Rattle.ps_journal.specs.State.{empty}
use Rattle.ps_views.specs.Fields.{fields, IsSound}
use Rattle.ps_views.specs.Stands.{Stands}
use Rattle.ps_views.proofs.Beginning.{fresh_fields, fresh_sound, fresh_stands}
use Rattle.ps_book.proofs.Journals.{nothing_held}
use Rattle.ps_book.proofs.service.Service.new.Goals as goal

pub invariant_of-result : goal.invariant_of-result
invariant_of-result c =
    let h = c.new.result in
    let same : fields h c.new-2.result.items c.new-3.result.items c.no_pins.result c.new-4.result.seats 0 ≡ fresh_fields h =
    nothing_held h c.new-2.result.items c.new-3.result.items c.no_pins.result c.new-4.result.seats c.new-2.ensures.items c.new-3.ensures.items
    c.no_pins.ensures c.new-4.ensures in
    record { sound = subst IsSound (sym same) (fresh_sound h c.new.ensures.circuits c.new.ensures.nodes c.new.ensures.kept) }

pub returns : goal.returns
returns c =
    let h = c.new.result in
    let same : fields h c.new-2.result.items c.new-3.result.items c.no_pins.result c.new-4.result.seats 0 ≡ fresh_fields h =
    nothing_held h c.new-2.result.items c.new-3.result.items c.no_pins.result c.new-4.result.seats c.new-2.ensures.items c.new-3.ensures.items
    c.no_pins.ensures c.new-4.ensures in
    subst (λ f. Stands f empty) (sym same) (fresh_stands h c.new.ensures.circuits c.new.ensures.nodes c.new.ensures.kept)
