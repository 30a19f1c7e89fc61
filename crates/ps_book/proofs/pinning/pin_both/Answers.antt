use Rattle.std.proofs.Common.{subst, sym}
use Rattle.std.specs.Prelude.{Some}
use Rattle.ps_journal.specs.Pinning.{new_pin}
use Rattle.ps_views.specs.Counts.{pins_by}
use Rattle.ps_views.specs.Changes.{Becomes, Rises, IsLiveAtMaybe}
use Rattle.ps_views.proofs.Holding.{first_has_few, rises_first, rises_alone, second_is_live, second_has_few, rises_both}
use Rattle.ps_book.proofs.pinning.pin_both.Goals as goal

pub pin-requires-clause-room : goal.pin-requires-clause-room
pin-requires-clause-room c = first_has_few c.args.versions.now c.args.first.now c.requires.room c.requires.live

pub returns-in-None : goal.returns-in-None
returns-in-None c =
    let h = c.args.versions.now in
    let p = c.args.first.now in
    subst (λ o. Becomes (λ q x y. Rises (pins_by q (Some (new_pin p o))) x y) h c.pin.new.self) (sym c.in-None.is)
    (rises_alone h p c.requires.room c.requires.live c.pin.new.self (rises_first h p c.requires.room c.requires.live c.pin.new.self
    c.pin.ensures.circuits c.pin.ensures.nodes c.pin.ensures.kept))

pub pin-requires-in-Some-clause-live : goal.pin-requires-in-Some-clause-live
pin-requires-in-Some-clause-live c =
    let h = c.args.versions.now in
    let p = c.args.first.now in
    second_is_live h p c.requires.room c.requires.live c.in-Some.second c.pin.new.self (subst (IsLiveAtMaybe h) c.in-Some.is c.requires.also)
    (rises_first h p c.requires.room c.requires.live c.pin.new.self c.pin.ensures.circuits c.pin.ensures.nodes c.pin.ensures.kept)

pub pin-requires-in-Some-clause-room : goal.pin-requires-in-Some-clause-room
pin-requires-in-Some-clause-room c =
    let h = c.args.versions.now in
    let p = c.args.first.now in
    second_has_few h p c.requires.room c.requires.live c.in-Some.second c.pin.new.self (subst (IsLiveAtMaybe h) c.in-Some.is c.requires.also)
    (rises_first h p c.requires.room c.requires.live c.pin.new.self c.pin.ensures.circuits c.pin.ensures.nodes c.pin.ensures.kept)

pub returns-in-Some : goal.returns-in-Some
returns-in-Some c =
    let h = c.args.versions.now in
    let p = c.args.first.now in
    subst (λ o. Becomes (λ q x y. Rises (pins_by q (Some (new_pin p o))) x y) h c.pin-in-Some.new.self) (sym c.in-Some.is)
    (rises_both h p c.requires.room c.requires.live c.in-Some.second c.pin.new.self (subst (IsLiveAtMaybe h) c.in-Some.is c.requires.also)
    (rises_first h p c.requires.room c.requires.live c.pin.new.self c.pin.ensures.circuits c.pin.ensures.nodes c.pin.ensures.kept)
    c.pin-in-Some.new.self c.pin-in-Some.ensures.circuits c.pin-in-Some.ensures.nodes c.pin-in-Some.ensures.kept)
