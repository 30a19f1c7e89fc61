use Rattle.ps_views.proofs.Holding.{first_is_pinned, fades_first, fades_alone, second_is_pinned, fades_both}
use Rattle.ps_book.proofs.pinning.unpin_both.Goals as goal

pub unpin-requires : goal.unpin-requires
unpin-requires c = first_is_pinned c.args.number c.args.versions.now c.args.pin.now c.requires

pub returns-in-None : goal.returns-in-None
returns-in-None c =
    let h = c.args.versions.now in
    let pin = c.args.pin.now in
    fades_alone c.args.number h pin c.requires c.unpin.new.self c.in-None.is
    (fades_first c.args.number h pin c.requires c.unpin.new.self c.unpin.ensures.circuits c.unpin.ensures.nodes c.unpin.ensures.kept)

pub unpin-requires-in-Some : goal.unpin-requires-in-Some
unpin-requires-in-Some c =
    let h = c.args.versions.now in
    let pin = c.args.pin.now in
    second_is_pinned c.args.number h pin c.requires c.in-Some.second c.unpin.new.self c.in-Some.is
    (fades_first c.args.number h pin c.requires c.unpin.new.self c.unpin.ensures.circuits c.unpin.ensures.nodes c.unpin.ensures.kept)

pub returns-in-Some : goal.returns-in-Some
returns-in-Some c =
    let h = c.args.versions.now in
    let pin = c.args.pin.now in
    fades_both c.args.number h pin c.requires c.in-Some.second c.unpin.new.self c.in-Some.is
    (fades_first c.args.number h pin c.requires c.unpin.new.self c.unpin.ensures.circuits c.unpin.ensures.nodes c.unpin.ensures.kept)
    c.unpin-in-Some.new.self c.unpin-in-Some.ensures.circuits c.unpin-in-Some.ensures.nodes c.unpin-in-Some.ensures.kept
