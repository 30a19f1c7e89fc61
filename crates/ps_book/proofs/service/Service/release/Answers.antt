use Rattle.ps_book.specs.Services.{fields_of}
use Rattle.ps_book.proofs.Releasing.{pin_read, releases_none, carries_pin, releases_pin, released_pin_sound, releases_stands}
use Rattle.ps_book.proofs.service.Service.release.Goals as goal

pub unpin_both-requires : goal.unpin_both-requires
unpin_both-requires c =
    let s = c.args.self.now in
    carries_pin c.args.number c.args.seat (fields_of s) s.sound c.requires c.in-Some.pin
    (pin_read (fields_of s) c.args.seat _ _ s.sound c.requires c.in-Some.is)

pub invariant_of-self : goal.invariant_of-self
invariant_of-self c =
    let s = c.args.self.now in
    record {
      sound = released_pin_sound c.args.number c.args.seat (fields_of s) s.sound c.requires c.in-Some.pin
          (pin_read (fields_of s) c.args.seat _ _ s.sound c.requires c.in-Some.is) c.unpin_both.new.versions c.unpin_both.ensures;
    }

pub returns-in-None-clause-releases : goal.returns-in-None-clause-releases
returns-in-None-clause-releases c =
    let s = c.args.self.now in
    releases_none c.args.number c.args.seat (fields_of s) s.sound c.requires (pin_read (fields_of s) c.args.seat _ _ s.sound c.requires c.in-None.is)

pub returns-in-None-clause-stands : goal.returns-in-None-clause-stands
returns-in-None-clause-stands c =
    let s = c.args.self.now in
    releases_stands c.args.number c.args.seat (fields_of s) s.sound c.requires (fields_of s)
    (releases_none c.args.number c.args.seat (fields_of s) s.sound c.requires (pin_read (fields_of s) c.args.seat _ _ s.sound c.requires c.in-None.is))

pub returns-in-Some-clause-releases : goal.returns-in-Some-clause-releases
returns-in-Some-clause-releases c =
    let s = c.args.self.now in
    releases_pin c.args.number c.args.seat (fields_of s) s.sound c.requires c.in-Some.pin
    (pin_read (fields_of s) c.args.seat _ _ s.sound c.requires c.in-Some.is) c.unpin_both.new.versions c.unpin_both.ensures

pub returns-in-Some-clause-stands : goal.returns-in-Some-clause-stands
returns-in-Some-clause-stands c =
    let s = c.args.self.now in
    releases_stands c.args.number c.args.seat (fields_of s) s.sound c.requires _
    (releases_pin c.args.number c.args.seat (fields_of s) s.sound c.requires c.in-Some.pin
    (pin_read (fields_of s) c.args.seat _ _ s.sound c.requires c.in-Some.is) c.unpin_both.new.versions c.unpin_both.ensures)
