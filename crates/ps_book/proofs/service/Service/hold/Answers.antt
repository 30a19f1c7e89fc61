use Rattle.ps_book.specs.Services.{fields_of}
use Rattle.ps_book.proofs.Releasing.{releases_room, releases_live, releases_live_maybe, held_sound, held_stands}
use Rattle.ps_book.proofs.service.Service.hold.Goals as goal

pub pin_both-requires-clause-room : goal.pin_both-requires-clause-room
pin_both-requires-clause-room c =
    let s = c.args.self.now in
    releases_room c.args.number c.args.seat (fields_of s) s.sound c.requires.near (fields_of c.release.new.self) c.release.ensures.releases

pub pin_both-requires-clause-live : goal.pin_both-requires-clause-live
pin_both-requires-clause-live c =
    let s = c.args.self.now in
    releases_live c.args.number c.args.seat (fields_of s) s.sound c.requires.near (fields_of c.release.new.self) c.release.ensures.releases
    c.args.first c.requires.live

pub pin_both-requires-clause-also : goal.pin_both-requires-clause-also
pin_both-requires-clause-also c =
    let s = c.args.self.now in
    releases_live_maybe c.args.number c.args.seat (fields_of s) s.sound c.requires.near (fields_of c.release.new.self) c.release.ensures.releases
    c.args.second c.requires.also

pub invariant_of-self : goal.invariant_of-self
invariant_of-self c =
    let s = c.args.self.now in
    record {
      sound = held_sound c.args.number c.args.seat (fields_of s) s.sound c.requires.near (fields_of c.release.new.self) c.release.ensures.releases
          c.args.first c.args.second c.requires.live c.requires.also c.pin_both.new.versions c.pin_both.ensures;
    }

pub returns-clause-stands : goal.returns-clause-stands
returns-clause-stands c =
    let s = c.args.self.now in
    held_stands c.args.number c.args.seat (fields_of s) s.sound c.requires.near (fields_of c.release.new.self) c.release.ensures.releases
    c.args.first c.args.second c.requires.live c.requires.also c.pin_both.new.versions c.pin_both.ensures
