use Rattle.std.proofs.Common.{◌≡◌, sym}
use Rattle.std.specs.Prelude.{Some}
use Rattle.std.proofs.Common.{subst}
use Rattle.ps_versions.specs.Choices.{lightest}
use Rattle.ps_views.specs.OpenWhere.{open_pinned}
use Rattle.ps_views.proofs.Pinned.{has_pinned}
use Rattle.ps_book.specs.Services.{fields_of}
use Rattle.ps_book.proofs.Releasing.{pin_read}
use Rattle.ps_book.proofs.Giving.{no_pin_leaves, settled_leaves, given_pinned_leaves, claims_weigh}
use Rattle.ps_book.proofs.service.Service.next_pinned.Goals as goal

pub returns-in-None : goal.returns-in-None
returns-in-None c =
    let s = c.args.self.now in
    λ t so. no_pin_leaves (fields_of s) t c.args.number c.args.seat s.sound so c.plain.result.reply c.plain.ensures
    (pin_read (fields_of c.args.self.now) c.args.seat _ _ c.args.self.now.sound c.requires c.in-None.is)

pub lightest_of-requires : goal.lightest_of-requires
lightest_of-requires c = let s = c.args.self.now in has_pinned (fields_of s) c.args.seat c.in-Some.pin s.sound
    (pin_read (fields_of c.args.self.now) c.args.seat _ _ c.args.self.now.sound c.requires c.in-Some.is)

pub settled_reply-requires-clause-pinned : goal.settled_reply-requires-clause-pinned
settled_reply-requires-clause-pinned c = let s = c.args.self.now in has_pinned (fields_of s) c.args.seat c.in-Some.pin s.sound
    (pin_read (fields_of c.args.self.now) c.args.seat _ _ c.args.self.now.sound c.requires c.in-Some.is)

pub returns-in-None-lightest_of : goal.returns-in-None-lightest_of
returns-in-None-lightest_of c =
    let s = c.args.self.now in
    λ t so. settled_leaves (fields_of s) t c.args.number c.args.seat s.sound so c.in-Some.pin c.settled_reply.result.reply
    (pin_read (fields_of c.args.self.now) c.args.seat _ _ c.args.self.now.sound c.requires c.in-Some.is)
    (c.lightest_of.ensures.settled c.in-None-lightest_of.is) c.settled_reply.ensures

pub returns-in-Some-lightest_of : goal.returns-in-Some-lightest_of
returns-in-Some-lightest_of c =
    let s = c.args.self.now in
    λ t so. given_pinned_leaves (fields_of s) t c.args.number c.args.seat s.sound so c.in-Some.pin c.in-Some-lightest_of.ready c.give.result.reply
    (fields_of c.give.new.self) (pin_read (fields_of c.args.self.now) c.args.seat _ _ c.args.self.now.sound c.requires c.in-Some.is)
    (subst (λ w. lightest w (open_pinned s.versions c.in-Some.pin) ≡ Some c.in-Some-lightest_of.ready) (claims_weigh s.claims s.sound.seats.1)
    (sym c.in-Some-lightest_of.ensures.value)) c.give.ensures
