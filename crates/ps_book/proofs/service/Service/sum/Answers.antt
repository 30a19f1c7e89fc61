use Rattle.ps_views.proofs.Pinned.{has_pinned}
use Rattle.ps_book.specs.Services.{fields_of}
use Rattle.ps_book.proofs.Releasing.{pin_read}
use Rattle.ps_book.proofs.Concluding.{sums_no_pin, sums_leaves}
use Rattle.ps_book.proofs.service.Service.sum.Goals as goal

pub returns-in-None : goal.returns-in-None
returns-in-None c = λ t so. sums_no_pin (fields_of c.args.self.now) c.args.number c.args.seat t so c.args.outcome.now c.plain.result.reply
    c.plain.ensures (pin_read (fields_of c.args.self.now) c.args.seat _ _ c.args.self.now.sound c.requires c.in-None.is)

pub sum_told-told-requires : goal.sum_told-told-requires
sum_told-told-requires c = let s = c.args.self.now in has_pinned (fields_of s) c.args.seat c.in-Some.pin s.sound
    (pin_read (fields_of c.args.self.now) c.args.seat _ _ c.args.self.now.sound c.requires c.in-Some.is)

pub returns-in-Some : goal.returns-in-Some
returns-in-Some c =
    λ t so. sums_leaves (fields_of c.args.self.now) c.args.number c.args.seat t so c.in-Some.pin
    (pin_read (fields_of c.args.self.now) c.args.seat _ _ c.args.self.now.sound c.requires c.in-Some.is) c.args.outcome.now
    c.sum_told-told.result.reply (fields_of c.release.new.self) c.sum_told-told.ensures (c.release.ensures.stands t so)
