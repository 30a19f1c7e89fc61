use Rattle.std.proofs.Common.{sym, subst}
use Rattle.ps_views.proofs.Pinned.{has_pinned}
use Rattle.ps_journal.specs.Keeping.{unpinned}
use Rattle.ps_book.specs.Conclusions.{Fits}
use Rattle.ps_book.specs.Services.{fields_of}
use Rattle.ps_book.proofs.Releasing.{pin_read}
use Rattle.ps_book.proofs.Concluding.{answers_no_pin, answers_leaves}
use Rattle.ps_book.proofs.service.Service.answer.Goals as goal

pub returns-in-None : goal.returns-in-None
returns-in-None c = λ t so. answers_no_pin (fields_of c.args.self.now) c.args.number c.args.seat t so c.args.outcome.now c.plain.result.reply
    c.plain.ensures (pin_read (fields_of c.args.self.now) c.args.seat _ _ c.args.self.now.sound c.requires c.in-None.is)

pub answer_told-told-requires : goal.answer_told-told-requires
answer_told-told-requires c = let s = c.args.self.now in has_pinned (fields_of s) c.args.seat c.in-Some.pin s.sound
    (pin_read (fields_of c.args.self.now) c.args.seat _ _ c.args.self.now.sound c.requires c.in-Some.is)

pub count_answered-requires : goal.count_answered-requires
count_answered-requires c = subst (λ n. Fits n c.answer_told-told.result.reply) (sym c.release.ensures.terms) c.answer_told-told.ensures.fits

pub returns-in-Some : goal.returns-in-Some
returns-in-Some c =
    λ t so. answers_leaves (fields_of c.args.self.now) c.args.number c.args.seat t so c.in-Some.pin
    (pin_read (fields_of c.args.self.now) c.args.seat _ _ c.args.self.now.sound c.requires c.in-Some.is) c.args.outcome.now
    c.answer_told-told.result.reply (fields_of c.count_answered.new.self)
    c.answer_told-told.ensures (c.count_answered.ensures (unpinned c.args.number c.args.seat t) (c.release.ensures.stands t so))
