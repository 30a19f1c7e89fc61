use Rattle.std.proofs.Common.{subst, ap, ◌∙◌, arith}
use Rattle.ps_journal.specs.Judging.{size}
use Rattle.ps_book.specs.Conclusions.{TellsPair}
use Rattle.ps_book.specs.Services.{fields_of}
use Rattle.ps_book.proofs.Concluding.{concludes_other, concludes_full, concludes_told}
use Rattle.ps_book.proofs.service.Service.judged_told.Goals as goal

pub returns-then-not-are_pinned : goal.returns-then-not-are_pinned
returns-then-not-are_pinned c =
    let s = c.args.self.now in
    concludes_other (fields_of s) s.sound c.args.pin.now c.requires c.args.judged.now c.args.proof c.are_pinned.result c.plain.result.reply
    c.if-not-are_pinned.true
    (subst (λ j. TellsPair (fields_of s) c.args.pin.now j c.are_pinned.result) c.deref.ensures c.are_pinned.ensures.both) c.plain.ensures

pub returns-then-total-gt-MOST_TERMS : goal.returns-then-total-gt-MOST_TERMS
returns-then-total-gt-MOST_TERMS c =
    let s = c.args.self.now in
    concludes_full (fields_of s) s.sound c.args.pin.now c.requires c.args.judged.now c.args.proof c.are_pinned.result c.if-not-are_pinned.false
    (subst (λ j. TellsPair (fields_of s) c.args.pin.now j c.are_pinned.result) c.deref.ensures c.are_pinned.ensures.both) c.are_pinned.ensures.one_alone
    c.size.result c.plain-then-total-gt-MOST_TERMS.result.reply (c.size.ensures ∙ ap size c.deref-2.ensures)
    (omega (arith, c.if-total-gt-MOST_TERMS.true)) c.plain-then-total-gt-MOST_TERMS.ensures

pub returns-in-Ok : goal.returns-in-Ok
returns-in-Ok c =
    let s = c.args.self.now in
    concludes_told (fields_of s) s.sound c.args.pin.now c.requires c.args.judged.now c.args.proof c.are_pinned.result c.if-not-are_pinned.false
    (subst (λ j. TellsPair (fields_of s) c.args.pin.now j c.are_pinned.result) c.deref.ensures c.are_pinned.ensures.both) c.are_pinned.ensures.one_alone
    c.size.result c.in-Ok.told.reply (c.size.ensures ∙ ap size c.deref-2.ensures) (omega (arith, c.if-total-gt-MOST_TERMS.false)) c.in-Ok.ensures
