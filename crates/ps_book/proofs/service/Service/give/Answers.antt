use Rattle.std.proofs.Common.{sym, subst, refl}
use Rattle.ps_views.specs.Tasks.{Gives, given, starved, claims_with}
use Rattle.ps_views.proofs.SeatLaws.{claimed_sound}
use Rattle.ps_book.specs.Services.{fields_of}
use Rattle.ps_book.proofs.Giving.{ready_segment, ready_sides}
use Rattle.ps_book.proofs.service.Service.give.Goals as goal

pub invariant_of-self : goal.invariant_of-self
invariant_of-self c =
    let s = c.args.self.now in
    let r = c.args.ready in
    record {
      sound = claimed_sound (fields_of s) s.sound c.args.seat (record { place = r.place; node = r.node; entry = c.args.number })
          (ready_segment (fields_of s) r c.requires.there) (ready_sides (fields_of s) r c.requires.there);
    }

pub returns-in-Err : goal.returns-in-Err
returns-in-Err c =
    let f = fields_of c.args.self.now in
    subst (λ x. Gives f c.args.number c.args.seat c.args.ready x f) (sym c.plain.ensures) (starved refl)

pub returns-in-Ok : goal.returns-in-Ok
returns-in-Ok c =
    let f = fields_of c.args.self.now in
    let h = c.in-Ok.ensures in
    subst (λ x. Gives f c.args.number c.args.seat c.args.ready x (claims_with c.args.number c.args.seat c.args.ready f)) (sym h.reply) (given h.is refl)
