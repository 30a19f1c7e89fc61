use Rattle.std.proofs.Common.{◌≡◌, ◌<◌, length, sym, ap, ◌∙◌, subst, arith, get_or}
use Rattle.std.proofs.lemmas.List.{get_or_default}
use Rattle.std.specs.Prelude.{None, slice_set}
use Rattle.ps_journal.specs.Publishing.{refused_pin}
use Rattle.ps_views.specs.Fields.{fields, IsSound}
use Rattle.ps_views.proofs.SeatLaws.{refused_sound}
use Rattle.ps_book.specs.Services.{fields_of}
use Rattle.ps_book.proofs.service.Service.refuse.Goals as goal

pub invariant_of-self : goal.invariant_of-self
invariant_of-self c =
    let s = c.args.self.now in
    let near : c.args.seat < length s.pins = omega (arith, c.requires, s.sound.seats.0) in
    let same : refused_pin c.args.total (get_or s.pins c.args.seat None) ≡ c.refused.result = sym (c.refused.ensures ∙ ap (refused_pin c.args.total) (get_or_default s.pins c.args.seat c.index-self-seat.result None near)) in
    record {
      sound = subst (λ x. IsSound (fields s.versions s.tables.items s.items.items (slice_set s.pins c.args.seat x) s.claims.seats s.terms)) same (refused_sound (fields_of s) c.args.seat c.args.total s.sound);
    }
