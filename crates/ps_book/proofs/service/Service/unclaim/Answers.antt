use Rattle.ps_views.proofs.SeatLaws.{unclaimed_sound}
use Rattle.ps_book.specs.Services.{fields_of}
use Rattle.ps_book.proofs.service.Service.unclaim.Goals as goal

pub invariant_of-self : goal.invariant_of-self
invariant_of-self c = let s = c.args.self.now in record { sound = unclaimed_sound (fields_of s) s.sound c.args.seat }
