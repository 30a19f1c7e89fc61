use Rattle.std.proofs.Common.{◌≡◌, ◌-◌, ◌^◌, ◌<◌, drop}
use Rattle.ps_journal.specs.Retiring.{claims_on}
use Rattle.ps_book.proofs.claims.Claims.on.Given as goal

abbrev pub invariant-loop-i : goal.invariant-loop-i
invariant-loop-i l = (l.bits ≡ claims_on l.place (drop (64 - l.i) l.self.seats)) × (l.bits < 2 ^ l.i)
