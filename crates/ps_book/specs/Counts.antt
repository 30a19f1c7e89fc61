-- How many claims name a node.
use Rattle.std.specs.Prelude.{ℕ, Some, count_by, take}
use Rattle.ps_journal.specs.Claiming.{claims_node}
use Rattle.ps_book.specs.declared.claims.Claims.{Claims}

-- of those of the 64 seats
abbrev pub claims_of : Claims → ℕ → ℕ
claims_of c k = count_by (claims_node (Some k)) (take 64 c.seats)
