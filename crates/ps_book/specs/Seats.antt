-- Which claims are on a version.
use Rattle.std.specs.Prelude.{Bool, false, Option, Some, None}
use Rattle.ps_script.specs.declared.name.Place.{Place}
use Rattle.ps_journal.specs.declared.seats.Claim.{Claim}
use Rattle.ps_journal.specs.Keeping.{same_place}

abbrev pub is_on : Place → Option Claim → Bool
is_on p None = false
is_on p (Some c) = same_place p c.place
