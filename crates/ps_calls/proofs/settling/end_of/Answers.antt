use Rattle.std.proofs.Common.{sym, subst, None, Some}
use Rattle.ps_calls.specs.declared.settling.Settling.TheVariants.{Crowded}
use Rattle.ps_calls.specs.Settling.{RoundOf, filled, found, crowded, starved}
use Rattle.ps_calls.proofs.settling.end_of.Goals as goal

pub returns-in-Published : goal.returns-in-Published
returns-in-Published c = subst (λ r. RoundOf r None) (sym c.in-Published.is) filled

pub returns-in-Already : goal.returns-in-Already
returns-in-Already c = subst (λ r. RoundOf r None) (sym c.in-Already.is) found

pub returns-in-NoRoom : goal.returns-in-NoRoom
returns-in-NoRoom c = subst (λ r. RoundOf r (Some Crowded)) (sym c.in-NoRoom.is) crowded

pub returns-in_default : goal.returns-in_default
returns-in_default c = starved c.in_default.not-Published c.in_default.not-Already c.in_default.not-NoRoom
