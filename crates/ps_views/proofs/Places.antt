-- When two places are one.
use Rattle.std.proofs.Common.{◌≡◌, ℕ, suc, Bool, true, false, ◌&&◌, ◌||◌, eqb, refl, sym, ap, ap₂, ◌∙◌, arith}
use Rattle.std.specs.Prelude.{bytes_eq, Option, Some, None}
use Rattle.std.proofs.lemmas.Slice.Eq.{bytes_eq-Decides}
use Rattle.std.proofs.lemmas.Bool.Decides.{nat_tests}
use Rattle.std.proofs.lemmas.Grind.{common_steps}
use Rattle.ps_script.specs.declared.name.Place.{Place}
use Rattle.ps_journal.specs.Keeping.{same_place, same_place_maybe}

pub same_place-refl : (p : Place) → same_place p p ≡ true
same_place-refl p = grind (arith, nat_tests, common_steps, bytes_eq-Decides)
