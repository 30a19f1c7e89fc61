-- Which ready segment of a version, or of two, weighs least.
use Rattle.std.specs.Prelude.{Bool, Option}
use Rattle.ps_script.specs.declared.name.Place.{Place}
use Rattle.ps_versions.specs.Held.{Held}
use Rattle.ps_versions.specs.Questions.{is_settled}
use Rattle.ps_versions.specs.Choices.{lightest, lighter_of, open_at}
use Rattle.ps_versions.specs.declared.data.Ready.{Ready}
use Rattle.ps_views.specs.Fields.{held_at, passed}
use Rattle.ps_views.specs.declared.filed.Filed.{Filed}
use Rattle.ps_book.specs.Counts.{claims_of}
use Rattle.ps_book.specs.declared.claims.Claims.{Claims}

abbrev pub lightest_at : Claims → Held Filed → Place → Option Ready
lightest_at c h p = lightest (claims_of c) (open_at passed h p)

-- of two, the first one where they weigh the same
abbrev pub lightest_of : Claims → Held Filed → Place → Place → Option Ready
lightest_of c h p q = lighter_of (claims_of c) (lightest_at c h p) (lightest_at c h q)

-- the version at the place is settled
abbrev pub is_settled_at : Held Filed → Place → Bool
is_settled_at h p = is_settled passed h (held_at h p)
