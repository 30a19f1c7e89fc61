-- The ready segments of the versions at some places.
use Rattle.std.specs.Prelude.{ℕ, suc, ◌≡◌, Bool, true, cond, List, [], ◌∷◌, ◌++◌, Some}
use Rattle.ps_script.specs.declared.name.Place.{Place}
use Rattle.ps_versions.specs.Held.{Held, Version, Circuit}
use Rattle.ps_versions.specs.Questions.{is_settled}
use Rattle.ps_versions.specs.Choices.{open_in}
use Rattle.ps_versions.specs.declared.data.Ready.{Ready}
use Rattle.ps_journal.specs.declared.seats.Pin.{Pin}
use Rattle.ps_journal.specs.Keeping.{pins_place}
use Rattle.ps_views.specs.Fields.{Fields, held_at, passed}
use Rattle.ps_views.specs.declared.filed.Filed.{Filed}

module _ (P : Place → Bool) (h : Held Filed) where
  -- of a circuit's versions from a number on
  abbrev pub open_where_from : List ℕ → ℕ → List Version → List Ready
  open_where_from name n [] = []
  open_where_from name n (v ∷ vs) = cond (P (record { name = name; version = n })) (open_in passed h (record { name = name; version = n }) v.root) [] ++ open_where_from name (suc n) vs

  abbrev pub open_where : List Circuit → List Ready
  open_where [] = []
  open_where (c ∷ cs) = open_where_from c.name 1 c.versions ++ open_where cs

-- those of the versions that a pin names, in the order of the circuits
abbrev pub open_pinned : Held Filed → Pin → List Ready
open_pinned h pin = open_where (λ p. pins_place p pin) h h.circuits

-- the versions that a pin names are settled
pub record AreSettledAt (f : Fields) (pin : Pin) : Type 0 where
  pub first : is_settled passed f.versions (held_at f.versions pin.first) ≡ true
  pub second : (p : Place) → pin.second ≡ Some p → is_settled passed f.versions (held_at f.versions p) ≡ true
