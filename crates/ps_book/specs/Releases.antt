-- What releasing the pins of a seat does.
use Rattle.std.specs.Prelude.{ℕ, ◌≡◌, None, slice_set}
use Rattle.ps_views.specs.Counts.{pins_by}
use Rattle.ps_views.specs.Fields.{Fields, pin_at}
use Rattle.ps_views.specs.Changes.{Becomes, Fades}

-- the pins that the seat had are taken off the versions, by this entry, and the seat has pinned nothing
pub record Releases (entry seat : ℕ) (old new : Fields) : Type 0 where
  pub fades : Becomes (λ q x y. Fades entry (pins_by q (pin_at old seat)) x y) old.versions new.versions
  pub same : new ≡ record old { versions = new.versions; pins = slice_set old.pins seat None }
