-- What the type of a seat keeps: a seat that is handed about is between turns.
use Rattle.std.specs.Prelude.{◌≡◌, ℕ, ◌<◌, ◌≤◌, ◌≢◌, true, [], length, Option, Some, None}
use Rattle.atomic_table.specs.Table.{Me}
use Rattle.ps_desk.specs.declared.view.View.{View}
use Rattle.ps_desk.specs.Views.{own_of}

pub record Rests {O C R : Type 0} (me : Me (Option O) (View C R)) (number next end out : ℕ) (refused : Option ℕ) : Type 0 where
  -- it holds nothing, is at no turn, and has no ticket but a refused one
  pub holds : me.1 ≡ []
  pub live : me.0.live ≡ true
  pub ticket : me.0.ticket ≡ None
  pub found : me.0.found ≡ None
  pub told : me.0.told ≡ []
  -- the fields are what the view says
  pub number_is : (me.0.number ≡ number) × (number < 64)
  pub spare : (me.0.next ≡ next) × (me.0.end ≡ end) × (next ≤ end) × (end ≤ 64)
  pub out_is : (length me.0.out ≡ out) × (out ≤ next)
  pub refused_is : me.0.refused ≡ refused
  pub over : (t : ℕ) → refused ≡ Some t → 262144 ≤ t
  -- its entries are those of its number
  pub own : me.0.own ≡ own_of number me.0.seen
  -- a seat other than the first has no spare number, nobody out and nobody ended
  pub plain : number ≢ 0 → (next ≡ end) × (me.0.out ≡ []) × (me.0.ended ≡ [])
