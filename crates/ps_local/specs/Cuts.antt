-- Where two lists of items part, up to exchanging neighbours that share no qubit.
use Rattle.std.specs.Prelude.{ℕ, ◌≡◌, ◌≢◌, ◌+◌, ◌-◌, ◌≤◌, ◌<◌, List, [], length, take, drop, get_or, reverse}
use Rattle.ps_prim.specs.declared.prims.Primitive.{Primitive as Prim}
use Rattle.ps_local.specs.declared.cut.Cut.{Cut}
use Rattle.ps_local.specs.Exchanges.{IsSplit}

-- so many items are equal in front, and no more
pub record IsFront (I K : List (List Prim)) (front : ℕ) : Type 0 where
  pub first : front ≤ length I
  pub second : front ≤ length K
  pub same : take front I ≡ take front K
  pub most : front < length I → front < length K → get_or I front [] ≢ get_or K front []

-- so many items behind the first ones are equal at the back, and no more
pub record IsBack (I K : List (List Prim)) (front back : ℕ) : Type 0 where
  pub first : front + back ≤ length I
  pub second : front + back ≤ length K
  pub same : drop (length I - back) I ≡ drop (length K - back) K
  pub most : front + back < length I → front + back < length K → get_or I (length I - 1 - back) [] ≢ get_or K (length K - 1 - back) []

-- the list without its last items, from the last one on
abbrev pub from_back : List (List Prim) → ℕ → List (List Prim)
from_back M back = reverse (take (length M - back) M)

-- what is equal in front is cut off, and of the others the front up to exchanges; of what is left what is equal at the back, and
-- of the others the back up to exchanges, which is the front of both lists read from the back. All of these are as long as they can be
pub record IsCut (I K : List (List Prim)) (c : Cut) : Type 0 where
  pub equal_front : ℕ
  pub is_front : IsFront I K equal_front
  pub moved_front : ℕ
  pub first_left : List (List Prim)
  pub second_left : List (List Prim)
  pub front_split : IsSplit (drop equal_front I) (drop equal_front K) moved_front first_left second_left
  pub equal_back : ℕ
  pub is_back : IsBack first_left second_left 0 equal_back
  pub moved_back : ℕ
  pub back_split : IsSplit (from_back first_left equal_back) (from_back second_left equal_back) moved_back (reverse c.first) (reverse c.second)
  pub front : c.front ≡ equal_front + moved_front
  pub back : c.back ≡ equal_back + moved_back
