-- Two lists of prims that have a front and a back in common.
use Rattle.std.specs.Prelude.{ℕ, List, ◌++◌}
use Rattle.ps_prim.specs.declared.prims.Primitive.{Primitive as Prim}
use Rattle.ps_prim.specs.Maps.{SameMap}

-- A and B are the maps of M and N, each behind the front F and before the back S
pub record SharesEnds (n : ℕ) (A B F M N S : List Prim) : Type 0 where
  pub first : SameMap n A (F ++ (M ++ S))
  pub second : SameMap n B (F ++ (N ++ S))
