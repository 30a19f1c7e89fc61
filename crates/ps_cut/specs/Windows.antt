-- Two lists of prims that are cut side by side into windows.
use Rattle.std.specs.Prelude.{ℕ, List, [], ◌∷◌, ◌++◌}
use Rattle.ps_prim.specs.declared.prims.Primitive.{Primitive as Prim}
use Rattle.ps_prim.specs.Maps.{SameMap}

-- the first list of each window, one behind the other
abbrev pub firsts : List (List Prim × List Prim) → List Prim
firsts [] = []
firsts (w ∷ ws) = w.0 ++ firsts ws

-- and the second
abbrev pub seconds : List (List Prim × List Prim) → List Prim
seconds [] = []
seconds (w ∷ ws) = w.1 ++ seconds ws

-- in each window the two lists are one map
abbrev pub AllSame : ℕ → List (List Prim × List Prim) → Type 0
AllSame n [] = Unit {0}
AllSame n (w ∷ ws) = SameMap n w.0 w.1 × AllSame n ws
