-- The places of leaves among moves, and what two segments came to.
use Rattle.std.specs.Prelude.{ℕ, ◌<◌, List, [], ◌∷◌}
use Rattle.std.specs.Coded.{×_prop, Unit-prop, le_prop}
use Rattle.ps_prim.specs.declared.prims.Primitive.{Primitive as Prim}
use Rattle.ps_rules.specs.declared.steps.Move.{Move}
use Rattle.ps_rules.specs.declared.steps.Move.TheVariants.{Leaf, Id, Join, Rewrite}
use Rattle.ps_reach.specs.Normals.{IsNormalFor}
use Rattle.ps_reach.specs.Overruns.{IsOver}
use Rattle.ps_reach.specs.Replays.{Reaches}
use Rattle.ps_reach.specs.Parts.{overrun_of}
use Rattle.ps_normal.specs.declared.parts.Part.{Part}
use Rattle.ps_normal.specs.declared.parts.Part.TheVariants.{Sum, Over, Stopped}

-- a leaf stands below k
abbrev pub IsPlaced : ℕ → Move → Type 0
IsPlaced k (Leaf i) = i < k
IsPlaced k Id = Unit {0}
IsPlaced k Join = Unit {0}
IsPlaced k (Rewrite s) = Unit {0}

abbrev pub AllPlaced : ℕ → List Move → Type 0
AllPlaced k [] = Unit {0}
AllPlaced k (m ∷ ms) = IsPlaced k m × AllPlaced k ms

pub IsPlaced-prop : (k : ℕ) (m : Move) → IsProp (IsPlaced k m)
IsPlaced-prop k (Leaf i) = le_prop
IsPlaced-prop k Id = Unit-prop
IsPlaced-prop k Join = Unit-prop
IsPlaced-prop k (Rewrite s) = Unit-prop

pub AllPlaced-prop : (k : ℕ) (ms : List Move) → IsProp (AllPlaced k ms)
AllPlaced-prop k [] = Unit-prop
AllPlaced-prop k (m ∷ ms) = ×_prop (IsPlaced-prop k m) (AllPlaced-prop k ms)

-- a sum is normal for the prims and reached by the moves, and evidence is true of the prims
abbrev pub IsJoinedPart : ℕ → List Prim → List Move → Part → Type 0
IsJoinedPart n A ms (Sum S) = IsNormalFor n A S × Reaches n A ms S
IsJoinedPart n A ms (Over e) = IsOver n A (overrun_of e)
IsJoinedPart n A ms Stopped = Unit {0}
