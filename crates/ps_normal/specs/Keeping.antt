-- Reduced leaves, and those that are kept.
use Rattle.std.specs.Prelude.{ℕ, ◌≡◌, Option, Some, None, List, [], ◌∷◌}
use Rattle.std.specs.declared.boxed.Box.{Box}
use Rattle.std.specs.declared.alloc.Global.{Global}
use Rattle.ps_io.specs.Counts.{Rose}
use Rattle.ps_prim.specs.declared.prims.Primitive.{Primitive as Prim}
use Rattle.ps_prim.specs.declared.prims.Primitive.TheVariants.{U, Cx}
use Rattle.ps_sum.specs.declared.sums.PathSum.{PathSum}
use Rattle.ps_rules.specs.declared.steps.Step.{Step}
use Rattle.ps_rules.specs.declared.steps.Move.{Move}
use Rattle.ps_join.specs.Joining.{IsLeafOf}
use Rattle.ps_reach.specs.Reductions.{normal, ReducesTo}
use Rattle.ps_reach.specs.Parts.{overrun_of}
use Rattle.ps_reach.specs.Fillings.{Outcome, kept, passed}
use Rattle.ps_normal.specs.declared.kept.Kept.{Kept}
use Rattle.ps_normal.specs.declared.parts.Part.{Part}
use Rattle.ps_normal.specs.declared.parts.Part.TheVariants.{Sum, Over, Stopped}
use Rattle.ps_normal.specs.declared.parts.LeafPart.{LeafPart}
use Rattle.ps_normal.specs.declared.parts.LeafPart.TheVariants as leaf
use Rattle.ps_normal.specs.Pieces.{Usable}

-- a Cx, or a U at theta 0: its sum has no path variable
abbrev pub IsPlainPrim : Prim → Type 0
IsPlainPrim (U theta phi lambda q) = theta ≡ 0
IsPlainPrim (Cx c t) = Unit {0}

-- reducing S took these steps where a sum came of it
abbrev pub IsReducedPart : PathSum → List Step → Part → Type 0
IsReducedPart S ss (Sum T) = ReducesTo S ss (normal T)
IsReducedPart S ss (Over e) = Unit {0}
IsReducedPart S ss Stopped = Unit {0}

-- reducing a leaf of g on n qubits took these steps where a sum came of it
abbrev pub IsReducedLeaf : ℕ → Prim → List Step → Part → Type 0
IsReducedLeaf n g ss p = (L : PathSum) × (IsLeafOf n g L × IsReducedPart L ss p)

-- what is kept is the normal sum of a leaf of g on n qubits, with the steps that lead there
pub record IsKept (n : ℕ) (g : Prim) (k : Kept) : Type 0 where
  pub made : PathSum
  pub is_leaf : IsLeafOf n g made
  pub reduces : ReducesTo made k.steps.items (normal k.gate.sum.value)
  pub usable : Usable n 1 k.gate.sum.value

-- a slot that is not empty has the leaf of its prim
abbrev pub IsSlot : ℕ → Option (Box Kept Global) → Type 0
IsSlot n None = Unit {0}
IsSlot n (Some k) = IsKept n k.value.prim k.value

abbrev pub IsTable : ℕ → List (Option (Box Kept Global)) → Type 0
IsTable n [] = Unit {0}
IsTable n (slot ∷ slots) = IsSlot n slot × IsTable n slots

-- with these moves, R holds of what the leaf comes to
abbrev pub LeafIs : (Outcome → Type 0) → List Move → LeafPart → Type 0
LeafIs R ms (leaf.Made k) = R (kept k.gate.sum.value ms)
LeafIs R ms (leaf.Over e) = R (passed (overrun_of e) ms)
LeafIs R ms leaf.Stopped = Unit {0}

-- a leaf of g that was made is one that may be kept
abbrev pub IsMade : ℕ → Prim → LeafPart → Type 0
IsMade n g (leaf.Made k) = (k.prim ≡ g) × IsKept n g k
IsMade n g (leaf.Over e) = Unit {0}
IsMade n g leaf.Stopped = Unit {0}

-- it was stopped only where the count of yeses rose
abbrev pub LeafRose : ℕ → ℕ → LeafPart → Type 0
LeafRose old new (leaf.Made k) = Unit {0}
LeafRose old new (leaf.Over e) = Unit {0}
LeafRose old new leaf.Stopped = Rose old new
