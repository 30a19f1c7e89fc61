-- The amplitude of a list of prims by its last prim.
use Rattle.std.specs.Prelude.{◌≡◌, ◌+◌, List, [], ◌∷◌, ◌++◌}
use Rattle.std.proofs.Math.IntN.{ℤ}
use Rattle.ps_ring.specs.Numbers.{IsNumber}
use Rattle.ps_prim.specs.declared.prims.Primitive.{Primitive as Prim}
use Rattle.ps_prim.specs.Amplitudes.{Truths, act, run, start, amplitude, turns}

-- of the empty list: 1 where the output is the input
abbrev pub AmplitudeEmpty : Type 0
AmplitudeEmpty = (x z : Truths) (j : ℤ) → amplitude [] x z j ≡ start x z j

-- of a list with the last prim g: what g makes of the amplitudes of its front
abbrev pub AmplitudeLast : Type 0
AmplitudeLast = (A : List Prim) (g : Prim) (x z : Truths) (j : ℤ) → amplitude (A ++ (g ∷ [])) x z j ≡ act g (amplitude A x) z j

-- of one list after another
abbrev pub AmplitudeAppend : Type 0
AmplitudeAppend = (A B : List Prim) (x z : Truths) (j : ℤ) → amplitude (A ++ B) x z j ≡ run B (amplitude A x) z j

abbrev pub TurnsAppend : Type 0
TurnsAppend = (A B : List Prim) → turns (A ++ B) ≡ turns A + turns B

abbrev pub AmplitudeIsNumber : Type 0
AmplitudeIsNumber = (A : List Prim) (x z : Truths) → IsNumber (amplitude A x z)
