-- Quadratic sums: the sums of circuits of Clifford gates, whose phase is a quadratic form and whose outputs are affine.
use Rattle.std.specs.Prelude.{ℕ, ◌≡◌, ◌≤◌, ◌%◌, List, [], ◌∷◌, length}
use Rattle.ps_prim.specs.declared.prims.Primitive.{Primitive as Prim}
use Rattle.ps_prim.specs.declared.prims.Primitive.TheVariants.{U, Cx}
use Rattle.ps_bool.specs.Polys.{Each}
use Rattle.ps_phase.specs.declared.terms.Term.{Term}
use Rattle.ps_overlap.specs.Overlapping.{EachTerm}
use Rattle.ps_sum.specs.declared.sums.PathSum.{PathSum}

-- each angle is a multiple of half of pi, which is 2^29 units
abbrev pub IsCliffordGate : Prim → Type 0
IsCliffordGate (U theta phi lambda q) = (theta % 536870912 ≡ 0) × (phi % 536870912 ≡ 0) × (lambda % 536870912 ≡ 0)
IsCliffordGate (Cx c t) = Unit {0}

-- at most two variables; one turns by quarters, and two by half a turn
pub record IsQuadraticTerm (t : Term) : Type 0 where
  pub degree : length t.mono ≤ 2
  pub quarters : length t.mono ≡ 1 → t.phase % 1073741824 ≡ 0
  pub halves : length t.mono ≡ 2 → t.phase ≡ 2147483648

-- at most one variable
abbrev pub IsLinear : List ℕ → Type 0
IsLinear m = length m ≤ 1

-- each monomial of each output has at most one variable
abbrev pub AreAffine : List (List (List ℕ)) → Type 0
AreAffine [] = Unit {0}
AreAffine (f ∷ fs) = Each IsLinear f × AreAffine fs

pub record IsQuadratic (S : PathSum) : Type 0 where
  pub terms : EachTerm IsQuadraticTerm S.phase
  pub outputs : AreAffine S.outs
