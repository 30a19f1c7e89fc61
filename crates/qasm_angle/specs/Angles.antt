-- Which pairs are angles.
use Rattle.std.specs.Prelude.{◌≡◌, ◌≢◌, ℕ, ◌^◌, ◌<◌, ℤ, pos, ◌+ℤ◌, ◌*ℤ◌, Result, Ok, Err}
use Rattle.qasm_angle.specs.declared.types.Pair.{Pair}
use Rattle.qasm_angle.specs.declared.types.AngleFault.{AngleFault}
use Rattle.qasm_angle.specs.declared.types.AngleFault.TheVariants.{NotDyadic, AngleRange}

-- n is s·2^30
abbrev pub IsUnits : Pair → ℤ → Type 0
IsUnits x n = x.s.num *ℤ pos (2 ^ 30) ≡ n *ℤ pos (2 ^ x.s.shift)

-- u is n modulo 2^32
abbrev pub IsResidue : ℤ → ℕ → Type 0
IsResidue n u = (u < 2 ^ 32) × (k : ℤ) × (n ≡ pos u +ℤ k *ℤ pos (2 ^ 32))

-- the angle of a pair is s·2^30 modulo 2^32, where r is 0 and s·2^30 whole
abbrev pub IsAngle : Pair → Result ℕ AngleFault → Type 0
IsAngle x (Ok u) = (x.r.num ≡ pos 0) × (n : ℤ) × IsUnits x n × IsResidue n u
IsAngle x (Err NotDyadic) = x.r.num ≢ pos 0
IsAngle x (Err AngleRange) = (x.r.num ≡ pos 0) × ((n : ℤ) → IsUnits x n → ⊥)
IsAngle x (Err f) = ⊥
