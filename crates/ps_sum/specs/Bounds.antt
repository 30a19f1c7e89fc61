-- Which parts make a path sum.
use Rattle.std.specs.Prelude.{ℕ, ◌≡◌, ◌+◌, ◌<◌, ◌≤◌, ◌≤ℤ◌, false, List, length}
use Rattle.std.proofs.Math.IntN.{ℤ, pos, negsuc}
use Rattle.ps_phase.specs.declared.terms.Term.{Term}
use Rattle.ps_phase.specs.Phases.{phase_occurs}
use Rattle.ps_sum.specs.Outs.{outs_occur}

-- 1 to 64 inputs, at most 512 variables and no others, and an output for each input or none
pub record FitsSum (n m : ℕ) (k : ℤ) (phase : List Term) (outs : List (List (List ℕ))) : Type 0 where
  pub some_qubit : 1 ≤ n
  pub few_qubits : n ≤ 64
  pub named : n + m ≤ 512
  pub scaled_low : negsuc 1999999999 ≤ℤ k
  pub scaled_high : k ≤ℤ pos 2000000000
  pub phase_below : (v : ℕ) → n + m ≤ v → phase_occurs v phase ≡ false
  pub outs_below : (v : ℕ) → n + m ≤ v → outs_occur v outs ≡ false
  pub width : 0 < length outs → length outs ≡ n
