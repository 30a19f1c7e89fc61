-- What a path sum stands for.
use Rattle.std.specs.Prelude.{◌≡◌, ◌%◌, ◌++◌, length}
use Rattle.ps_ring.specs.Truths.{Truths, bit}
use Rattle.ps_ring.specs.Sums.{PathValues}
use Rattle.ps_phase.specs.Phases.{phase_value}
use Rattle.ps_sum.specs.Outs.{values}
use Rattle.ps_sum.specs.declared.sums.PathSum.{PathSum}

-- a path sum by its values: inputs come first among the variables, and path variables behind them
abbrev pub path_values : PathSum → PathValues
path_values S = record { m = S.m; k = S.k; phase = λ x y. phase_value S.phase (bit (x ++ y)); outs = λ x y. values S.outs (bit (x ++ y)) }

-- the two sums have the same numbers, and at all inputs and path variables the same phase and outputs
pub record SameValues (S S' : PathSum) : Type 0 where
  pub n_is : S.n ≡ S'.n
  pub m_is : S.m ≡ S'.m
  pub k_is : S.k ≡ S'.k
  pub phase_is : (x y : Truths) → length x ≡ S.n → length y ≡ S.m → (path_values S).phase x y % 4294967296 ≡ (path_values S').phase x y % 4294967296
  pub outs_is : (x y : Truths) → length x ≡ S.n → length y ≡ S.m → (path_values S).outs x y ≡ (path_values S').outs x y
