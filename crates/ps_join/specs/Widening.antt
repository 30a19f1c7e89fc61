-- A sum before the terms of the one behind it are added.
use Rattle.std.specs.Prelude.{◌≡◌, ◌+◌, ◌*◌, ◌<◌, ◌≤◌, length, pos, negsuc, ◌+ℤ◌, ◌≤ℤ◌}
use Rattle.ps_sum.specs.declared.sums.PathSum.{PathSum}
use Rattle.ps_join.specs.declared.putting.Output.{Output}
use Rattle.ps_join.specs.Placing.{Becomes, IsPut}

-- S1 can be widened for S2, behind it, and this is the output that changes
pub record CanWiden (S1 S2 : PathSum) (o : Output) : Type 0 where
  pub qubits : S1.n ≡ S2.n
  pub first_open : 0 < length S1.outs
  pub second_open : 0 < length S2.outs
  pub named : 2 * S1.n + S1.m + S2.m ≤ 512
  pub scaled : (negsuc 1999999999 ≤ℤ (S1.k +ℤ S2.k)) × ((S1.k +ℤ S2.k) ≤ℤ pos 2000000000)
  pub output : Becomes S1.n S1.m S2.m S1.outs S2.outs o

-- S is S1 with the path variables and the scale of S2 beside its own, and this output in its place
pub record IsWidened (S1 S2 : PathSum) (o : Output) (S : PathSum) : Type 0 where
  pub n_is : S.n ≡ S1.n
  pub m_is : S.m ≡ S1.m + S2.m
  pub k_is : S.k ≡ S1.k +ℤ S2.k
  pub phase_is : S.phase ≡ S1.phase
  pub outs_are : IsPut S1.outs o S.outs
