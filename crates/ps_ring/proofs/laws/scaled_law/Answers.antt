use Rattle.ps_ring.proofs.Roots.{same_reflexive, same_sym, same_trans, same_by_powers, same_powers}
use Rattle.ps_ring.proofs.laws.scaled_law.Goals as goal

pub returns : goal.returns
returns c = record { reflexive = same_reflexive; symmetric = same_sym; transitive = same_trans; by_powers = same_by_powers; powers = same_powers }
