use Rattle.ps_ring.proofs.Turned.{one_number, sqrt2_twice}
use Rattle.ps_ring.proofs.Roots.{root2_even, root2_odd}
use Rattle.ps_ring.proofs.laws.root_law.Goals as goal

pub returns : goal.returns
returns c = record { one = one_number; twice = sqrt2_twice; even = root2_even; odd = root2_odd }
