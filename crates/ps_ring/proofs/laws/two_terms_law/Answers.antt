use Rattle.ps_ring.proofs.TwoTerms.{sum_of_equal, sum_of_half_turn, sum_of_quarter_turn}
use Rattle.ps_ring.proofs.laws.two_terms_law.Goals as goal

pub returns : goal.returns
returns c = record { equal = sum_of_equal; half = sum_of_half_turn; quarter = sum_of_quarter_turn }
