use Rattle.ps_prim.proofs.ClosedSums.{vanish_read, vanishing_is_zero, zero_is_not_one, plain_is_one, one_is_plain}
use Rattle.ps_prim.proofs.laws.closed_law.Goals as goal

pub returns : goal.returns
returns c = record { read = vanish_read; vanishing = vanishing_is_zero; zero = zero_is_not_one; plain = plain_is_one; one = one_is_plain }
