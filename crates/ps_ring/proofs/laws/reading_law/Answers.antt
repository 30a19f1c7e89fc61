use Rattle.ps_ring.proofs.ReadSteps.{elim_read, hh_read, omega_read}
use Rattle.ps_ring.proofs.ReadJoins.{plain_read, turned_read, join_read, overlap_read}
use Rattle.ps_ring.proofs.laws.reading_law.Goals as goal

pub returns : goal.returns
returns c = record { eliminates = elim_read; hh = hh_read; omega = omega_read; plain = plain_read; turned = turned_read; join = join_read; overlap = overlap_read }
