use Rattle.ps_ring.proofs.StepLaws.{elim_keeps, hh_keeps, omega_keeps}
use Rattle.ps_ring.proofs.laws.step_law.Goals as goal

pub returns : goal.returns
returns c = record { eliminates = elim_keeps; hh = hh_keeps; omega = omega_keeps }
