use Rattle.ps_prim.proofs.MapWords.{same_nowhere_differs, phase_nowhere_differs, same_is_no_phase, no_phase_is_same, phase_differs_differs}
use Rattle.ps_prim.proofs.laws.map_law.Goals as goal

pub returns : goal.returns
returns c = record {
  same = same_nowhere_differs;
  phase = phase_nowhere_differs;
  exact = same_is_no_phase;
  unturned = no_phase_is_same;
  differs = phase_differs_differs;
}
